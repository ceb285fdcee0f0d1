-- The best so far: what does not beat it leaves it, and what was offered once changes nothing when it is offered again. Assumes nothing.
use mathlib.Core.Path.{◌≡◌, refl, ap, ◌∙◌}
use mathlib.Core.Bool.{Bool, true, false, cond}
use mathlib.Core.List.{List, [], ◌∷◌, foldl}
use Rattle.std.specs.declared.option.Option.{Option}
use Rattle.std.specs.Prelude.{Some, None}
use lib.Dec.{T}
use lib.Ieee.{Float, binary64, fits}
use Rattle.primitives.specs.declared.Point.{Point}
use Rattle.primitives.specs.declared.Witness.{Witness}
use Rattle.primitives.specs.Witnesses.{between_of}
use Rattle.extremes.specs.Sweeps.{taking}
use Rattle.extremes.proofs.Lists.{Each}
use Rattle.extremes.proofs.Senses.{Sense, not_itself, still_beaten}
use Rattle.extremes.proofs.Distances.{distance_fits}
-- its distance is a value of binary64
pub use Rattle.extremes.specs.BestSoFar.{BestFits}

-- what a sweep over points holds: nothing, or the witness of two points
pub data Made : Option Witness → Type 0 where
  nothing : Made None
  found : (p q : Point) → Made (Some (between_of p q))

pub made_fits : {s : Option Witness} → Made s → BestFits s
made_fits nothing = tt
made_fits (found p q) = distance_fits p q

module _ (beats : Float → Float → Bool) where
  chosen : (c : Bool) (a b p q : Point) → Made (Some (cond c (between_of a b) (between_of p q)))
  chosen true a b p q = found a b
  chosen false a b p q = found p q

  pub taking_made : {s : Option Witness} (a b : Point) → Made s → Made (taking beats s (between_of a b))
  unfolding taking
  taking_made a b nothing = found a b
  taking_made a b (found p q) = chosen (beats (between_of p q).d (between_of a b).d) a b p q

  pub row_made : {s : Option Witness} (a : Point) (rs : List Point) → Made s → Made (foldl (λ t b. taking beats t (between_of a b)) s rs)
  row_made a [] m = m
  row_made {s = s} a (b ∷ rs) m = row_made {s = taking beats s (between_of a b)} a rs (taking_made a b m)

  -- there is a best, and w does not beat it
  abbrev pub Unbeaten : Option Witness → Witness → Type 0
  Unbeaten None w = ⊥
  Unbeaten (Some best) w = beats best.d w.d ≡ false

  pub unbeaten_stays : (s : Option Witness) (w : Witness) → Unbeaten s w → taking beats s w ≡ s
  unfolding taking
  unbeaten_stays None w u = absurd u
  unbeaten_stays (Some best) w u = ap (λ (c : Bool). Some (cond c w best)) u

  pub unbeaten_row : {X : Type 0} (witness : X → Witness) (s : Option Witness) (l : List X) → Each (λ (x : X). Unbeaten s (witness x)) l → foldl (λ t x. taking beats t (witness x)) s l ≡ s
  unbeaten_row witness s [] e = refl
  unbeaten_row witness s (x ∷ l) e = ap (λ (t : Option Witness). foldl (λ t x. taking beats t (witness x)) t l) (unbeaten_stays s (witness x) e.0) ∙ unbeaten_row witness s l e.1

-- ---- what is offered again
module _ {order beats : Float → Float → Bool} (σ : Sense order beats) where
  pub taking_fits : (s : Option Witness) (w : Witness) → T (fits binary64 w.d) → BestFits s → BestFits (taking beats s w)
  unfolding taking
  taking_fits None w g f = g
  taking_fits (Some best) w g f = go (beats best.d w.d)
    where
      go : (c : Bool) → T (fits binary64 (cond c w best).d)
      go true = g
      go false = f

  -- what was offered does not beat the best, then or later
  unbeaten_new : (s : Option Witness) (w : Witness) → T (fits binary64 w.d) → Unbeaten beats (taking beats s w) w
  unfolding taking
  unbeaten_new None w g = not_itself σ w.d g
  unbeaten_new (Some best) w g = go (beats best.d w.d) refl
    where
      go : (c : Bool) → beats best.d w.d ≡ c → beats (cond c w best).d w.d ≡ false
      go true e = not_itself σ w.d g
      go false e = e

  pub unbeaten_later : (s : Option Witness) (w v : Witness) → BestFits s → T (fits binary64 w.d) → T (fits binary64 v.d) → Unbeaten beats s w → Unbeaten beats (taking beats s v) w
  unfolding taking
  unbeaten_later None w v f g h u = absurd u
  unbeaten_later (Some best) w v f g h u = go (beats best.d v.d) refl
    where
      go : (c : Bool) → beats best.d v.d ≡ c → beats (cond c v best).d w.d ≡ false
      go true e = still_beaten σ best.d v.d w.d f h g e u
      go false e = u

  -- one witness offered again
  pub taking_again : (s : Option Witness) (w : Witness) → T (fits binary64 w.d) → taking beats (taking beats s w) w ≡ taking beats s w
  taking_again s w g = unbeaten_stays beats (taking beats s w) w (unbeaten_new s w g)

  module _ {X : Type 0} (witness : X → Witness) (fit : (x : X) → T (fits binary64 (witness x).d)) where
    abbrev step : Option Witness → X → Option Witness
    step t x = taking beats t (witness x)

    unbeaten_at_end : (s : Option Witness) (x : X) (l : List X) → BestFits s → Unbeaten beats s (witness x) → Unbeaten beats (foldl step s l) (witness x)
    unbeaten_at_end s x [] f u = u
    unbeaten_at_end s x (y ∷ l) f u = unbeaten_at_end (step s y) x l (taking_fits s (witness y) (fit y) f) (unbeaten_later s (witness x) (witness y) f (fit x) (fit y) u)

    row_unbeaten : (s : Option Witness) (l : List X) → BestFits s → Each (λ (x : X). Unbeaten beats (foldl step s l) (witness x)) l
    row_unbeaten s [] f = tt
    row_unbeaten s (x ∷ l) f =
        let fits_on = taking_fits s (witness x) (fit x) f in
        (unbeaten_at_end (step s x) x l fits_on (unbeaten_new s (witness x) (fit x)), row_unbeaten (step s x) l fits_on)

    -- a whole list of them offered again
    pub row_again : (s : Option Witness) (l : List X) → BestFits s → foldl (λ t x. taking beats t (witness x)) (foldl (λ t x. taking beats t (witness x)) s l) l ≡ foldl (λ t x. taking beats t (witness x)) s l
    row_again s l f = unbeaten_row beats witness (foldl step s l) l (row_unbeaten s l f)

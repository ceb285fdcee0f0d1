-- A witness offered to the best so far, in either sense: when it changes nothing, when only its sum is kept, and what a new best is. Assumes nothing.
use mathlib.Core.Path.{◌≡◌, refl, sym, ◌∙◌}
use mathlib.Core.Bool.{Bool, true, false, cond}
use lib.Dec.{T}
use lib.Ieee.{Float, binary64, eq, fits}
use Rattle.std.specs.declared.option.Option.{Option}
use Rattle.std.specs.Prelude.{Some, None}
use Rattle.ieee754.specs.Root.{root_of}
use Rattle.primitives.specs.declared.Witness.{Witness}
use Rattle.primitives.specs.Witnesses.{better_of}
use Rattle.extremes.specs.BestSoFar.{Sound, found_of}
use Rattle.extremes.specs.RootSense.{RootSense}
use Rattle.extremes.specs.Sweeps.{taking}
use Rattle.extremes.proofs.Taking.{unbeaten_stays}

-- w is a witness whose distance is the root of s
module _ {order beats : Float → Float → Bool} (ρ : RootSense order beats) where
  -- a sum that stands in the order to the best's: no root is needed
  pub sum_not_better : (sum : Float) (found : Option Witness) (s : Float) (w : Witness) → Sound sum found → T (fits binary64 s) → order s sum ≡ true → w.d ≡ root_of s → taking beats found w ≡ found
  sum_not_better sum None s w h f l r = absurd (ρ.no_nan s (rw h.kept at l))
  sum_not_better sum (Some best) s w h f l r = unbeaten_stays beats (Some best) w (rw (r, h.kept) (ρ.roots s sum f h.fitting l))

  module _ (sum : Float) (best : Witness) (s : Float) (w : Witness) (h : Sound sum (Some best)) (f : T (fits binary64 s)) (r : w.d ≡ root_of s) where
    -- distances that compare equal, of sums out of order, are the same float
    pub same_distance : order s sum ≡ false → eq w.d best.d ≡ true → w.d ≡ best.d
    same_distance l e = r ∙ ρ.equal s sum f h.fitting l (rw (r, h.kept) at e) ∙ sym h.kept

    -- a root that compares equal, of a sum out of order: the later sum is the best's too
    pub equal_sum_sound : order s sum ≡ false → eq w.d best.d ≡ true → Sound s (Some best)
    equal_sum_sound l e = record { kept = sym (same_distance l e) ∙ r; fitting = f }

-- the same root: the best with the later sum, which spares the roots of more sums
pub sum_renewed : (beats : Float → Float → Bool) (best w : Witness) (s : Float) → T (fits binary64 s) → w.d ≡ root_of s → beats best.d w.d ≡ false → w.d ≡ best.d → (taking beats (Some best) w ≡ Some best) × Sound s (Some best)
sum_renewed beats best w s f r l q = (unbeaten_stays beats (Some best) w l, record { kept = sym q ∙ r; fitting = f })

-- w as the best, with s
pub new_sound : (s : Float) (w : Witness) → T (fits binary64 s) → w.d ≡ root_of s → Sound s (Some w)
new_sound s w f r = record { kept = r; fitting = f }

module _ (beats : Float → Float → Bool) (best w : Witness) where
  -- the better of two: the new one if its distance beats the best's
  pub new_is_better : beats best.d w.d ≡ true → better_of beats best w ≡ w
  new_is_better l = rw l

  -- else the best
  pub best_is_better : beats best.d w.d ≡ false → better_of beats best w ≡ best
  best_is_better l = rw l

  -- it stands for a witness if both do
  pub better_found : found_of best ≡ Some best → found_of w ≡ Some w → found_of (better_of beats best w) ≡ taking beats (Some best) w
  unfolding taking
  better_found b n = go (beats best.d w.d)
    where
      go : (t : Bool) → found_of (cond t w best) ≡ Some (cond t w best)
      go true = n
      go false = b

-- the first is taken
pub first_taken : (beats : Float → Float → Bool) (w : Witness) → taking beats None w ≡ Some w
unfolding taking
first_taken beats w = refl

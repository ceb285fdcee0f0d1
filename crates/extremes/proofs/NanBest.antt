-- A best whose distance is NaN is never replaced, whatever is offered. Assumes nothing.
use mathlib.Core.Path.{◌≡◌, refl, sym, ap, ◌∙◌, subst}
use mathlib.Core.Bool.{Bool, true, false, not, true≢false}
use mathlib.Core.List.{List, [], ◌∷◌, foldl}
use lib.Dec.{T}
use lib.Ieee.{Float}
use Rattle.std.specs.declared.option.Option.{Option}
use Rattle.std.specs.Prelude.{Some, None}
use Rattle.primitives.specs.declared.Witness.{Witness}
use Rattle.extremes.specs.BestSoFar.{at_nan}
use Rattle.extremes.specs.Sweeps.{taking}
use Rattle.extremes.proofs.Senses.{Sense}
use Rattle.extremes.proofs.Taking.{Unbeaten, unbeaten_stays}

module _ {order beats : Float → Float → Bool} (σ : Sense order beats) where
  nan_unbeaten : (s : Option Witness) → at_nan s ≡ true → (w : Witness) → Unbeaten beats s w
  unfolding at_nan
  nan_unbeaten (Some best) n w = go (beats best.d w.d) refl
    where
      go : (t : Bool) → beats best.d w.d ≡ t → t ≡ false
      go false e = refl
      go true e = absurd (subst (λ (c : Bool). T (not c)) n (σ.loser best.d w.d e))
  nan_unbeaten None n w = absurd (true≢false (sym n))

  -- one witness
  pub nan_stays : (s : Option Witness) → at_nan s ≡ true → (w : Witness) → taking beats s w ≡ s
  nan_stays s n w = unbeaten_stays beats s w (nan_unbeaten s n w)

  -- a row of witnesses
  pub nan_row_stays : (s : Option Witness) → at_nan s ≡ true → {X : Type 0} (witness : X → Witness) (l : List X) → foldl (λ t x. taking beats t (witness x)) s l ≡ s
  nan_row_stays s n witness [] = refl
  nan_row_stays s n witness (x ∷ l) = ap (λ (t : Option Witness). foldl (λ t x. taking beats t (witness x)) t l) (nan_stays s n (witness x)) ∙ nan_row_stays s n witness l

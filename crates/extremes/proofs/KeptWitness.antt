-- The best so far: what the witness that is kept stands for, and its distance. Assumes nothing.
use mathlib.Core.Path.{◌≡◌, refl, ap}
use mathlib.Core.Bool.{Bool, true, false, cond}
use lib.Dec.{T}
use lib.Ieee.{Float, binary64, lt, eq, fits}
use Rattle.std.specs.declared.option.Option.{Option}
use Rattle.std.specs.Prelude.{Some, None}
use Rattle.std.proofs.lemmas.Float.{eq-not_lt}
use Rattle.ieee754.specs.MinMax.{positive_zero}
use Rattle.ieee754.specs.Root.{root_of}
use Rattle.ieee754.proofs.NotBelowZero.{root_not_below}
use Rattle.ieee754.proofs.RootLaws.{root_fits}
use Rattle.primitives.specs.declared.Witness.{Witness}
use Rattle.extremes.specs.BestSoFar.{Sound, BestFits, found_of, at_zero}

-- it is a value of binary64
pub sound_fits : (sum : Float) (found : Option Witness) → Sound sum found → BestFits found
sound_fits sum None h = tt
sound_fits sum (Some best) h = rw h.kept (root_fits sum h.fitting)

module _ (w : Witness) where
  pub none_where_below : lt w.d positive_zero ≡ true → found_of w ≡ None
  none_where_below e = ap (λ (t : Bool). cond t None (Some w)) e

  pub found_where_not_below : lt w.d positive_zero ≡ false → found_of w ≡ Some w
  found_where_not_below e = ap (λ (t : Bool). cond t None (Some w)) e

  -- a root is never below 0
  pub root_found : (s : Float) → T (fits binary64 s) → w.d ≡ root_of s → found_of w ≡ Some w
  root_found s f r = found_where_not_below (rw r (root_not_below s f positive_zero (unfold eq in refl)))

  -- 0 is not below 0
  pub zero_found : at_zero (found_of w) ≡ eq w.d positive_zero
  unfolding at_zero
  zero_found = go (lt w.d positive_zero) (eq w.d positive_zero) refl refl
    where
      go : (t z : Bool) → lt w.d positive_zero ≡ t → eq w.d positive_zero ≡ z → at_zero (cond t None (Some w)) ≡ z
      go false z e q = q
      go true false e q = refl
      go true true e q = absurd (eq-not_lt w.d positive_zero (rw q tt) (rw e tt))

-- The absolute value by std's `abs`, and by the test for 0. Assumes nothing.
use mathlib.Core.Bool.{true, false, false≢true}
use mathlib.Core.Path.{◌≡◌, refl, sym}
use Prim.Native.Nat.{zero, suc}
use lib.Dec.{T}
use lib.Ieee.{Float, nan, inf, fin, binary64, eq, fits, of_bits}
use Rattle.std.specs.Float.{float_with_sign}
use Rattle.ieee754.specs.MinMax.{absolute_of}
use Rattle.ieee754.proofs.RootCases.{not_zero}
use Rattle.ieee754.proofs.RootLaws.{zero_is_positive_zero}

-- clearing the sign bit is std's `abs`
pub absolute_is : (x : Float) → float_with_sign false x ≡ absolute_of x
unfolding float_with_sign
absolute_is nan = refl
absolute_is (inf s) = refl
absolute_is (fin s m e) = refl

-- of a zero, by the test for it
pub absolute_of_zero : (x : Float) → T (fits binary64 x) → eq x (of_bits binary64 0) ≡ true → of_bits binary64 0 ≡ absolute_of x
unfolding eq of_bits
absolute_of_zero nan f h = absurd (false≢true h)
absolute_of_zero (inf s) f h = absurd (false≢true h)
absolute_of_zero (fin s zero e) f h = sym (zero_is_positive_zero e (unfold fits in f))
absolute_of_zero (fin s (suc m) e) f h = absurd (not_zero s m e h)

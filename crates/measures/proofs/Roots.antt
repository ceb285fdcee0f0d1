-- Which floats have a root that is a number. Assumes nothing.
use mathlib.Core.Path.{◌≡◌, refl, sym, ◌∙◌}
use mathlib.Core.Bool.{true, false, not, true≢false, false≢true}
use Prim.Native.Nat.{ℕ, zero, suc, ◌*◌, ◌<◌}
use native.Mathlib.Nat.{zero-mul, mul-one, mul-pos, zero-lt-suc}
use native.Mathlib.Omega.{arith}
use borrow.Author.Tests.{eqb-true}
use lib.IntN.{ℤ, pos}
use lib.Dec.{T}
use lib.Ieee.{Float, nan, inf, fin, binary64, up, down, le, fits, is_nan}
use lib.Ieee.Bits.{is_true}
use lib.Ieee.Fits.{up_pos}
use Rattle.ieee754.specs.MinMax.{positive_zero}
use Rattle.ieee754.specs.Root.{root_of}
use Rattle.ieee754.proofs.SignClear.{sign_clear_number}
use Rattle.ieee754.proofs.RootLaws.{root_sign_clear, zero_below_clear}
use Rattle.ieee754.proofs.NotBelowZero.{both_left}

positive : (m : ℕ) (e : ℤ) → suc m * up e ≡ 0 → ⊥
positive m e z = let p : 0 < suc m * up e = mul-pos (zero-lt-suc m) (up_pos e) in omega arith

-- a float with its sign set is at least 0 only where it is 0
zero_below : (n : ℕ) (e : ℤ) → le positive_zero (fin true n e) ≡ true → n * up e ≡ 0
unfolding le
zero_below n e h = sym (mul-one (n * up e)) ∙ sym (eqb-true _ _ (both_left _ _ h)) ∙ zero-mul (down e)

zero_at_least : (e : ℤ) → le positive_zero (fin true 0 e) ≡ true
unfolding le
zero_at_least e = rw (zero-mul (down e), zero-mul (up e))

-- what is at least 0 has a root that is no NaN
pub root_real : (x : Float) → T (fits binary64 x) → le positive_zero x ≡ true → T (not (is_nan (root_of x)))
root_real nan f h = absurd (false≢true (unfold le in h))
root_real (inf true) f h = absurd (false≢true (unfold le in h))
root_real (inf false) f h = sign_clear_number (root_of (inf false)) (root_sign_clear (inf false) tt f)
root_real (fin true zero e) f h = unfold root_of is_nan in tt
root_real (fin true (suc m) e) f h = absurd (positive m e (zero_below (suc m) e h))
root_real (fin false m e) f h = sign_clear_number (root_of (fin false m e)) (root_sign_clear (fin false m e) tt f)

-- the root of any other is NaN
pub root_nan : (x : Float) → T (fits binary64 x) → le positive_zero x ≡ false → root_of x ≡ nan
root_nan nan f h = unfold root_of in refl
root_nan (inf true) f h = unfold root_of in refl
root_nan (inf false) f h = absurd (true≢false (unfold le in h))
root_nan (fin true zero e) f h = absurd (true≢false (sym (zero_at_least e) ∙ h))
root_nan (fin true (suc m) e) f h = unfold root_of in refl
root_nan (fin false m e) f h = absurd (true≢false (sym (is_true _ (zero_below_clear (pos 0) (fin false m e) tt (unfold fits in tt) f)) ∙ h))

-- A finite number's units are exact, and below 2 ^ 2098. Assumes nothing.
use mathlib.Core.Bool.{Bool, ◌&&◌}
use mathlib.Core.Path.{◌≡◌, sym, ap, ◌∙◌}
use Prim.Native.Nat.{ℕ, zero, suc, ◌+◌, ◌-◌, ◌*◌, ◌/◌, ◌%◌, ◌^◌, ◌≤◌, ◌<◌}
use native.Mathlib.Nat.{le_of_eq, lt_of_lt_of_le, lt_of_le_of_lt, zero-mul, mul-one, mul_assoc, mul_right_comm, mul-lt-mul_of_pos_right, mul-div_cancel, div-one, lt_of_mul-lt-mul_right}
use native.Mathlib.Omega.{arith}
use lib.Dec.{T, leb, ltb, eqb, leb→le, ltb→lt, lit<}
use lib.Ieee.{fin, binary64, up, down, fits}
use lib.Ieee.Fits.{down_pos, and_l, and_r}
use lib.IntN.{ℤ, pos, negsuc}
use lib.Pow.{pow-add, pow_pos}
use Rattle.ieee754.specs.Root.{units_of}
use Rattle.ieee754.proofs.Arithmetic.{pow_le}
use Rattle.ieee754.proofs.RootBounds.{top}
use Rattle.ieee754.proofs.SquaredRoot.{D}

down_divides : (n : ℕ) (e : ℤ) → down e ≤ 2 ^ 1074 → n * D / down e * down e ≡ n * D
down_divides n (pos k) h = mul-one (n * D / 1) ∙ div-one (n * D)
down_divides n (negsuc k) h =
    let j = 1074 - suc k in
    let e : n * D ≡ n * 2 ^ j * 2 ^ suc k = ap (λ (z : ℕ). n * 2 ^ z) (back k (pow_le (suc k) 1074 h)) ∙ ap (λ (z : ℕ). n * z) (pow-add 2 j (suc k)) ∙ sym (mul_assoc n (2 ^ j) (2 ^ suc k)) in
    ap (λ (z : ℕ). z / 2 ^ suc k * 2 ^ suc k) e ∙ ap (λ (z : ℕ). z * 2 ^ suc k) (mul-div_cancel (n * 2 ^ j) (pow_pos (suc k))) ∙ sym e
  where
    back : (k : ℕ) → suc k ≤ 1074 → 1074 ≡ 1074 - suc k + suc k
    back k h = omega arith

fits_down : (s : Bool) (m : ℕ) (e : ℤ) → T (fits binary64 (fin s (suc m) e)) → down e ≤ 2 ^ 1074
unfolding fits
fits_down s m e t = leb→le (down e) (2 ^ 1074) (and_r (eqb (suc m % 2) 1 && ltb (suc m) (2 ^ 53)) (leb (down e) (2 ^ 1074)) (and_l (eqb (suc m % 2) 1 && ltb (suc m) (2 ^ 53) && leb (down e) (2 ^ 1074)) (ltb (suc m * up e) (2 ^ 1024 * down e)) t))

fits_top : (s : Bool) (m : ℕ) (e : ℤ) → T (fits binary64 (fin s (suc m) e)) → suc m * up e < 2 ^ 1024 * down e
unfolding fits
fits_top s m e t = ltb→lt (suc m * up e) (2 ^ 1024 * down e) (and_r (eqb (suc m % 2) 1 && ltb (suc m) (2 ^ 53) && leb (down e) (2 ^ 1074)) (ltb (suc m * up e) (2 ^ 1024 * down e)) t)

none : (e : ℤ) → 0 * up e * D ≡ 0
none e = ap (λ (z : ℕ). z * D) (zero-mul (up e)) ∙ zero-mul D

pub units_of_zero : (s : Bool) (e : ℤ) → units_of (fin s zero e) ≡ 0
unfolding units_of
units_of_zero s e = ap (λ (z : ℕ). z / down e) (none e ∙ sym (zero-mul (down e))) ∙ mul-div_cancel 0 (down_pos e)

pub units_exact : (s : Bool) (m : ℕ) (e : ℤ) → T (fits binary64 (fin s m e)) → m * up e * D ≡ units_of (fin s m e) * down e
unfolding units_of
units_exact s zero e f = none e ∙ sym (ap (λ (z : ℕ). z * down e) (units_of_zero s e) ∙ zero-mul (down e))
units_exact s (suc m) e f = sym (down_divides (suc m * up e) e (fits_down s m e f))

pub units_below_top : (s : Bool) (m : ℕ) (e : ℤ) → T (fits binary64 (fin s m e)) → units_of (fin s m e) < top
units_below_top s zero e f = lt_of_le_of_lt (le_of_eq (units_of_zero s e)) (lit< tt)
units_below_top s (suc m) e f =
    lt_of_mul-lt-mul_right (down e)
    (lt_of_le_of_lt (le_of_eq (sym (units_exact s (suc m) e f)))
    (lt_of_lt_of_le (mul-lt-mul_of_pos_right (fits_top s m e f) (pow_pos 1074)) (le_of_eq (mul_right_comm (2 ^ 1024) (down e) D))))

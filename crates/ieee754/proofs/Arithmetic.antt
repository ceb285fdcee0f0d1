-- Whole-number arithmetic: squares, sums and powers of two. Assumes nothing.
use mathlib.Core.Path.{◌≡◌, sym, ap, ◌∙◌}
use Prim.Native.Nat.{ℕ, suc, ◌+◌, ◌*◌, ◌^◌, ◌≤◌, ◌<◌, zero-le}
use native.Mathlib.Nat.{le_of_lt, lt_of_le_of_lt, lt_of_not-le, not-le_of_lt, le_of_suc-le-suc, mul_comm, mul_assoc, mul-mul-mul_comm, add-mul, mul-add, mul-le-mul, mul-le-mul_right, mul-lt-mul_of_pos_left}
use native.Mathlib.Omega.{arith}
use lib.Pow.{pow-lt}
use Rattle.ieee754.specs.Root.{square}

pub add_le_add : (a b c d : ℕ) → a ≤ c → b ≤ d → a + b ≤ c + d
add_le_add a b c d h k = omega arith

pub pow_le : (a b : ℕ) → 2 ^ a ≤ 2 ^ b → a ≤ b
pow_le a b h = le_of_suc-le-suc (lt_of_not-le (λ (g : suc b ≤ a). not-le_of_lt (pow-lt g) h))

pub times4 : (a b : ℕ) → a * 2 * (b * 2) ≡ 4 * (a * b)
times4 a b = mul-mul-mul_comm a 2 b 2 ∙ mul_comm (a * b) 4

pub sq_suc : (n : ℕ) → (n + 1) * (n + 1) ≡ n * n + 2 * n + 1
sq_suc n = omega (arith, add-mul n 1 (n + 1), mul-add n n 1)

pub sq_odd : (q : ℕ) → (q * 2 + 1) * (q * 2 + 1) ≡ 4 * (q * q) + 4 * q + 1
sq_odd q = omega (arith, sq_suc (q * 2), times4 q q)

pub sq_mono : {a b : ℕ} → a ≤ b → square a ≤ square b
sq_mono h = mul-le-mul h h

pub sq_lt : {a b : ℕ} → a < b → square a < square b
sq_lt {a} {b} h = lt_of_le_of_lt (mul-le-mul_right a (le_of_lt h)) (mul-lt-mul_of_pos_left h (lt_of_le_of_lt zero-le h))

pub doubled_square : (q P : ℕ) → square (q * P + q * P) ≡ 4 * (q * q) * (P * P)
doubled_square q P = ap square (sym (twice (q * P))) ∙ times4 (q * P) (q * P) ∙ ap (λ (z : ℕ). 4 * z) (mul-mul-mul_comm q P q P) ∙ sym (mul_assoc 4 (q * q) (P * P))
  where
    twice : (n : ℕ) → n * 2 ≡ n + n
    twice n = omega arith

pub midpoint_square : (q P : ℕ) → square (q * P + (q + 1) * P) ≡ (4 * (q * q) + 4 * q + 1) * (P * P)
midpoint_square q P = ap square (sym (add-mul q (q + 1) P)) ∙ mul-mul-mul_comm (q + (q + 1)) P (q + (q + 1)) P ∙ ap (λ (z : ℕ). z * (P * P)) (ap square (odd q) ∙ sq_odd q)
  where
    odd : (q : ℕ) → q + (q + 1) ≡ q * 2 + 1
    odd q = omega arith

pub spread : (a b C : ℕ) → (4 * a + 4 * b + 1) * C ≡ 4 * (a * C) + 4 * (b * C) + C
spread a b C = omega (arith, add-mul (4 * a + 4 * b) 1 C, add-mul (4 * a) (4 * b) C, mul_assoc 4 a C, mul_assoc 4 b C)

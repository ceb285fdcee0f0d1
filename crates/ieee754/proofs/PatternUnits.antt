-- The units of a pattern grow with the pattern. Assumes nothing.
use mathlib.Core.Logic.{◌⊎◌, inl, inr}
use mathlib.Core.Path.{◌≡◌, refl, sym, ap, ◌∙◌, subst}
use Prim.Native.Nat.{ℕ, zero, suc, ◌+◌, ◌-◌, ◌*◌, ◌/◌, ◌%◌, ◌^◌, ◌≤◌, ◌<◌}
use native.Mathlib.Nat.{le_refl, le_trans, le_of_eq, le_of_lt, eq-or-lt_of_le, le_dest, mul-lt-mul_of_pos_right, add-zero, add-suc, pow-suc}
use native.Mathlib.Omega.{arith}
use lib.Pow.{pow_pos}
use Rattle.ieee754.specs.InnerRoot.{units_of_fields, units_of_pattern}

pub units_by_fields : (b x t : ℕ) → b / 2 ^ 52 ≡ x → b % 2 ^ 52 ≡ t → units_of_pattern b ≡ units_of_fields x t
unfolding units_of_pattern
units_by_fields b x t e f = ap (λ (z : ℕ). units_of_fields z (b % 2 ^ 52)) e ∙ ap (λ (z : ℕ). units_of_fields x z) f

within : (x t : ℕ) → t < 2 ^ 52 → units_of_fields x t < units_of_fields x (suc t)
within zero t h = le_refl (suc t)
within (suc x) t h = mul-lt-mul_of_pos_right (one t) (pow_pos x)
  where
    one : (t : ℕ) → 2 ^ 52 + t < 2 ^ 52 + suc t
    one t = omega arith

across : (x : ℕ) → units_of_fields x (2 ^ 52 - 1) < units_of_fields (suc x) 0
across zero = omega arith
across (suc x) = omega (arith, pow-suc 2 x, pow_pos x)

pub units_step : (b : ℕ) → units_of_pattern b < units_of_pattern (suc b)
units_step b = go (eq-or-lt_of_le (most b))
  where
    most : (b : ℕ) → b % 2 ^ 52 ≤ 2 ^ 52 - 1
    most b = omega arith

    go : (b % 2 ^ 52 ≡ 2 ^ 52 - 1) ⊎ (b % 2 ^ 52 < 2 ^ 52 - 1) → units_of_pattern b < units_of_pattern (suc b)
    go (inl e) =
        rw (units_by_fields b (b / 2 ^ 52) (2 ^ 52 - 1) refl e, units_by_fields (suc b) (suc (b / 2 ^ 52)) 0 (omega arith) (omega arith)) (across (b / 2 ^ 52))
    go (inr l) =
        rw (units_by_fields b (b / 2 ^ 52) (b % 2 ^ 52) refl refl, units_by_fields (suc b) (b / 2 ^ 52) (suc (b % 2 ^ 52)) (omega arith) (omega arith)) (within (b / 2 ^ 52) (b % 2 ^ 52) (omega arith))

more : (a d : ℕ) → units_of_pattern a ≤ units_of_pattern (a + d)
more a zero = le_of_eq (ap units_of_pattern (sym (add-zero a)))
more a (suc d) = le_trans (more a d) (le_trans (le_of_lt (units_step (a + d))) (le_of_eq (ap units_of_pattern (sym (add-suc a d)))))

pub units_keep_order : (a b : ℕ) → a ≤ b → units_of_pattern a ≤ units_of_pattern b
units_keep_order a b h = subst (λ (z : ℕ). units_of_pattern a ≤ units_of_pattern z) (le_dest h).1 (more a (le_dest h).0)

pub units_at : (c q : ℕ) → 2 ^ 52 ≤ q → q ≤ 2 ^ 53 → units_of_pattern (c * 2 ^ 52 + q) ≡ q * 2 ^ c
units_at c q h k = go (eq-or-lt_of_le k)
  where
    go : (q ≡ 2 ^ 53) ⊎ (q < 2 ^ 53) → units_of_pattern (c * 2 ^ 52 + q) ≡ q * 2 ^ c
    go (inl e) = units_by_fields (c * 2 ^ 52 + q) (suc (suc c)) 0 (omega arith) (omega arith) ∙ omega (arith, pow-suc 2 c, ap (λ (z : ℕ). z * 2 ^ c) e)
    go (inr l) = units_by_fields (c * 2 ^ 52 + q) (suc c) (q - 2 ^ 52) (omega arith) (omega arith) ∙ ap (λ (z : ℕ). z * 2 ^ c) (back q h)
      where
        back : (q : ℕ) → 2 ^ 52 ≤ q → 2 ^ 52 + (q - 2 ^ 52) ≡ q
        back q h = omega arith

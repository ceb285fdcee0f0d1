-- A pattern's value in units, and the patterns that positive finite numbers have. Assumes nothing.
use mathlib.Core.Bool.{Bool, true, false, not, cond}
use mathlib.Core.Path.{◌≡◌, refl, sym, ap, ◌∙◌, subst}
use Prim.Native.Nat.{ℕ, zero, suc, ◌+◌, ◌*◌, ◌/◌, ◌%◌, ◌^◌, ◌≤◌, ◌<◌}
use native.Mathlib.Nat.{mul-one, mul-div_cancel, lt_of_not-le, lt_of_lt_of_le}
use native.Mathlib.Omega.{arith}
use lib.Arith.{lt→nleb, le→nltb}
use lib.Dec.{T, leb, eqb, eqb→eq, le→leb, lit<}
use lib.Ieee.{Float, nan, inf, fin, binary64, down, nan_bits, fits, odd, of_fields, of_bits, to_bits}
use lib.Ieee.Bits.{nan_bits_above, of_bits-to_bits, is_false, is_true}
use lib.Ieee.Exact.{HasValue, odd_sign}
use lib.Ieee.Fits.{down_pos}
use lib.Ieee.Positive.{positive, positive_of_value}
use Rattle.ieee754.specs.Root.{units_of}
use Rattle.ieee754.specs.InnerRoot.{units_of_fields, units_of_pattern, PositiveFinite}
use Rattle.ieee754.proofs.PatternUnits.{units_keep_order}

-- ---- a pattern's value
fields : (b : ℕ) → b < 2 ^ 63 → of_bits binary64 b ≡ of_fields binary64 false (b / 2 ^ 52) (b % 2 ^ 52)
unfolding of_bits
fields b h =
    ap (λ (s : Bool). of_fields binary64 s (b % 2 ^ 63 / 2 ^ 52) (b % 2 ^ 52)) (is_false (leb (2 ^ 63) b) (lt→nleb (2 ^ 63) b h))
    ∙ ap (λ (x : ℕ). of_fields binary64 false x (b % 2 ^ 52)) (field b h)
  where
    field : (b : ℕ) → b < 2 ^ 63 → b % 2 ^ 63 / 2 ^ 52 ≡ b / 2 ^ 52
    field b h = omega arith

fields_val : (x t : ℕ) → x < 2047 → HasValue (of_fields binary64 false x t) false (units_of_fields x t) (2 ^ 1074)
unfolding of_fields
fields_val zero t h = subst (λ (z : ℕ). HasValue (odd 53 false t 0 1074) false z (2 ^ 1074)) (mul-one t) (odd_sign 53 false t 0 1074)
fields_val (suc x) t h = go (eqb (suc x) 2047) (eqb→eq (suc x) 2047)
  where
    go : (b : Bool) → (T b → suc x ≡ 2047) → HasValue (cond b (cond (eqb t 0) (inf false) nan) (odd 53 false (2 ^ 52 + t) x 1074)) false ((2 ^ 52 + t) * 2 ^ x) (2 ^ 1074)
    go true e = absurd (clash (e tt))
      where
        clash : suc x ≡ 2047 → ⊥
        clash e = omega arith
    go false e = odd_sign 53 false (2 ^ 52 + t) x 1074

pub pattern_value : (b : ℕ) → b < 9218868437227405312 → HasValue (of_bits binary64 b) false (units_of_pattern b) (2 ^ 1074)
unfolding units_of_pattern
pattern_value b h = subst (λ (z : Float). HasValue z false (units_of_fields (b / 2 ^ 52) (b % 2 ^ 52)) (2 ^ 1074)) (sym (fields b (omega arith))) (fields_val (b / 2 ^ 52) (b % 2 ^ 52) (omega arith))

-- ---- which patterns positive finite numbers have
odd_below : (q k : ℕ) → T (positive (odd 53 true q k 1074)) → ⊥
unfolding odd
odd_below zero k p = p
odd_below (suc q) k p = p

below_zero : (x t : ℕ) → T (positive (of_fields binary64 true x t)) → ⊥
unfolding of_fields
below_zero zero t p = odd_below t 0 p
below_zero (suc x) t p = go (eqb (suc x) 2047) (eqb t 0) p
  where
    go : (b d : Bool) → T (positive (cond b (cond d (inf true) nan) (odd 53 true (2 ^ 52 + t) x 1074))) → ⊥
    go true true p = p
    go true false p = p
    go false d p = odd_below (2 ^ 52 + t) x p

at_top : (s : Bool) (t : ℕ) → T (positive (of_fields binary64 s 2047 t)) → ⊥
unfolding of_fields
at_top s t p = go (eqb t 0) p
  where
    go : (d : Bool) → T (positive (cond d (inf s) nan)) → ⊥
    go true p = p
    go false p = p

not_zero : T (positive (of_bits binary64 0)) → ⊥
unfolding of_bits
not_zero p = p

sign_set : (b : ℕ) → 2 ^ 63 ≤ b → of_bits binary64 b ≡ of_fields binary64 true (b % 2 ^ 63 / 2 ^ 52) (b % 2 ^ 52)
unfolding of_bits
sign_set b h = ap (λ (s : Bool). of_fields binary64 s (b % 2 ^ 63 / 2 ^ 52) (b % 2 ^ 52)) (is_true (leb (2 ^ 63) b) (le→leb (2 ^ 63) b h))

positive_finite_of : (b : ℕ) → T (positive (of_bits binary64 b)) → PositiveFinite b
positive_finite_of b p = record { above = lt_of_not-le (λ (h : b ≤ 0). not_zero (subst (λ (z : ℕ). T (positive (of_bits binary64 z))) (none b h) p)); below = go (lt_of_not-le (λ (h : 2 ^ 63 ≤ b). below_zero (b % 2 ^ 63 / 2 ^ 52) (b % 2 ^ 52) (subst (λ (z : Float). T (positive z)) (sign_set b h) p))) }
  where
    none : (b : ℕ) → b ≤ 0 → b ≡ 0
    none b h = omega arith

    field : (b : ℕ) → b < 2 ^ 63 → 9218868437227405312 ≤ b → b / 2 ^ 52 ≡ 2047
    field b h k = omega arith

    go : b < 2 ^ 63 → b < 9218868437227405312
    go l = lt_of_not-le (λ (h : 9218868437227405312 ≤ b). at_top false (b % 2 ^ 52) (subst (λ (x : ℕ). T (positive (of_fields binary64 false x (b % 2 ^ 52)))) (field b l h) (subst (λ (z : Float). T (positive z)) (fields b l) p)))

pub positive_finite_pattern : (s : Float) → T (fits binary64 s) → T (positive s) → PositiveFinite (to_bits binary64 s)
positive_finite_pattern s f p = positive_finite_of (to_bits binary64 s) (subst (λ (z : Float). T (positive z)) (sym (of_bits-to_bits binary64 s f)) p)

-- ---- the units of a number are those of its pattern
pub units_of_value : (s : Float) (n : ℕ) → HasValue s false n (2 ^ 1074) → units_of s ≡ n
unfolding units_of
units_of_value (fin s m e) n v = ap (λ (z : ℕ). z / down e) v.1 ∙ mul-div_cancel n (down_pos e)
units_of_value nan n v = elim v [ ]
units_of_value (inf _) n v = elim v [ ]

pub units_of_float : (s : Float) → T (fits binary64 s) → T (positive s) → units_of s ≡ units_of_pattern (to_bits binary64 s)
units_of_float s f p = units_of_value s (units_of_pattern (to_bits binary64 s)) (subst (λ (z : Float). HasValue z false (units_of_pattern (to_bits binary64 s)) (2 ^ 1074)) (of_bits-to_bits binary64 s f) (pattern_value (to_bits binary64 s) (positive_finite_pattern s f p).below))

pub positive_of_pattern : (b : ℕ) → PositiveFinite b → T (positive (of_bits binary64 b))
positive_of_pattern b h = positive_of_value (of_bits binary64 b) (units_of_pattern b) (2 ^ 1074) (pattern_value b h.below) (lt_of_lt_of_le one (units_keep_order 1 b h.above))
  where
    one : 0 < units_of_pattern 1
    one = unfold units_of_pattern in lit< tt

pub finite_pattern_no_nan : (b : ℕ) → b < 9218868437227405312 → T (not (nan_bits binary64 b))
finite_pattern_no_nan b h = subst (λ (t : Bool). T (not t)) (sym (nan_bits_above binary64 b)) (le→nltb (2047 * 2 ^ 52) (b % 2 ^ 63) (omega arith))

-- they have 53 binary digits at most, and zeros
pub units_have_53_digits : (b : ℕ) → (M : ℕ) × (k : ℕ) × (units_of_pattern b ≡ M * 2 ^ k) × (M < 2 ^ 53)
unfolding units_of_pattern
units_have_53_digits b = go (b / 2 ^ 52) (b % 2 ^ 52) (small b)
  where
    small : (b : ℕ) → b % 2 ^ 52 < 2 ^ 52
    small b = omega arith

    add : (t : ℕ) → t < 2 ^ 52 → 2 ^ 52 + t < 2 ^ 53
    add t h = omega arith

    less : (t : ℕ) → t < 2 ^ 52 → t < 2 ^ 53
    less t h = omega arith

    go : (x t : ℕ) → t < 2 ^ 52 → (M : ℕ) × (k : ℕ) × (units_of_fields x t ≡ M * 2 ^ k) × (M < 2 ^ 53)
    go zero t h = (t, 0, sym (mul-one t), less t h)
    go (suc x) t h = (2 ^ 52 + t, x, refl, add t h)

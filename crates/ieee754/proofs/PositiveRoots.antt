-- The root of positive finite numbers: its square, rounded, has the same root, and it keeps the order. Assumes nothing.
use mathlib.Core.Bool.{true, false, true≢false}
use mathlib.Core.Path.{◌≡◌, refl, sym, ap, ◌∙◌, subst}
use Prim.Native.Nat.{ℕ, ◌-◌, ◌*◌, ◌/◌, ◌^◌, ◌≤◌, ◌<◌}
use native.Mathlib.Nat.{le_trans, le_of_eq, lt_of_le_of_lt, mul_assoc, mul-mul-mul_comm, mul-le-mul_right, mul-pos, le_of_mul-le-mul_right}
use native.Mathlib.Omega.{arith}
use lib.Dec.{T, lit<}
use lib.Ieee.{Float, fin, binary64, round, mul, le, fits, of_bits, to_bits}
use lib.Ieee.Exact.{HasValue}
use lib.Ieee.Nearest.{closest, closest_same, div_same}
use lib.Ieee.Order.{le_of_values}
use lib.Ieee.Positive.{positive, num, den, den_pos, value→cross, positive_of_value, values_of_le}
use lib.Ieee.Scale.{round_same, grid, round_val}
use lib.Pow.{pow_pos}
use lib.Ieee as Ieee
use Rattle.ieee754.specs.Root.{units_of, root_of}
use Rattle.ieee754.specs.InnerRoot.{units_of_pattern, root_pattern}
use Rattle.ieee754.proofs.PatternUnits.{units_keep_order}
use Rattle.ieee754.proofs.PatternValues.{pattern_value, positive_finite_pattern, units_of_value, units_of_float}
use Rattle.ieee754.proofs.RootBounds.{root_pattern_keeps_order}
use Rattle.ieee754.proofs.RootCases.{root_of_positive}
use Rattle.ieee754.proofs.SquaredRoot.{most_units, root_high, D, rounded_units, squared_root_has_root}

-- ---- a positive finite number is from 1 to `most_units` units
units_of_least : units_of_pattern 1 ≡ 1
unfolding units_of_pattern
units_of_least = refl

units_of_greatest : units_of_pattern 9218868437227405311 ≡ most_units
unfolding units_of_pattern
units_of_greatest = refl

pub units_positive : (s : Float) → T (fits binary64 s) → T (positive s) → 0 < units_of s
units_positive s f p = subst (λ (z : ℕ). 0 < z) (sym (units_of_float s f p)) (le_trans (le_of_eq (sym units_of_least)) (units_keep_order 1 (to_bits binary64 s) (positive_finite_pattern s f p).above))

pub units_at_most : (s : Float) → T (fits binary64 s) → T (positive s) → units_of s ≤ most_units
units_at_most s f p = subst (λ (z : ℕ). z ≤ most_units) (sym (units_of_float s f p)) (le_trans (units_keep_order (to_bits binary64 s) 9218868437227405311 (last (to_bits binary64 s) (positive_finite_pattern s f p).below)) (le_of_eq units_of_greatest))
  where
    last : (b : ℕ) → b < 9218868437227405312 → b ≤ 9218868437227405311
    last b h = omega arith

pub has_units : (s : Float) → T (fits binary64 s) → T (positive s) → HasValue s false (units_of s) D
has_units s f p =
    subst (λ (z : ℕ). HasValue s false z D) (sym (units_of_float s f p))
    (subst (λ (z : Float). HasValue z false (units_of_pattern (to_bits binary64 s)) D) (Ieee.Bits.of_bits-to_bits binary64 s f) (pattern_value (to_bits binary64 s) (positive_finite_pattern s f p).below))

-- ---- the root's value
root_below : (S : ℕ) → 0 < S → S ≤ most_units → root_pattern S < 9218868437227405312
root_below S p h = lt_of_le_of_lt (root_high S p h) (lit< tt)

pub root_value : (s : Float) → T (fits binary64 s) → T (positive s) → HasValue (root_of s) false (units_of_pattern (root_pattern (units_of s))) D
root_value s f p = subst (λ (z : Float). HasValue z false (units_of_pattern (root_pattern (units_of s))) D) (root_of_positive s p) (pattern_value (root_pattern (units_of s)) (root_below (units_of s) (units_positive s f p) (units_at_most s f p)))

-- ---- a product by its factors' values
mul_is : (x y : Float) (a b c d : ℕ) → HasValue x false a c → HasValue y false b d → mul binary64 x y ≡ round binary64 false (num x * num y) (den x * den y)
unfolding mul
mul_is (fin true m e) y a b c d v w = absurd (true≢false v.0)
mul_is (fin false m e) (fin true n g) a b c d v w = absurd (true≢false w.0)
mul_is (fin false m e) (fin false n g) a b c d v w = refl
mul_is Ieee.nan y a b c d v w = elim v [ ]
mul_is (Ieee.inf _) y a b c d v w = elim v [ ]
mul_is (fin false m e) Ieee.nan a b c d v w = elim w [ ]
mul_is (fin false m e) (Ieee.inf _) a b c d v w = elim w [ ]

pub mul_values : (x y : Float) (a b c d : ℕ) → 0 < c → 0 < d → HasValue x false a c → HasValue y false b d → mul binary64 x y ≡ round binary64 false (a * b) (c * d)
mul_values x y a b c d C C' v w =
    mul_is x y a b c d v w
    ∙ round_same binary64 false (num x * num y) (den x * den y) (a * b) (c * d) (mul-pos (den_pos x) (den_pos y)) (mul-pos C C')
    (mul-mul-mul_comm (num x) (num y) c d ∙ ap (λ (z : ℕ). z * (num y * d)) (value→cross x a c v) ∙ ap (λ (z : ℕ). a * den x * z) (value→cross y b d w) ∙ mul-mul-mul_comm a (den x) b (den y))

-- in units, a fraction Q / (u * u) rounded
grid_is : (Q : ℕ) → grid binary64 Q (D * D) ≡ rounded_units Q
grid_is Q = go D (pow_pos 1074)
  where
    go : (u : ℕ) → 0 < u
        → closest (Q * u) (u * u * 2 ^ (Ieee.size (Q * u / (u * u)) - 53)) * 2 ^ (Ieee.size (Q * u / (u * u)) - 53) ≡ closest Q (u * 2 ^ (Ieee.size (Q / u) - 53)) * 2 ^ (Ieee.size (Q / u) - 53)
    go u h =
        let e : Q * u * u ≡ Q * (u * u) = mul_assoc Q u u in
        let k = Ieee.size (Q / u) - 53 in
        ap (λ (z : ℕ). closest (Q * u) (u * u * 2 ^ (Ieee.size z - 53)) * 2 ^ (Ieee.size z - 53)) (div_same (Q * u) (u * u) Q u (mul-pos h h) h e)
        ∙ ap (λ (z : ℕ). z * 2 ^ k) (closest_same (Q * u) (u * u * 2 ^ k) Q (u * 2 ^ k) (mul-pos (mul-pos h h) (pow_pos k)) (mul-pos h (pow_pos k))
        (mul_assoc Q u (u * 2 ^ k) ∙ ap (λ (z : ℕ). Q * z) (sym (mul_assoc u u (2 ^ k)))))

-- ---- the root of the root's square
pub root_of_square_positive : (s : Float) → T (fits binary64 s) → T (positive s) → root_of (mul binary64 (root_of s) (root_of s)) ≡ root_of s
root_of_square_positive s f p =
    let S = units_of s in
    let r = root_pattern S in
    let R = units_of_pattern r in
    let law = squared_root_has_root S (units_positive s f p) (units_at_most s f p) in
    let v = root_value s f p in
    let m : mul binary64 (root_of s) (root_of s) ≡ round binary64 false (R * R) (D * D) = mul_values (root_of s) (root_of s) R R D D (pow_pos 1074) (pow_pos 1074) v v in
    let g : grid binary64 (R * R) (D * D) ≡ rounded_units (R * R) = grid_is (R * R) in
    let w : HasValue (mul binary64 (root_of s) (root_of s)) false (rounded_units (R * R)) D =
    subst (λ (x : Float). HasValue x false (rounded_units (R * R)) D) (sym m)
    (subst (λ (z : ℕ). HasValue (round binary64 false (R * R) (D * D)) false z D) g (round_val binary64 (R * R) (D * D) (lt_of_le_of_lt (le_of_eq g) law.1))) in
    sym (root_of_positive (mul binary64 (root_of s) (root_of s)) (positive_of_value (mul binary64 (root_of s) (root_of s)) (rounded_units (R * R)) D w law.0))
    ∙ ap (λ (z : ℕ). of_bits binary64 (root_pattern z)) (units_of_value (mul binary64 (root_of s) (root_of s)) (rounded_units (R * R)) w)
    ∙ ap (λ (z : ℕ). of_bits binary64 z) law.2
    ∙ root_of_positive s p

-- ---- order
pub root_keeps_order_positive : (x y : Float) → T (fits binary64 x) → T (fits binary64 y) → T (positive x) → T (positive y) → T (le x y) → T (le (root_of x) (root_of y))
root_keeps_order_positive x y f g p q h =
    le_of_values (root_of x) (root_of y) (units_of_pattern (root_pattern (units_of x))) D (units_of_pattern (root_pattern (units_of y))) D (pow_pos 1074) (pow_pos 1074) (root_value x f p) (root_value y g q)
    (mul-le-mul_right D (units_keep_order (root_pattern (units_of x)) (root_pattern (units_of y))
    (root_pattern_keeps_order (units_of x) (units_of y) (units_positive x f p)
    (le_of_mul-le-mul_right (values_of_le x y (units_of x) D (units_of y) D p q (has_units x f p) (has_units y g q) h) (pow_pos 1074))
    (lt_of_le_of_lt (units_at_most y g q) (lit< tt)))))

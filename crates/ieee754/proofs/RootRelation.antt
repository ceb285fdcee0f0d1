-- `root_of` meets the document's relation, and nothing else does. Assumes nothing.
use mathlib.Core.Bool.{Bool, not}
use mathlib.Core.Logic.{◌⊎◌, inl, inr}
use mathlib.Core.Path.{◌≡◌, refl, sym, ap, ◌∙◌, subst}
use Prim.Native.Nat.{ℕ, suc, ◌+◌, ◌-◌, ◌*◌, ◌/◌, ◌%◌, ◌^◌, ◌≤◌, ◌<◌}
use native.Mathlib.Decide.{dec_le}
use native.Mathlib.Nat.{le_trans, le_of_eq, le_of_lt, eq-or-lt_of_le, lt_of_lt_of_le, lt_of_le_of_lt, lt_of_not-le, not-le_of_lt, mul-one, mul_comm, mul_assoc, mul_left_comm, mul_right_comm, mul-le-mul_left, mul-le-mul_right, le-add_left, eq_of_mul-eq-mul_right, le_dest, pow-succ'}
use native.Mathlib.Numerals.{add-one}
use native.Mathlib.Omega.{arith}
use lib.Dec.{T, lit<, lit≤}
use lib.Ieee.{Float, binary64, fits, of_bits, to_bits}
use lib.Ieee.Bits.{of_bits-to_bits, to_bits-of_bits, of_bits-fits, nan_bits_is}
use lib.Ieee.Positive.{positive, positive_of_value}
use lib.Pow.{pow-add, pow_pos}
use Rattle.ieee754.specs.Root.{units_of, square, neighbour_above, neighbour_below, IsRoot, root_of}
use Rattle.ieee754.specs.InnerRoot.{units_of_pattern, root_pattern}
use Rattle.ieee754.proofs.Arithmetic.{sq_mono, spread}
use Rattle.ieee754.proofs.PatternUnits.{units_keep_order}
use Rattle.ieee754.proofs.PatternValues.{pattern_value, positive_finite_pattern, units_of_value, units_of_float, finite_pattern_no_nan, units_have_53_digits}
use Rattle.ieee754.proofs.PositiveRoots.{units_positive, units_at_most, root_value}
use Rattle.ieee754.proofs.RootBounds.{root_squares}
use Rattle.ieee754.proofs.RootCases.{root_of_positive}
use Rattle.ieee754.proofs.RootSearch.{squares_decide}
use Rattle.ieee754.proofs.SquaredRoot.{most_units, Normal, root_low, root_high, normal_of, upper_square, D}

no_tie : (M O a b : ℕ) → O % 2 ≡ 1 → M < O → M * 2 ^ a ≡ O * 2 ^ b → ⊥
no_tie M O a b o l e = go (dec_le a b)
  where
    down : (d : ℕ) → a + d ≡ b → ⊥
    down d h =
        let q : M * 2 ^ a ≡ O * 2 ^ d * 2 ^ a = e ∙ ap (λ (z : ℕ). O * 2 ^ z) (sym h) ∙ ap (λ (z : ℕ). O * z) (pow-add 2 a d) ∙ sym (mul_assoc O (2 ^ a) (2 ^ d)) ∙ mul_right_comm O (2 ^ a) (2 ^ d) in
        let m : M ≡ O * 2 ^ d = eq_of_mul-eq-mul_right (2 ^ a) (pow_pos a) M (O * 2 ^ d) q in
        not-le_of_lt l (le_trans (le_trans (le_of_eq (sym (mul-one O))) (mul-le-mul_left O (pow_pos d))) (le_of_eq (sym m)))

    even : (O x : ℕ) → O % 2 ≡ 1 → O ≡ 2 * x → ⊥
    even O x o e = omega arith

    up : (d : ℕ) → suc b + d ≡ a → ⊥
    up d h =
        let q : M * 2 ^ suc d * 2 ^ b ≡ O * 2 ^ b = mul_assoc M (2 ^ suc d) (2 ^ b) ∙ ap (λ (z : ℕ). M * z) (sym (pow-add 2 (suc d) b) ∙ ap (λ (z : ℕ). 2 ^ z) (swap d b a h)) ∙ e in
        let m : M * 2 ^ suc d ≡ O = eq_of_mul-eq-mul_right (2 ^ b) (pow_pos b) (M * 2 ^ suc d) O q in
        even O (M * 2 ^ d) o (sym m ∙ ap (λ (z : ℕ). M * z) (pow-succ' 2 d) ∙ mul_left_comm M 2 (2 ^ d))
      where
        swap : (d b a : ℕ) → suc b + d ≡ a → suc d + b ≡ a
        swap d b a h = omega arith

    go : Dec (a ≤ b) → ⊥
    go (yes h) = down (le_dest h).0 (le_dest h).1
    go (no f) = let h = le_dest (lt_of_not-le f) in up h.0 h.1

strict : (b : ℕ) → 0 < units_of_pattern b → units_of_pattern b ≤ most_units → 4 * (units_of_pattern b * D) < square (units_of_pattern (root_pattern (units_of_pattern b)) + units_of_pattern (suc (root_pattern (units_of_pattern b))))
strict b p h = go (eq-or-lt_of_le (root_squares (units_of_pattern b) p (lt_of_le_of_lt h (lit< tt))).1)
  where
    r : ℕ
    r = root_pattern (units_of_pattern b)

    q : ℕ
    q = 2 ^ 52 + r % 2 ^ 52

    c : ℕ
    c = r / 2 ^ 52 - 1

    n : Normal r q c
    n = normal_of r (root_low (units_of_pattern b) p h) (root_high (units_of_pattern b) p h)

    O : ℕ
    O = 4 * (q * q) + 4 * q + 1

    odd : (a q : ℕ) → (4 * a + 4 * q + 1) % 2 ≡ 1
    odd a q = omega arith

    big : (M a q : ℕ) → M < 2 ^ 53 → 2 ^ 52 ≤ q → M < 4 * a + 4 * q + 1
    big M a q h k = omega arith

    go : (4 * (units_of_pattern b * D) ≡ square (units_of_pattern r + units_of_pattern (suc r))) ⊎ (4 * (units_of_pattern b * D) < square (units_of_pattern r + units_of_pattern (suc r))) → 4 * (units_of_pattern b * D) < square (units_of_pattern r + units_of_pattern (suc r))
    go (inr l) = l
    go (inl e) =
        let f = units_have_53_digits b in
        absurd (no_tie f.0 O (f.1 + 1076) (c + c) (odd (q * q) q) (big f.0 (q * q) q f.3 n.low)
        (ap (λ (z : ℕ). f.0 * z) (pow-add 2 f.1 1076) ∙ sym (mul_assoc f.0 (2 ^ f.1) (2 ^ 1076)) ∙ ap (λ (z : ℕ). z * 2 ^ 1076) (sym f.2) ∙ four (units_of_pattern b) D
        ∙ e ∙ upper_square r q c n ∙ sym (spread (q * q) q (2 ^ c * 2 ^ c)) ∙ ap (λ (z : ℕ). O * z) (sym (pow-add 2 c c))))
      where
        four : (s d : ℕ) → s * (d * 4) ≡ 4 * (s * d)
        four s d = sym (mul_assoc s d 4) ∙ mul_comm (s * d) 4

-- ---- `root_of` meets the relation
back : (b : ℕ) → b < 9218868437227405312 → to_bits binary64 (of_bits binary64 b) ≡ b
back b h = to_bits-of_bits binary64 b (omega arith) (subst (λ (t : Bool). T (not t)) (nan_bits_is binary64 b) (finite_pattern_no_nan b h))

sized : (b : ℕ) → b < 9218868437227405312 → units_of (of_bits binary64 b) ≡ units_of_pattern b
sized b h = units_of_value (of_bits binary64 b) (units_of_pattern b) (pattern_value b h)

pub root_is_root : (s : Float) → T (fits binary64 s) → T (positive s) → IsRoot s (root_of s)
unfolding neighbour_above neighbour_below
root_is_root s f p =
    let S = units_of s in
    let r = root_pattern S in
    let S> = units_positive s f p in
    let S≤ = units_at_most s f p in
    let hi = root_high S S> S≤ in
    let lo = root_low S S> S≤ in
    let rb : r < 9218868437227405312 = omega (arith, hi) in
    let rn : r + 1 < 9218868437227405312 = omega (arith, hi) in
    let rp : r - 1 < 9218868437227405312 = omega (arith, hi) in
    let e : root_of s ≡ of_bits binary64 r = sym (root_of_positive s p) in
    let tb : to_bits binary64 (root_of s) ≡ r = ap (λ (z : Float). to_bits binary64 z) e ∙ back r rb in
    let w : units_of (root_of s) ≡ units_of_pattern r = ap units_of e ∙ sized r rb in
    let wn : units_of (of_bits binary64 (to_bits binary64 (root_of s) + 1)) ≡ units_of_pattern (suc r) = ap (λ (z : ℕ). units_of (of_bits binary64 (z + 1))) tb ∙ sized (r + 1) rn ∙ ap units_of_pattern (add-one r) in
    let wp : units_of (of_bits binary64 (to_bits binary64 (root_of s) - 1)) ≡ units_of_pattern (r - 1) = ap (λ (z : ℕ). units_of (of_bits binary64 (z - 1))) tb ∙ sized (r - 1) rp in
    record {
      is_float = subst (λ (z : Float). T (fits binary64 z)) (sym e) (of_bits-fits binary64 r);
      is_positive = positive_of_value (root_of s) (units_of_pattern r) D (root_value s f p) (lt_of_lt_of_le (lit< tt) (le_trans (le_of_eq (sym one_is)) (units_keep_order 1 r (omega (arith, lo)))));
      lower = lt_of_le_of_lt (le_of_eq (ap (λ (z : ℕ). square (z + units_of (root_of s))) wp ∙ ap (λ (z : ℕ). square (units_of_pattern (r - 1) + z)) w)) (root_squares S S> (lt_of_le_of_lt S≤ (lit< tt))).0;
      upper = lt_of_lt_of_le (strict_at s f p S> S≤) (le_of_eq (sym (ap (λ (z : ℕ). square (units_of (root_of s) + z)) wn ∙ ap (λ (z : ℕ). square (z + units_of_pattern (suc r))) w)));
    }
  where
    one_is : units_of_pattern 1 ≡ 1
    one_is = unfold units_of_pattern in refl

    strict_at : (s : Float) → T (fits binary64 s) → T (positive s) → 0 < units_of s → units_of s ≤ most_units → 4 * (units_of s * D) < square (units_of_pattern (root_pattern (units_of s)) + units_of_pattern (suc (root_pattern (units_of s))))
    strict_at s f p a b =
        let e = units_of_float s f p in
        subst (λ (z : ℕ). 4 * (z * D) < square (units_of_pattern (root_pattern z) + units_of_pattern (suc (root_pattern z)))) (sym e)
        (strict (to_bits binary64 s) (subst (λ (z : ℕ). 0 < z) e a) (subst (λ (z : ℕ). z ≤ most_units) e b))

-- ---- and it alone does

-- End theorem: a float that meets the document's relation to s is the root that the code computes of s
pub only_root_is_root : (s r : Float) → T (fits binary64 s) → T (positive s) → IsRoot s r → r ≡ root_of s
unfolding neighbour_above neighbour_below root_pattern
only_root_is_root s r fs p i =
    let f = i.is_float in
    let b = to_bits binary64 r in
    let g = positive_finite_pattern r f i.is_positive in
    let w : units_of r ≡ units_of_pattern b = units_of_float r f i.is_positive in
    let h : b < 9218868437227405312 = g.below in
    let wp : units_of (of_bits binary64 (b - 1)) ≡ units_of_pattern (b - 1) = sized (b - 1) (omega arith) in
    let lo : square (units_of_pattern (b - 1) + units_of_pattern b) < 4 * (units_of s * D) = lt_of_le_of_lt (le_of_eq (sym (ap (λ (z : ℕ). square (z + units_of r)) wp ∙ ap (λ (z : ℕ). square (units_of_pattern (b - 1) + z)) w))) i.lower in
    let l : b < 9218868437227405311 = lt_of_not-le (λ (k : 9218868437227405311 ≤ b). last b k lo) in
    let wn : units_of (of_bits binary64 (b + 1)) ≡ units_of_pattern (suc b) = sized (b + 1) (omega arith) ∙ ap units_of_pattern (add-one b) in
    let hi : 4 * (units_of s * D) < square (units_of_pattern b + units_of_pattern (suc b)) = lt_of_lt_of_le i.upper (le_of_eq (ap (λ (z : ℕ). square (units_of r + z)) wn ∙ ap (λ (z : ℕ). square (z + units_of_pattern (suc b))) w)) in
    sym (of_bits-to_bits binary64 r f) ∙ ap (λ (z : ℕ). of_bits binary64 z) (sym (squares_decide (4 * (units_of s * D)) b (omega arith) lo (le_of_lt hi))) ∙ root_of_positive s p
  where
    most_is : units_of_pattern 9218868437227405311 ≡ most_units
    most_is = unfold units_of_pattern in refl

    last : (b : ℕ) → 9218868437227405311 ≤ b → square (units_of_pattern (b - 1) + units_of_pattern b) < 4 * (units_of s * D) → ⊥
    last b k lo =
        let big : most_units ≤ units_of_pattern (b - 1) + units_of_pattern b = le_trans (le_of_eq (sym most_is)) (le_trans (units_keep_order 9218868437227405311 b k) (le-add_left (units_of_pattern b) (units_of_pattern (b - 1)))) in
        not-le_of_lt (lt_of_le_of_lt (sq_mono big) lo) (le_trans (mul-le-mul_left 4 (mul-le-mul_right D (units_at_most s fs p))) (lit≤ tt))

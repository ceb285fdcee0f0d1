-- The pattern of a root: the document's two squares, order, and where it lies. Assumes nothing.
use mathlib.Core.Bool.{Bool, true, false, not, cond}
use mathlib.Core.Path.{◌≡◌, refl, sym, subst}
use Prim.Native.Nat.{ℕ, zero, suc, ◌+◌, ◌-◌, ◌*◌, ◌^◌, ◌≤◌, ◌<◌}
use native.Mathlib.Nat.{le_trans, le_of_lt, lt_of_lt_of_le, lt_of_le_of_lt, lt_of_not-le, not-le_of_lt, le_of_suc-le-suc, mul-le-mul_left, mul-le-mul_right, pow-suc, mul-pos, zero-lt-suc}
use native.Mathlib.Omega.{arith}
use lib.Arith.{le→nltb}
use lib.Dec.{T, ltb→lt, lt→ltb, nltb→le, lit≤}
use lib.Pow.{pow_pos}
use Rattle.ieee754.specs.Root.{square}
use Rattle.ieee754.specs.InnerRoot.{units_of_pattern, lower_holds, greatest_pattern, root_pattern}
use Rattle.ieee754.proofs.Arithmetic.{add_le_add, sq_mono}
use Rattle.ieee754.proofs.PatternUnits.{units_keep_order}

-- ---- what `greatest_pattern` finds passes the test, and the next does not
search_found : (X d a : ℕ) → T (lower_holds X a) → T (not (lower_holds X (a + 2 ^ d))) → T (lower_holds X (greatest_pattern X d a)) × T (not (lower_holds X (suc (greatest_pattern X d a))))
unfolding greatest_pattern
search_found X zero a y n = (y, subst (λ (z : ℕ). T (not (lower_holds X z))) (one a) n)
  where
    one : (a : ℕ) → a + 1 ≡ suc a
    one a = omega arith
search_found X (suc d) a y n = go (lower_holds X (a + 2 ^ d)) refl (search_found X d (a + 2 ^ d)) (search_found X d a y)
  where
    twice : a + 2 ^ suc d ≡ a + 2 ^ d + 2 ^ d
    twice = omega (arith, pow-suc 2 d)

    go : (t : Bool) → lower_holds X (a + 2 ^ d) ≡ t
        → (T (lower_holds X (a + 2 ^ d)) → T (not (lower_holds X (a + 2 ^ d + 2 ^ d))) → T (lower_holds X (greatest_pattern X d (a + 2 ^ d))) × T (not (lower_holds X (suc (greatest_pattern X d (a + 2 ^ d))))))
        → (T (not (lower_holds X (a + 2 ^ d))) → T (lower_holds X (greatest_pattern X d a)) × T (not (lower_holds X (suc (greatest_pattern X d a)))))
        → T (lower_holds X (greatest_pattern X d (cond t (a + 2 ^ d) a))) × T (not (lower_holds X (suc (greatest_pattern X d (cond t (a + 2 ^ d) a)))))
    go true e u v = u (subst T (sym e) tt) (subst (λ (z : ℕ). T (not (lower_holds X z))) twice n)
    go false e u v = v (subst (λ (t : Bool). T (not t)) (sym e) tt)

lower_holds_lt : (X b : ℕ) → T (lower_holds X b) → square (units_of_pattern (b - 1) + units_of_pattern b) < X
unfolding lower_holds
lower_holds_lt X b t = ltb→lt (square (units_of_pattern (b - 1) + units_of_pattern b)) X t

lower_fails_le : (X b : ℕ) → T (not (lower_holds X (suc b))) → X ≤ square (units_of_pattern b + units_of_pattern (suc b))
unfolding lower_holds
lower_fails_le X b t = subst (λ (z : ℕ). X ≤ square (units_of_pattern z + units_of_pattern (suc b))) (pred b) (nltb→le (square (units_of_pattern (suc b - 1) + units_of_pattern (suc b))) X t)
  where
    pred : (b : ℕ) → suc b - 1 ≡ b
    pred b = omega arith

-- finite numbers have fewer units
abbrev pub top : ℕ
top = 2 ^ 2098

at_zero : (X : ℕ) → 0 < X → T (lower_holds X 0)
unfolding lower_holds units_of_pattern
at_zero X h = lt→ltb 0 X h

at_end : (S : ℕ) → S < top → T (not (lower_holds (4 * (S * 2 ^ 1074)) (2 ^ 63)))
unfolding lower_holds
at_end S h = le→nltb (square (units_of_pattern (2 ^ 63 - 1) + units_of_pattern (2 ^ 63))) (4 * (S * 2 ^ 1074)) (le_trans (mul-le-mul_left 4 (mul-le-mul_right (2 ^ 1074) (le_of_lt h))) (unfold units_of_pattern in lit≤ tt))

pub root_squares : (S : ℕ) → 0 < S → S < top → (square (units_of_pattern (root_pattern S - 1) + units_of_pattern (root_pattern S)) < 4 * (S * 2 ^ 1074)) × (4 * (S * 2 ^ 1074) ≤ square (units_of_pattern (root_pattern S) + units_of_pattern (suc (root_pattern S))))
unfolding root_pattern
root_squares S p h =
    let X = 4 * (S * 2 ^ 1074) in
    let r = search_found X 63 0 (at_zero X (mul-pos (zero-lt-suc 3) (mul-pos p (pow_pos 1074)))) (at_end S h) in
    (lower_holds_lt X (greatest_pattern X 63 0) r.0, lower_fails_le X (greatest_pattern X 63 0) r.1)

pub root_pattern_keeps_order : (S S' : ℕ) → 0 < S → S ≤ S' → S' < top → root_pattern S ≤ root_pattern S'
root_pattern_keeps_order S S' p h t =
    let r = root_pattern S in
    let r' = root_pattern S' in
    le_of_suc-le-suc (lt_of_not-le (λ (g : suc r' ≤ r). not-le_of_lt (lt_of_lt_of_le (root_squares S p (lt_of_le_of_lt h t)).0 (mul-le-mul_left 4 (mul-le-mul_right (2 ^ 1074) h)))
    (le_trans (root_squares S' (lt_of_lt_of_le p h) t).1 (sq_mono (add_le_add (units_of_pattern r') (units_of_pattern (suc r')) (units_of_pattern (r - 1)) (units_of_pattern r) (units_keep_order r' (r - 1) (less r' r g)) (units_keep_order (suc r') r g))))))
  where
    less : (a b : ℕ) → suc a ≤ b → a ≤ b - 1
    less a b h = omega arith

pub least_root : root_pattern 1 ≡ 486 * 2 ^ 52
unfolding root_pattern greatest_pattern lower_holds units_of_pattern
least_root = refl

pub most_root : root_pattern (top - 2 ^ 2045) ≡ 1534 * 2 ^ 52 + (2 ^ 52 - 1)
unfolding root_pattern greatest_pattern lower_holds units_of_pattern
most_root = refl

-- The search finds the one pattern that the document's two squares allow; which one, from the whole root and its remainder. Assumes nothing.
use mathlib.Core.Bool.{Bool, true, false, not, cond}
use mathlib.Core.Path.{◌≡◌, sym, ap, ◌∙◌, subst}
use Prim.Native.Nat.{ℕ, zero, suc, ◌+◌, ◌-◌, ◌*◌, ◌^◌, ◌≤◌, ◌<◌, zero-le}
use native.Mathlib.Nat.{le_trans, le_of_eq, le_of_lt, lt_of_lt_of_le, lt_of_le_of_lt, lt_of_not-le, le_of_suc-le-suc, mul-le-mul_right, mul-lt-mul_of_pos_right, mul-pos, pow-suc}
use native.Mathlib.Omega.{arith}
use lib.Arith.{le→nltb}
use lib.Dec.{T, lt→ltb}
use lib.Pow.{pow_pos}
use Rattle.ieee754.specs.Root.{square}
use Rattle.ieee754.specs.InnerRoot.{units_of_pattern, lower_holds, greatest_pattern, RootDigits}
use Rattle.ieee754.proofs.Arithmetic.{add_le_add, sq_suc, sq_mono, sq_lt, doubled_square, midpoint_square}
use Rattle.ieee754.proofs.PatternUnits.{units_step, units_keep_order, units_at}

closed : (X b c : ℕ) → c ≤ b → square (units_of_pattern (b - 1) + units_of_pattern b) < X → T (lower_holds X c)
unfolding lower_holds
closed X b c h l = lt→ltb (square (units_of_pattern (c - 1) + units_of_pattern c)) X (lt_of_le_of_lt (sq_mono (add_le_add (units_of_pattern (c - 1)) (units_of_pattern c) (units_of_pattern (b - 1)) (units_of_pattern b) (units_keep_order (c - 1) (b - 1) (omega arith)) (units_keep_order c b h))) l)

beyond : (X b c : ℕ) → b < c → X ≤ square (units_of_pattern b + units_of_pattern (suc b)) → T (not (lower_holds X c))
unfolding lower_holds
beyond X b c h l = le→nltb (square (units_of_pattern (c - 1) + units_of_pattern c)) X (le_trans l (sq_mono (add_le_add (units_of_pattern b) (units_of_pattern (suc b)) (units_of_pattern (c - 1)) (units_of_pattern c) (units_keep_order b (c - 1) (omega arith)) (units_keep_order (suc b) c h))))

pub search_finds : (X b d a : ℕ) → ((c : ℕ) → c ≤ b → T (lower_holds X c)) → ((c : ℕ) → b < c → T (not (lower_holds X c))) → a ≤ b → b < a + 2 ^ d → greatest_pattern X d a ≡ b
unfolding greatest_pattern
search_finds X b zero a y n h l = omega arith
search_finds X b (suc d) a y n h l = go (lower_holds X (a + 2 ^ d)) (y (a + 2 ^ d)) (n (a + 2 ^ d)) (search_finds X b d (a + 2 ^ d) y n) (search_finds X b d a y n)
  where
    go : (t : Bool) → (a + 2 ^ d ≤ b → T t) → (b < a + 2 ^ d → T (not t))
        → (a + 2 ^ d ≤ b → b < a + 2 ^ d + 2 ^ d → greatest_pattern X d (a + 2 ^ d) ≡ b) → (a ≤ b → b < a + 2 ^ d → greatest_pattern X d a ≡ b) → greatest_pattern X d (cond t (a + 2 ^ d) a) ≡ b
    go true p r u v = u (le_of_suc-le-suc (lt_of_not-le r)) (omega (arith, pow-suc 2 d))
    go false p r u v = v h (lt_of_not-le p)

-- the document's two squares decide the pattern
pub squares_decide : (X b : ℕ) → b < 2 ^ 63 → square (units_of_pattern (b - 1) + units_of_pattern b) < X → X ≤ square (units_of_pattern b + units_of_pattern (suc b)) → greatest_pattern X 63 0 ≡ b
squares_decide X b h lo hi = search_finds X b 63 0 (λ c k. closed X b c k lo) (λ c k. beyond X b c k hi) zero-le (omega arith)

pub rounds_down : (X m c q rest : ℕ) → X ≡ 4 * (m * 2 ^ 52) * (2 ^ c * 2 ^ c) → RootDigits m q rest → 2 ^ 52 ≤ q → c ≤ 1600 → rest ≤ q → greatest_pattern X 63 0 ≡ c * 2 ^ 52 + q
rounds_down X m c q rest e w big small r =
    let b = c * 2 ^ 52 + q in
    let P = 2 ^ c in
    let hq : q < 2 ^ 53 = w.small in
    let sb : units_of_pattern b ≡ q * P = units_at c q big (le_of_lt hq) in
    let sn : units_of_pattern (suc b) ≡ (q + 1) * P = ap units_of_pattern (next c q) ∙ units_at c (q + 1) (omega arith) (omega arith) in
    let below : units_of_pattern (b - 1) < units_of_pattern b = subst (λ (z : ℕ). units_of_pattern (b - 1) < units_of_pattern z) (pred b (omega arith)) (units_step (b - 1)) in
    let lo : square (units_of_pattern (b - 1) + units_of_pattern b) < 4 * (q * q) * (P * P) = lt_of_lt_of_le (sq_lt (left (units_of_pattern (b - 1)) (units_of_pattern b) below)) (le_of_eq (ap (λ (z : ℕ). square (z + z)) sb ∙ doubled_square q P)) in
    let lo' : 4 * (q * q) * (P * P) ≤ X = le_trans (mul-le-mul_right (P * P) (omega (arith, w.adds))) (le_of_eq (sym e)) in
    let hi : X ≤ square (units_of_pattern b + units_of_pattern (suc b)) = le_trans (le_of_eq e) (le_trans (mul-le-mul_right (P * P) (omega (arith, w.adds))) (le_of_eq (sym (ap (λ (z : ℕ). square (units_of_pattern b + z)) sn ∙ ap (λ (z : ℕ). square (z + (q + 1) * P)) sb ∙ midpoint_square q P)))) in
    squares_decide X b (omega arith) (lt_of_lt_of_le lo lo') hi
  where
    next : (c q : ℕ) → suc (c * 2 ^ 52 + q) ≡ c * 2 ^ 52 + (q + 1)
    next c q = omega arith

    pred : (b : ℕ) → 0 < b → suc (b - 1) ≡ b
    pred b h = omega arith

    left : (a b : ℕ) → a < b → a + b < b + b
    left a b h = omega arith

pub rounds_up : (X m c q rest : ℕ) → X ≡ 4 * (m * 2 ^ 52) * (2 ^ c * 2 ^ c) → RootDigits m q rest → 2 ^ 52 ≤ q → c ≤ 1600 → q < rest → greatest_pattern X 63 0 ≡ c * 2 ^ 52 + (q + 1)
rounds_up X m c q rest e w big small r =
    let b = c * 2 ^ 52 + (q + 1) in
    let P = 2 ^ c in
    let hq : q < 2 ^ 53 = w.small in
    let sb : units_of_pattern b ≡ (q + 1) * P = units_at c (q + 1) (omega arith) (omega arith) in
    let sp : units_of_pattern (b - 1) ≡ q * P = ap units_of_pattern (prev c q) ∙ units_at c q big (le_of_lt hq) in
    let lo : square (units_of_pattern (b - 1) + units_of_pattern b) ≡ (4 * (q * q) + 4 * q + 1) * (P * P) = ap (λ (z : ℕ). square (units_of_pattern (b - 1) + z)) sb ∙ ap (λ (z : ℕ). square (z + (q + 1) * P)) sp ∙ midpoint_square q P in
    let lo' : (4 * (q * q) + 4 * q + 1) * (P * P) < X = lt_of_lt_of_le (mul-lt-mul_of_pos_right (omega (arith, w.adds)) (mul-pos (pow_pos c) (pow_pos c))) (le_of_eq (sym e)) in
    let hi : X ≤ square (units_of_pattern b + units_of_pattern b) = le_trans (le_of_eq e) (le_trans (mul-le-mul_right (P * P) (omega (arith, w.adds, w.close, sq_suc q))) (le_of_eq (sym (ap (λ (z : ℕ). square (z + z)) sb ∙ doubled_square (q + 1) P)))) in
    squares_decide X b (omega arith) (lt_of_le_of_lt (le_of_eq lo) lo') (le_trans hi (sq_mono (right (units_of_pattern b) (units_of_pattern (suc b)) (units_step b))))
  where
    prev : (c q : ℕ) → c * 2 ^ 52 + (q + 1) - 1 ≡ c * 2 ^ 52 + q
    prev c q = omega arith

    right : (a b : ℕ) → a < b → a + a ≤ a + b
    right a b h = omega arith

-- q has 53 digits
pub root_has_53_digits : (m q rest : ℕ) → RootDigits m q rest → 2 ^ 52 ≤ m → 2 ^ 52 ≤ q
root_has_53_digits m q rest w h = le_of_suc-le-suc (lt_of_not-le (λ (g : suc q ≤ 2 ^ 52). clash (sq_mono {a = q + 1} {b = 2 ^ 52} (omega arith))))
  where
    clash : square (q + 1) ≤ square (2 ^ 52) → ⊥
    clash k = omega (arith, k, sq_suc q, w.adds, w.close)

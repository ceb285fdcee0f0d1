-- In units: the root's square, rounded, has the same root. Assumes nothing.
use mathlib.Core.Logic.{◌⊎◌, inl, inr}
use mathlib.Core.Path.{◌≡◌, refl, sym, ap, ◌∙◌, subst}
use Prim.Native.Nat.{ℕ, suc, ◌+◌, ◌-◌, ◌*◌, ◌/◌, ◌%◌, ◌^◌, ◌≤◌, ◌<◌, zero-le}
use native.Mathlib.Decide.{dec_le}
use native.Mathlib.Nat.{le_trans, le_of_eq, le_of_lt, eq-or-lt_of_le, lt_of_lt_of_le, lt_of_le_of_lt, lt_of_not-le, not-le_of_lt, le_of_suc-le-suc, mul_comm, mul_assoc, mul-one, mul-mul-mul_comm, add-mul, mul-add, mul-le-mul, mul-le-mul_left, mul-le-mul_right, mul-pos, lt_of_mul-lt-mul_right, le-div_iff_mul-le, div-lt_iff_lt-mul, pow-suc}
use native.Mathlib.Omega.{arith}
use lib.Dec.{lit≤, lit<}
use lib.Ieee.Digits.{size-lt, size_reaches}
use lib.Ieee.Nearest.{closest}
use lib.Pow.{pow-add, pow_pos, pow_mono}
use lib.Ieee as Ieee
use Rattle.ieee754.specs.Root.{square}
use Rattle.ieee754.specs.InnerRoot.{units_of_pattern, root_pattern}
use Rattle.ieee754.proofs.Arithmetic.{add_le_add, pow_le, sq_suc, sq_mono, sq_lt, midpoint_square, spread}
use Rattle.ieee754.proofs.HalfUnit.{Half, closest_half, closest_at, closest_exact, between}
use Rattle.ieee754.proofs.PatternUnits.{units_step, units_keep_order, units_at}
use Rattle.ieee754.proofs.RootBounds.{top, root_squares, root_pattern_keeps_order, least_root, most_root}
use Rattle.ieee754.proofs.RootSearch.{squares_decide}

-- the units of the greatest finite number
abbrev pub most_units : ℕ
most_units = top - 2 ^ 2045

-- ---- a root's pattern: 53 digits q, and the unit 2 ^ c
pub record Normal (r q c : ℕ) : Type 0 where
  pub is : r ≡ c * 2 ^ 52 + q
  pub low : 2 ^ 52 ≤ q
  pub high : q < 2 ^ 53
  pub exponent_least : 485 ≤ c
  pub exponent_most : c ≤ 1533

pub root_low : (S : ℕ) → 0 < S → S ≤ most_units → 486 * 2 ^ 52 ≤ root_pattern S
root_low S p h = le_trans (le_of_eq (sym least_root)) (root_pattern_keeps_order 1 S (lit< tt) p (lt_of_le_of_lt h (lit< tt)))

pub root_high : (S : ℕ) → 0 < S → S ≤ most_units → root_pattern S ≤ 1534 * 2 ^ 52 + (2 ^ 52 - 1)
root_high S p h = le_trans (root_pattern_keeps_order S most_units p h (lit< tt)) (le_of_eq most_root)

pub normal_of : (r : ℕ) → 486 * 2 ^ 52 ≤ r → r ≤ 1534 * 2 ^ 52 + (2 ^ 52 - 1) → Normal r (2 ^ 52 + r % 2 ^ 52) (r / 2 ^ 52 - 1)
normal_of r h k = record { is = omega arith; low = omega arith; high = omega arith; exponent_least = omega arith; exponent_most = omega arith }

-- ---- units of the root and its neighbours
module _ (r q c : ℕ) (n : Normal r q c) where
  pub units_here : units_of_pattern r ≡ q * 2 ^ c
  units_here = ap units_of_pattern n.is ∙ units_at c q n.low (le_of_lt n.high)

  units_above : units_of_pattern (suc r) ≡ (q + 1) * 2 ^ c
  units_above = ap units_of_pattern (ap suc n.is ∙ step c q) ∙ units_at c (q + 1) (omega (arith, n.low)) (omega (arith, n.high))
    where
      step : (c q : ℕ) → suc (c * 2 ^ 52 + q) ≡ c * 2 ^ 52 + (q + 1)
      step c q = omega arith

  units_below : 2 ^ 52 < q → units_of_pattern (r - 1) ≡ (q - 1) * 2 ^ c
  units_below h = ap units_of_pattern (ap (λ (z : ℕ). z - 1) n.is ∙ step c q h) ∙ units_at c (q - 1) (omega arith) (omega (arith, n.high))
    where
      step : (c q : ℕ) → 2 ^ 52 < q → c * 2 ^ 52 + q - 1 ≡ c * 2 ^ 52 + (q - 1)
      step c q h = omega arith

  units_below_power : q ≡ 2 ^ 52 → units_of_pattern (r - 1) ≡ (2 ^ 53 - 1) * 2 ^ (c - 1)
  units_below_power e = ap units_of_pattern (ap (λ (z : ℕ). z - 1) n.is ∙ step c q e n.exponent_least) ∙ units_at (c - 1) (2 ^ 53 - 1) (lit≤ tt) (lit≤ tt)
    where
      step : (c q : ℕ) → q ≡ 2 ^ 52 → 485 ≤ c → c * 2 ^ 52 + q - 1 ≡ (c - 1) * 2 ^ 52 + (2 ^ 53 - 1)
      step c q e h = omega arith

  pub units_below_least : (q - 1) * 2 ^ c ≤ units_of_pattern (r - 1)
  units_below_least = go (eq-or-lt_of_le n.low)
    where
      half : (c : ℕ) → 485 ≤ c → 2 ^ c ≡ 2 ^ (c - 1) * 2
      half c h = ap (λ (z : ℕ). 2 ^ z) (back c h) ∙ pow-suc 2 (c - 1)
        where
          back : (c : ℕ) → 485 ≤ c → c ≡ suc (c - 1)
          back c h = omega arith

      go : (2 ^ 52 ≡ q) ⊎ (2 ^ 52 < q) → (q - 1) * 2 ^ c ≤ units_of_pattern (r - 1)
      go (inl e) = subst (λ (z : ℕ). (z - 1) * 2 ^ c ≤ units_of_pattern (r - 1)) e (le_trans (omega (arith, half c n.exponent_least)) (le_of_eq (sym (units_below_power (sym e)))))
      go (inr l) = le_of_eq (sym (units_below l))

  -- (q P + (q + 1) P)², and ((q - 1) P + q P)²
  pub upper_square : square (units_of_pattern r + units_of_pattern (suc r)) ≡ 4 * (q * q * (2 ^ c * 2 ^ c)) + 4 * (q * (2 ^ c * 2 ^ c)) + 2 ^ c * 2 ^ c
  upper_square = ap (λ (z : ℕ). square (units_of_pattern r + z)) units_above ∙ ap (λ (z : ℕ). square (z + (q + 1) * 2 ^ c)) units_here ∙ midpoint_square q (2 ^ c) ∙ spread (q * q) q (2 ^ c * 2 ^ c)

lower_square : (p P : ℕ) → square (p * P + (p + 1) * P) + 4 * ((p + 1) * (P * P)) ≡ 4 * ((p + 1) * (p + 1) * (P * P)) + P * P
lower_square p P =
    let C = P * P in
    let m : square (p * P + (p + 1) * P) ≡ 4 * (p * p * C) + 4 * (p * C) + C = midpoint_square p P ∙ spread (p * p) p C in
    let a : (p + 1) * C ≡ p * C + 1 * C = add-mul p 1 C in
    let b : (p + 1) * (p + 1) * C ≡ p * p * C + 2 * (p * C) + C = ap (λ (z : ℕ). z * C) (sq_suc p) ∙ spread' (p * p) p C in
    sum (square (p * P + (p + 1) * P)) ((p + 1) * C) ((p + 1) * (p + 1) * C) (p * p * C) (p * C) C m a b
  where
    spread' : (a b C : ℕ) → (a + 2 * b + 1) * C ≡ a * C + 2 * (b * C) + C
    spread' a b C = omega (arith, add-mul (a + 2 * b) 1 C, add-mul a (2 * b) C, mul_assoc 2 b C)

    sum : (s u v a b C : ℕ) → s ≡ 4 * a + 4 * b + C → u ≡ b + 1 * C → v ≡ a + 2 * b + C → s + 4 * u ≡ 4 * v + C
    sum s u v a b C e f g = omega arith

lower_square_at : (q P : ℕ) → 0 < q → square ((q - 1) * P + q * P) + 4 * (q * (P * P)) ≡ 4 * (q * q * (P * P)) + P * P
lower_square_at q P h = subst (λ (z : ℕ). square ((q - 1) * P + z * P) + 4 * (z * (P * P)) ≡ 4 * (z * z * (P * P)) + P * P) (back q h) (lower_square (q - 1) P)
  where
    back : (q : ℕ) → 0 < q → q - 1 + 1 ≡ q
    back q h = omega arith

-- ---- the square rounded: k digits of Q / D are dropped
abbrev pub D : ℕ
D = 2 ^ 1074

abbrev pub dropped_digits : ℕ → ℕ
dropped_digits Q = Ieee.size (Q / D) - 53

abbrev pub rounded_units : ℕ → ℕ
rounded_units Q = closest Q (D * 2 ^ dropped_digits Q) * 2 ^ dropped_digits Q

abbrev HasRoot : ℕ → ℕ → Type 0
HasRoot Z r = (0 < Z) × (Z < top) × (root_pattern Z ≡ r)

-- 4 Z D is between the squares, so Z's root is r
module _ (r q c : ℕ) (n : Normal r q c) (r≤ : r ≤ 1534 * 2 ^ 52 + (2 ^ 52 - 1)) (Z : ℕ) where
  root_decided : square (units_of_pattern (r - 1) + units_of_pattern r) < 4 * (Z * D) → 4 * (Z * D) < square (units_of_pattern r + units_of_pattern (suc r)) → HasRoot Z r
  root_decided lo hi = (positive, fits, root)
    where
      positive : 0 < Z
      positive = lt_of_not-le (λ (g : Z ≤ 0). not-le_of_lt (lt_of_le_of_lt zero-le lo) (mul-le-mul_left 4 (mul-le-mul_right D g)))

      fits : Z < top
      fits = lt_of_mul-lt-mul_right D (lt_of_mul-lt-mul_right 4 (lt_of_le_of_lt (le_of_eq (mul_comm (Z * D) 4)) (lt_of_lt_of_le hi (le_trans (sq_mono (add_le_add (units_of_pattern r) (units_of_pattern (suc r)) (units_of_pattern (1534 * 2 ^ 52 + (2 ^ 52 - 1))) (units_of_pattern (1535 * 2 ^ 52)) (units_keep_order r (1534 * 2 ^ 52 + (2 ^ 52 - 1)) r≤) (units_keep_order (suc r) (1535 * 2 ^ 52) (omega arith)))) end))))
        where
          end : square (units_of_pattern (1534 * 2 ^ 52 + (2 ^ 52 - 1)) + units_of_pattern (1535 * 2 ^ 52)) ≤ top * D * 4
          end = unfold units_of_pattern in lit≤ tt

      root : root_pattern Z ≡ r
      root = unfold root_pattern in squares_decide (4 * (Z * D)) r (omega arith) lo (le_of_lt hi)

-- ---- Q = R², in the normal range: the unit U = D * 2 ^ k has U * 2 ^ 52 ≤ Q
unit_le : (Q : ℕ) → 53 ≤ Ieee.size (Q / D) → D * 2 ^ dropped_digits Q * 2 ^ 52 ≤ Q
unit_le Q h =
    let k = dropped_digits Q in
    let reach : 2 ^ (52 + k) ≤ Q / D = size_reaches (Q / D) (52 + k) (all (Ieee.size (Q / D)) h) in
    le_trans (le_of_eq (mul_assoc D (2 ^ k) (2 ^ 52) ∙ mul_comm D (2 ^ k * 2 ^ 52) ∙ ap (λ (z : ℕ). z * D) (mul_comm (2 ^ k) (2 ^ 52) ∙ sym (pow-add 2 52 k)))) ((le-div_iff_mul-le (pow_pos 1074)).0 reach)
  where
    all : (z : ℕ) → 53 ≤ z → 52 + (z - 53) < z
    all z h = omega arith

-- the rounded square times D is the nearest multiple of U
times_d : (Q : ℕ) → rounded_units Q * D ≡ closest Q (D * 2 ^ dropped_digits Q) * (D * 2 ^ dropped_digits Q)
times_d Q = mul_assoc (closest Q (D * 2 ^ dropped_digits Q)) (2 ^ dropped_digits Q) D ∙ ap (λ (z : ℕ). closest Q (D * 2 ^ dropped_digits Q) * z) (mul_comm (2 ^ dropped_digits Q) D)

-- a root that is a power of two has a square that needs no rounding
power : (c Q : ℕ) → Q ≡ 2 ^ 52 * 2 ^ c * (2 ^ 52 * 2 ^ c) → 53 ≤ Ieee.size (Q / D) → rounded_units Q * D ≡ Q
power c Q e h =
    let k = dropped_digits Q in
    let a = 52 + c + (52 + c) in
    let u = 1074 + k in
    let eq : Q ≡ 2 ^ a = e ∙ ap (λ (z : ℕ). z * z) (sym (pow-add 2 52 c)) ∙ sym (pow-add 2 (52 + c) (52 + c)) in
    let eu : D * 2 ^ k ≡ 2 ^ u = sym (pow-add 2 1074 k) in
    let le : u + 52 ≤ a = pow_le (u + 52) a (le_trans (le_of_eq (pow-add 2 u 52 ∙ ap (λ (z : ℕ). z * 2 ^ 52) (sym eu))) (le_trans (unit_le Q h) (le_of_eq eq))) in
    let ex : Q ≡ 2 ^ (a - u) * (D * 2 ^ k) = eq ∙ ap (λ (z : ℕ). 2 ^ z) (back a u le) ∙ pow-add 2 (a - u) u ∙ ap (λ (z : ℕ). 2 ^ (a - u) * z) (sym eu) in
    times_d Q ∙ ap (λ (z : ℕ). z * (D * 2 ^ k)) (closest_exact Q (D * 2 ^ k) (2 ^ (a - u)) (mul-pos (pow_pos 1074) (pow_pos k)) ex) ∙ sym ex
  where
    back : (a u : ℕ) → u + 52 ≤ a → a ≡ a - u + u
    back a u h = omega arith

module _ (r q c : ℕ) (n : Normal r q c) (r≤ : r ≤ 1534 * 2 ^ 52 + (2 ^ 52 - 1)) where
  Q-is : units_of_pattern r * units_of_pattern r ≡ q * q * (2 ^ c * 2 ^ c)
  Q-is = ap (λ (z : ℕ). z * z) (units_here r q c n) ∙ mul-mul-mul_comm q (2 ^ c) q (2 ^ c)

  normal_case : 53 ≤ Ieee.size (units_of_pattern r * units_of_pattern r / D) → HasRoot (rounded_units (units_of_pattern r * units_of_pattern r)) r
  normal_case h = root_decided r q c n r≤ (rounded_units Q) (go (eq-or-lt_of_le n.low)) hi
    where
      Q : ℕ
      Q = units_of_pattern r * units_of_pattern r

      P : ℕ
      P = 2 ^ c

      U : ℕ
      U = D * 2 ^ dropped_digits Q

      W : ℕ
      W = closest Q U * U

      near : (4 * (q * q * (P * P)) + P * P < 4 * W + 4 * (q * (P * P))) × (4 * W < 4 * (q * q * (P * P)) + 4 * (q * (P * P)) + P * P)
      near = between q P U W n.low n.high (pow_pos c) (subst (λ (z : ℕ). U * 2 ^ 52 ≤ z) Q-is (unit_le Q h)) (subst (λ (z : ℕ). Half W z U) Q-is (closest_half Q U (mul-pos (pow_pos 1074) (pow_pos (dropped_digits Q)))))

      is_w : 4 * (rounded_units Q * D) ≡ 4 * W
      is_w = ap (λ (z : ℕ). 4 * z) (times_d Q)

      hi : 4 * (rounded_units Q * D) < square (units_of_pattern r + units_of_pattern (suc r))
      hi = lt_of_le_of_lt (le_of_eq is_w) (lt_of_lt_of_le near.1 (le_of_eq (sym (upper_square r q c n))))

      less : (s a b C w : ℕ) → s + 4 * b ≡ 4 * a + C → 4 * a + C < 4 * w + 4 * b → s < 4 * w
      less s a b C w e l = omega arith

      pos : (q : ℕ) → 2 ^ 52 ≤ q → 0 < q
      pos q h = omega arith

      twice : (a b : ℕ) → a < b → a + b < b + b
      twice a b h = omega arith

      up : (r : ℕ) → 0 < r → suc (r - 1) ≡ r
      up r h = omega arith

      four : (x : ℕ) → (x + x) * (x + x) ≡ 4 * (x * x)
      four x = omega (arith, add-mul x x (x + x), mul-add x x x)

      go : (2 ^ 52 ≡ q) ⊎ (2 ^ 52 < q) → square (units_of_pattern (r - 1) + units_of_pattern r) < 4 * (rounded_units Q * D)
      go (inl e) =
          lt_of_lt_of_le (sq_lt (twice (units_of_pattern (r - 1)) (units_of_pattern r) (subst (λ (z : ℕ). units_of_pattern (r - 1) < units_of_pattern z) (up r (omega (arith, n.is, n.low))) (units_step (r - 1)))))
          (le_of_eq (four (units_of_pattern r) ∙ ap (λ (z : ℕ). 4 * z) (sym (power c Q (ap (λ (z : ℕ). z * z) (units_here r q c n ∙ ap (λ (z : ℕ). z * P) (sym e))) h))))
      go (inr l) =
          lt_of_lt_of_le (less (square (units_of_pattern (r - 1) + units_of_pattern r)) (q * q * (P * P)) (q * (P * P)) (P * P) W (ap (λ (z : ℕ). square (z + units_of_pattern r) + 4 * (q * (P * P))) (units_below r q c n l) ∙ ap (λ (z : ℕ). square ((q - 1) * P + z) + 4 * (q * (P * P))) (units_here r q c n) ∙ lower_square_at q P (pos q n.low)) near.0) (le_of_eq (sym is_w))

-- ---- below the normal range nothing is lost: the root's square rounds back to S itself
small_unit : (q c : ℕ) → 2 ^ 52 ≤ q → q * q * (2 ^ c * 2 ^ c) < 2 ^ 52 * D → c ≤ 510
small_unit q c h l = le_of_suc-le-suc (lt_of_not-le (λ (g : suc 510 ≤ c). not-le_of_lt l (le_trans (lit≤ tt) (mul-le-mul (mul-le-mul h h) (mul-le-mul (pow_mono g) (pow_mono g))))))

narrow : (q c : ℕ) → q < 2 ^ 53 → c ≤ 510 → 4 * (q * (2 ^ c * 2 ^ c)) + 2 ^ c * 2 ^ c < 2 * D
narrow q c h l = lt_of_lt_of_le (few (q * (2 ^ c * 2 ^ c)) (2 ^ c * 2 ^ c) (mul-pos (pow_pos c) (pow_pos c)) (mul-le-mul_right (2 ^ c * 2 ^ c) (less q h))) (le_trans (mul-le-mul_left (2 ^ 55) (mul-le-mul (pow_mono l) (pow_mono l))) (lit≤ tt))
  where
    less : (q : ℕ) → q < 2 ^ 53 → q ≤ 2 ^ 53 - 1
    less q h = omega arith

    few : (B C : ℕ) → 0 < C → B ≤ (2 ^ 53 - 1) * C → 4 * B + C < 2 ^ 55 * C
    few B C c h = omega arith

module _ (S : ℕ) (S> : 0 < S) (S≤ : S ≤ most_units) (r q c : ℕ) (e : r ≡ root_pattern S) (n : Normal r q c) where
  small_case : Ieee.size (units_of_pattern r * units_of_pattern r / D) < 53 → rounded_units (units_of_pattern r * units_of_pattern r) ≡ S
  small_case h = ap (λ (k : ℕ). closest Q (D * 2 ^ k) * 2 ^ k) none ∙ mul-one (closest Q (D * 2 ^ 0)) ∙ ap (λ (u : ℕ). closest Q u) (mul-one D) ∙ closest_at Q D S (pow_pos 1074) near.0 near.1
    where
      Q : ℕ
      Q = units_of_pattern r * units_of_pattern r

      C : ℕ
      C = 2 ^ c * 2 ^ c

      zero_of : (z : ℕ) → z < 53 → z - 53 ≡ 0
      zero_of z h = omega arith

      none : dropped_digits Q ≡ 0
      none = zero_of (Ieee.size (Q / D)) h

      fit : (z : ℕ) → z < 53 → z ≤ 52
      fit z h = omega arith

      Q-lt : Q < 2 ^ 52 * D
      Q-lt = (div-lt_iff_lt-mul (pow_pos 1074)).0 (lt_of_lt_of_le (size-lt (Q / D)) (pow_mono (fit (Ieee.size (Q / D)) h)))

      Q-eq : Q ≡ q * q * C
      Q-eq = ap (λ (z : ℕ). z * z) (units_here r q c n) ∙ mul-mul-mul_comm q (2 ^ c) q (2 ^ c)

      c≤ : c ≤ 510
      c≤ = small_unit q c n.low (lt_of_le_of_lt (le_of_eq (sym Q-eq)) Q-lt)

      bounds : (square (units_of_pattern (r - 1) + units_of_pattern r) < 4 * (S * D)) × (4 * (S * D) ≤ square (units_of_pattern r + units_of_pattern (suc r)))
      bounds = subst (λ (z : ℕ). (square (units_of_pattern (z - 1) + units_of_pattern z) < 4 * (S * D)) × (4 * (S * D) ≤ square (units_of_pattern z + units_of_pattern (suc z)))) (sym e) (root_squares S S> (lt_of_le_of_lt S≤ (lit< tt)))

      add1 : (a b c : ℕ) → a ≤ b → a + c ≤ b + c
      add1 a b c h = omega arith

      pos : (q : ℕ) → 2 ^ 52 ≤ q → 0 < q
      pos q h = omega arith

      lo : square ((q - 1) * 2 ^ c + q * 2 ^ c) < 4 * (S * D)
      lo = lt_of_le_of_lt (le_trans (sq_mono (add1 ((q - 1) * 2 ^ c) (units_of_pattern (r - 1)) (q * 2 ^ c) (units_below_least r q c n))) (le_of_eq (ap (λ (z : ℕ). square (units_of_pattern (r - 1) + z)) (sym (units_here r q c n))))) bounds.0

      hi : 4 * (S * D) ≤ 4 * (q * q * C) + 4 * (q * C) + C
      hi = le_trans bounds.1 (le_of_eq (upper_square r q c n))

      final : (s A B C X d : ℕ) → s + 4 * B ≡ 4 * A + C → s < 4 * X → 4 * X ≤ 4 * A + 4 * B + C → 4 * B + C < 2 * d → (2 * A < 2 * X + d) × (2 * X < 2 * A + d)
      final s A B C X d e l h k = (omega arith, omega arith)

      near : (2 * Q < 2 * (S * D) + D) × (2 * (S * D) < 2 * Q + D)
      near = subst (λ (z : ℕ). (2 * z < 2 * (S * D) + D) × (2 * (S * D) < 2 * z + D)) (sym Q-eq)
          (final (square ((q - 1) * 2 ^ c + q * 2 ^ c)) (q * q * C) (q * C) C (S * D) D (lower_square_at q (2 ^ c) (pos q n.low)) lo hi (narrow q c n.high c≤))

-- ---- the root's square, rounded, has the same root
pub squared_root_has_root : (S : ℕ) → 0 < S → S ≤ most_units → HasRoot (rounded_units (units_of_pattern (root_pattern S) * units_of_pattern (root_pattern S))) (root_pattern S)
squared_root_has_root S p h = go (dec_le 53 (Ieee.size (units_of_pattern r * units_of_pattern r / D)))
  where
    r : ℕ
    r = root_pattern S

    n : Normal r (2 ^ 52 + r % 2 ^ 52) (r / 2 ^ 52 - 1)
    n = normal_of r (root_low S p h) (root_high S p h)

    less : (z : ℕ) → (53 ≤ z → ⊥) → z < 53
    less z f = lt_of_not-le f

    go : Dec (53 ≤ Ieee.size (units_of_pattern r * units_of_pattern r / D)) → HasRoot (rounded_units (units_of_pattern r * units_of_pattern r)) r
    go (yes k) = normal_case r (2 ^ 52 + r % 2 ^ 52) (r / 2 ^ 52 - 1) n (root_high S p h) k
    go (no f) = subst (λ (z : ℕ). HasRoot z r) (sym (small_case S p h r (2 ^ 52 + r % 2 ^ 52) (r / 2 ^ 52 - 1) refl n (less (Ieee.size (units_of_pattern r * units_of_pattern r / D)) f))) (p, lt_of_le_of_lt h (lit< tt), refl)

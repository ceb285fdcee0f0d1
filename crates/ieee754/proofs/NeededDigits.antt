-- The turns of the digit loop are the digits that a root needs. Assumes nothing.
use mathlib.Core.Bool.{Bool, true, false, cond}
use mathlib.Core.Logic.{◌⊎◌, inl, inr}
use mathlib.Core.Path.{◌≡◌, refl, sym, ap, ◌∙◌, subst}
use Prim.Native.Nat.{ℕ, zero, suc, ◌+◌, ◌-◌, ◌*◌, ◌/◌, ◌%◌, ◌^◌, ◌≤◌, ◌<◌}
use native.Mathlib.Decide.{dec_le}
use native.Mathlib.Nat.{suc-add, le_refl, le_trans, le_of_eq, le_of_lt, le_antisymm, lt_of_lt_of_le, lt_of_le_of_lt, lt_of_not-le, not-le_of_lt, eq-or-lt_of_le, le_of_suc-le-suc, mul_assoc, mul-mul-mul_comm, mul-le-mul_right, mul-div-mul_right, mul-pos, div-mul-le_self, div-eq_of_lt, eq_of_mul-eq-mul_right}
use native.Mathlib.Omega.{arith}
use lib.Dec.{T, eqb, eqb→eq, eqb_refl, lit<}
use lib.Ieee.{Float, binary64, fits, size}
use lib.Ieee.Bits.{is_true}
use lib.Ieee.Digits.{size-lt, size-le}
use lib.Ieee.Positive.{positive}
use lib.Pow.{pow-add, pow_pos, pow_mono, shl_lt}
use Rattle.ieee754.specs.Root.{units_of, square, root_of}
use Rattle.ieee754.specs.Digits.{leading_digits, enough_digits, first_from, digits_needed}
use Rattle.ieee754.specs.InnerRoot.{units_of_pattern, root_pattern, EvenExponent, RootDigits, first_digits, DigitTurns, rounded_root}
use Rattle.ieee754.proofs.Arithmetic.{times4, sq_mono, add_le_add}
use Rattle.ieee754.proofs.DigitLoop.{no_remainder}
use Rattle.ieee754.proofs.Normalization.{root_rounds, rounded_above, rounded_else}
use Rattle.ieee754.proofs.PatternUnits.{units_at}
use Rattle.ieee754.proofs.PatternValues.{units_of_value}
use Rattle.ieee754.proofs.PositiveRoots.{units_positive, units_at_most, root_value}
use Rattle.ieee754.proofs.RootBounds.{root_squares}
use Rattle.ieee754.proofs.RootSearch.{root_has_53_digits}
use Rattle.ieee754.proofs.SquaredRoot.{D, Normal, normal_of, root_low, root_high, units_here, units_below_least}

-- ---- what `first_from` gives
pub record First (test : ℕ → Bool) (n k t : ℕ) : Type 0 where
  pub least : k ≤ t
  pub most : t ≤ k + n
  pub passes : t < k + n → T (test t)
  pub none_before : (j : ℕ) → k ≤ j → j < t → T (test j) → ⊥

pub first_from_lem : (test : ℕ → Bool) (n k : ℕ) → First test n k (first_from test n k)
unfolding first_from
first_from_lem test zero k = record { least = le_refl k; most = omega arith; passes = λ h. absurd (never k h); none_before = λ j a b t. absurd (clash j k a b) }
  where
    never : (k : ℕ) → k < k + 0 → ⊥
    never k h = omega arith

    clash : (j k : ℕ) → k ≤ j → j < k → ⊥
    clash j k a b = omega arith
first_from_lem test (suc n) k = go (test k) refl (first_from_lem test n (suc k))
  where
    clash : (j : ℕ) → k ≤ j → j < k → ⊥
    clash j a b = omega arith

    go : (b : Bool) → test k ≡ b → First test n (suc k) (first_from test n (suc k)) → First test (suc n) k (cond b k (first_from test n (suc k)))
    go true e f = record { least = le_refl k; most = omega arith; passes = λ h. subst T (sym e) tt; none_before = λ j a b t. clash j a b }
    go false e f = record { least = omega (arith, f.least); most = omega (arith, f.most); passes = λ h. f.passes (omega arith); none_before = λ j a b t. other j b t (eq-or-lt_of_le a) }
      where
        other : (j : ℕ) → j < first_from test n (suc k) → T (test j) → (k ≡ j) ⊎ (k < j) → ⊥
        other j b t (inl h) = subst T e (subst (λ (z : ℕ). T (test z)) (sym h) t)
        other j b t (inr h) = f.none_before j h b t

pub first_unique : (test : ℕ → Bool) (n k t u : ℕ) → First test n k t → First test n k u → t ≡ u
first_unique test n k t u f g = le_antisymm (most_first t u f g) (most_first u t g f)
  where
    most_first : (t u : ℕ) → First test n k t → First test n k u → t ≤ u
    most_first t u f g = le_of_suc-le-suc (lt_of_not-le (λ (h : suc u ≤ t). f.none_before u g.least h (g.passes (lt_of_lt_of_le h f.most))))

-- ---- the first digits of q * 2 ^ c, q of 53 digits
pub size_at : (n k : ℕ) → 2 ^ k ≤ n → n < 2 ^ suc k → size n ≡ suc k
size_at n k lo hi = le_antisymm (size-le n (suc k) hi) (lt_of_not-le (λ (h : size n ≤ k). not-le_of_lt (size-lt n) (le_trans (pow_mono h) lo)))

pub size_shifted : (n k c : ℕ) → 2 ^ k ≤ n → n < 2 ^ suc k → size (n * 2 ^ c) ≡ suc (k + c)
size_shifted n k c lo hi = size_at (n * 2 ^ c) (k + c) (le_trans (le_of_eq (pow-add 2 k c)) (mul-le-mul_right (2 ^ c) lo)) (subst (λ (z : ℕ). n * 2 ^ c < 2 ^ z) (suc-add k c) (shl_lt (suc k) c hi))

pub leading_digits_lem : (k q c : ℕ) → k ≤ 53 → 2 ^ 52 ≤ q → q < 2 ^ 53 → leading_digits k (q * 2 ^ c) ≡ first_digits k q * 2 ^ c
unfolding leading_digits
leading_digits_lem k q c h lo hi =
    ap (λ (z : ℕ). q * 2 ^ c / z * z) (ap (λ (z : ℕ). 2 ^ (z - k)) (size_shifted q 52 c lo hi ∙ sym (suc-add 52 c)) ∙ ap (λ (z : ℕ). 2 ^ z) (apart k c h) ∙ pow-add 2 (53 - k) c)
    ∙ ap (λ (z : ℕ). z * (2 ^ (53 - k) * 2 ^ c)) (mul-div-mul_right q (2 ^ (53 - k)) (pow_pos c))
    ∙ sym (mul_assoc (q / 2 ^ (53 - k)) (2 ^ (53 - k)) (2 ^ c))
  where
    apart : (k c : ℕ) → k ≤ 53 → 53 + c - k ≡ 53 - k + c
    apart k c h = omega arith

-- ---- digits whose square is s are the whole root
module _ (S q c : ℕ) (p : 0 < S) (n : Normal (root_pattern S) q c) (squares : square (units_of_pattern (root_pattern S - 1) + units_of_pattern (root_pattern S)) < 4 * (S * D)) where
  pub enough_is_whole : (t : ℕ) → t ≤ q → square (t * 2 ^ c) ≡ S * D → t ≡ q
  enough_is_whole t h e = go (eq-or-lt_of_le h)
    where
      go : (t ≡ q) ⊎ (t < q) → t ≡ q
      go (inl k) = k
      go (inr l) =
          let P = 2 ^ c in
          let a : t * P ≤ units_of_pattern (root_pattern S - 1) = le_trans (mul-le-mul_right P (less t q l)) (units_below_least (root_pattern S) q c n) in
          let b : t * P ≤ units_of_pattern (root_pattern S) = le_trans (mul-le-mul_right P h) (le_of_eq (sym (units_here (root_pattern S) q c n))) in
          absurd (not-le_of_lt squares (le_trans (le_of_eq (ap (λ (z : ℕ). 4 * z) (sym e) ∙ sym (times4 (t * P) (t * P)) ∙ ap square (twice (t * P)))) (sq_mono (add_le_add (t * P) (t * P) (units_of_pattern (root_pattern S - 1)) (units_of_pattern (root_pattern S)) a b))))
        where
          less : (t q : ℕ) → t < q → t ≤ q - 1
          less t q l = omega arith

          twice : (w : ℕ) → w * 2 ≡ w + w
          twice w = omega arith

-- ---- of every other s
pub needed_of_others : (s : Float) → positive s ≡ false → digits_needed s ≡ 0
unfolding digits_needed
needed_of_others s h = ap (λ (b : Bool). cond b (first_from (enough_digits s) 52 1) 0) h

-- ---- of a positive finite s
module _ (s : Float) (f : T (fits binary64 s)) (p : T (positive s)) where
  pub root_units : units_of (root_of s) ≡ units_of_pattern (root_pattern (units_of s))
  root_units = units_of_value (root_of s) (units_of_pattern (root_pattern (units_of s))) (root_value s f p)

  pub squares_below : square (units_of_pattern (root_pattern (units_of s) - 1) + units_of_pattern (root_pattern (units_of s))) < 4 * (units_of s * D)
  squares_below = (root_squares (units_of s) (units_positive s f p) (lt_of_le_of_lt (units_at_most s f p) (lit< tt))).0

  pub needed_of_positive : digits_needed s ≡ first_from (enough_digits s) 52 1
  unfolding digits_needed
  needed_of_positive = ap (λ (b : Bool). cond b (first_from (enough_digits s) 52 1) 0) (is_true (positive s) p)

  module _ (q c : ℕ) (n : Normal (root_pattern (units_of s)) q c) where
    leading_of_root : (k : ℕ) → k ≤ 53 → leading_digits k (units_of (root_of s)) ≡ first_digits k q * 2 ^ c
    leading_of_root k h = ap (leading_digits k) (root_units ∙ units_here (root_pattern (units_of s)) q c n) ∙ leading_digits_lem k q c h n.low n.high

    -- k digits are enough exactly if the root is exact and they are all of it
    pub enough_square : (k : ℕ) → k ≤ 53 → T (enough_digits s k) → square (first_digits k q * 2 ^ c) ≡ units_of s * D
    unfolding enough_digits
    enough_square k h t = ap square (sym (leading_of_root k h)) ∙ eqb→eq (square (leading_digits k (units_of (root_of s)))) (units_of s * D) t

    pub square_enough : (k : ℕ) → k ≤ 53 → square (first_digits k q * 2 ^ c) ≡ units_of s * D → T (enough_digits s k)
    unfolding enough_digits
    square_enough k h e = subst (λ (z : ℕ). T (eqb z (units_of s * D))) (sym (ap square (leading_of_root k h) ∙ e)) (eqb_refl (units_of s * D))

    pub enough_all : (k : ℕ) → k ≤ 53 → T (enough_digits s k) → first_digits k q ≡ q
    enough_all k h t = enough_is_whole (units_of s) q c (units_positive s f p) n squares_below (first_digits k q) (div-mul-le_self q (2 ^ (53 - k))) (enough_square k h t)

-- the whole root's square, by the units of its pattern
pub whole_square : (s : Float) (f : T (fits binary64 s)) (p : T (positive s)) (q c k : ℕ) → Normal (root_pattern (units_of s)) q c → k ≤ 53 → T (enough_digits s k) → square (units_of_pattern (root_pattern (units_of s))) ≡ units_of s * D
whole_square s f p q c k n h t = ap square (units_here (root_pattern (units_of s)) q c n ∙ ap (λ (z : ℕ). z * 2 ^ c) (sym (enough_all s f p q c n k h t))) ∙ enough_square s f p q c n k h t

pub root_is_normal : (s : Float) → T (fits binary64 s) → T (positive s) → Normal (root_pattern (units_of s)) (2 ^ 52 + root_pattern (units_of s) % 2 ^ 52) (root_pattern (units_of s) / 2 ^ 52 - 1)
root_is_normal s f p = normal_of (root_pattern (units_of s)) (root_low (units_of s) (units_positive s f p) (units_at_most s f p)) (root_high (units_of s) (units_positive s f p) (units_at_most s f p))

-- ---- the loop's turns
module _ (s : Float) (f : T (fits binary64 s)) (p : T (positive s)) (b m c q rest turns : ℕ) (same : units_of s ≡ units_of_pattern b) (e : EvenExponent b m c) (w : RootDigits m q rest) (d : DigitTurns m q turns) where
  pattern : c * 2 ^ 52 + rounded_root q rest ≡ root_pattern (units_of s)
  pattern = (root_rounds b m c q rest e w).0 ∙ ap root_pattern (sym same)

  target : units_of s * D ≡ m * 2 ^ 52 * (2 ^ c * 2 ^ c)
  target = quarter (units_of s * D) (m * 2 ^ 52) (2 ^ c * 2 ^ c) (ap (λ (z : ℕ). 4 * (z * D)) same ∙ e.same)
    where
      quarter : (x y z : ℕ) → 4 * x ≡ 4 * y * z → x ≡ y * z
      quarter x y z h = omega (arith, mul_assoc 4 y z)

  big : 2 ^ 52 ≤ q
  big = root_has_53_digits m q rest w e.low

  -- a square in units, and in digits
  digits_of_square : (t : ℕ) → square (t * 2 ^ c) ≡ units_of s * D → t * t ≡ m * 2 ^ 52
  digits_of_square t h = eq_of_mul-eq-mul_right (2 ^ c * 2 ^ c) (mul-pos (pow_pos c) (pow_pos c)) (t * t) (m * 2 ^ 52) (sym (mul-mul-mul_comm t (2 ^ c) t (2 ^ c)) ∙ h ∙ target)

  square_of_digits : (t : ℕ) → t * t ≡ m * 2 ^ 52 → square (t * 2 ^ c) ≡ units_of s * D
  square_of_digits t h = mul-mul-mul_comm t (2 ^ c) t (2 ^ c) ∙ ap (λ (z : ℕ). z * (2 ^ c * 2 ^ c)) h ∙ sym target

  one_at_least : 1 ≤ turns
  one_at_least = lt_of_not-le (λ (h : turns ≤ 0). clash (naught turns h) (d.exact (lt_of_le_of_lt h (lit< tt))))
    where
      naught : (t : ℕ) → t ≤ 0 → t ≡ 0
      naught t h = omega arith

      none : (q : ℕ) → q < 2 ^ 53 → q / 2 ^ 53 * 2 ^ 53 * (q / 2 ^ 53 * 2 ^ 53) ≡ 0
      none q h = ap (λ (z : ℕ). z * 2 ^ 53 * (z * 2 ^ 53)) (div-eq_of_lt h)

      clash : turns ≡ 0 → first_digits turns q * first_digits turns q ≡ m * 2 ^ 52 → ⊥
      clash z h =
          let k : 0 ≡ m * 2 ^ 52 = sym (none q w.small) ∙ sym (ap (λ (y : ℕ). first_digits y q * first_digits y q) z) ∙ h in
          omega (arith, k, e.low)

  -- the root is rounded down: its digits are q's
  down : rest ≤ q → First (enough_digits s) 52 1 turns
  down h =
      let is : c * 2 ^ 52 + q ≡ root_pattern (units_of s) = ap (λ (z : ℕ). c * 2 ^ 52 + z) (sym (rounded_else q rest h)) ∙ pattern in
      let lo = root_low (units_of s) (units_positive s f p) (units_at_most s f p) in
      let hi = root_high (units_of s) (units_positive s f p) (units_at_most s f p) in
      let n : Normal (root_pattern (units_of s)) q c = record { is = sym is; low = big; high = w.small; exponent_least = omega (arith, lo, w.small); exponent_most = omega (arith, hi, big) } in
      record {
        least = one_at_least;
        most = d.most;
        passes = λ l. square_enough s f p q c n turns d.most (square_of_digits (first_digits turns q) (d.exact l));
        none_before = λ j a l t. d.fewest j l (digits_of_square (first_digits j q) (enough_square s f p q c n j (le_of_lt (lt_of_lt_of_le l d.most)) t));
      }

  -- it is rounded up: it is not exact, and no digits are enough
  up : q < rest → First (enough_digits s) 52 1 turns
  up h =
      record {
        least = one_at_least;
        most = d.most;
        passes = λ l. absurd (remains (first_digits turns q) (d.exact l));
        none_before = λ j a l t. remains (q + 1) (digits_of_square (q + 1) (ap square (sym units) ∙ whole_square s f p _ _ j (root_is_normal s f p) (le_of_lt (lt_of_lt_of_le l d.most)) t));
      }
    where
      remains : (t : ℕ) → t * t ≡ m * 2 ^ 52 → ⊥
      remains t k = clash (no_remainder t q rest (k ∙ sym w.adds) w.close)
        where
          clash : rest ≡ 0 → ⊥
          clash z = omega arith

      units : units_of_pattern (root_pattern (units_of s)) ≡ (q + 1) * 2 ^ c
      units = ap units_of_pattern (sym pattern ∙ ap (λ (z : ℕ). c * 2 ^ 52 + z) (rounded_above q rest h)) ∙ units_at c (q + 1) (omega (arith, big)) (omega (arith, w.small))

  pub turns_are_needed : turns ≡ digits_needed s
  turns_are_needed = first_unique (enough_digits s) 52 1 turns (first_from (enough_digits s) 52 1) (go (dec_le rest q)) (first_from_lem (enough_digits s) 52 1) ∙ sym (needed_of_positive s f p)
    where
      go : Dec (rest ≤ q) → First (enough_digits s) 52 1 turns
      go (yes h) = down h
      go (no h) = up (lt_of_not-le h)

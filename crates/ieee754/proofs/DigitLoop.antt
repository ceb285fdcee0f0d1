-- A turn of the digit loop, and its end, on natural numbers. Assumes nothing.
use mathlib.Core.Logic.{◌⊎◌, inl, inr}
use mathlib.Core.Path.{◌≡◌, sym, ap, ◌∙◌, subst}
use Prim.Native.Nat.{ℕ, ◌+◌, ◌-◌, ◌*◌, ◌/◌, ◌%◌, ◌^◌, ◌≤◌, ◌<◌}
use native.Mathlib.Decide.{dec_le}
use native.Mathlib.Nat.{mul_comm, mul_assoc, mul_right_comm, mul-mul-mul_comm, mul-div_cancel, eq-or-lt_of_le, lt_of_lt_of_le, lt_of_not-le}
use native.Mathlib.Omega.{arith}
use lib.Pow.{pow-add, pow_mono, pow_pos, shl_lt, shl_exact}
use Rattle.ieee754.specs.InnerRoot.{RootDigits, first_digits, DigitTurns}
use Rattle.ieee754.proofs.Arithmetic.{times4, sq_odd, sq_suc, sq_mono}

-- what holds after i turns
pub record DigitsSoFar (m q rest x i : ℕ) : Type 0 where
  pub turns : i ≤ 53
  pub low : q < 2 ^ i
  pub small : q < 2 ^ 53
  pub close : rest ≤ 2 * q
  pub window : x < 2 ^ 54
  pub adds : (q * q + rest) * 2 ^ 54 + x ≡ m * 2 ^ (2 * i)

pow4 : (m i : ℕ) → m * 2 ^ (2 * (i + 1)) ≡ 4 * (m * 2 ^ (2 * i))
pow4 m i = ap (λ (z : ℕ). m * 2 ^ z) (two i) ∙ ap (λ (z : ℕ). m * z) (pow-add 2 (2 * i) 2) ∙ sym (mul_assoc m (2 ^ (2 * i)) 4) ∙ mul_comm (m * 2 ^ (2 * i)) 4
  where
    two : (i : ℕ) → 2 * (i + 1) ≡ 2 * i + 2
    two i = omega arith

pow2 : (i : ℕ) → 2 ^ (i + 1) ≡ 2 ^ i * 2
pow2 i = pow-add 2 i 1

double : (q i : ℕ) → i < 53 → q < 2 ^ (i + 1) → q < 2 ^ 53
double q i h l = lt_of_lt_of_le l (pow_mono (le i h))
  where
    le : (i : ℕ) → i < 53 → i + 1 ≤ 53
    le i h = omega arith

lower : (q i : ℕ) → q < 2 ^ i → q * 2 + 1 < 2 ^ (i + 1)
lower q i h = omega (arith, pow2 i)

-- the next digit is 0
pub zero_digit : (m q rest x i : ℕ) → i < 53 → DigitsSoFar m q rest x i → rest * 4 + x / 2 ^ 52 < q * 4 + 1 → DigitsSoFar m (q * 2) (rest * 4 + x / 2 ^ 52) (x % 2 ^ 52 * 4) (i + 1)
zero_digit m q rest x i h t l =
    let a = lower q i t.low in
    let b : q * 2 < 2 ^ (i + 1) = omega arith in
    record {
      turns = omega arith;
      low = b;
      small = double (q * 2) i h b;
      close = omega arith;
      window = omega arith;
      adds = omega (arith, times4 q q, pow4 m i, t.adds);
    }

-- it is 1
pub one_digit : (m q rest x i : ℕ) → i < 53 → DigitsSoFar m q rest x i → q * 4 + 1 ≤ rest * 4 + x / 2 ^ 52
    → DigitsSoFar m (q * 2 + 1) (rest * 4 + x / 2 ^ 52 - (q * 4 + 1)) (x % 2 ^ 52 * 4) (i + 1)
one_digit m q rest x i h t l =
    let a = lower q i t.low in
    record {
      turns = omega arith;
      low = a;
      small = double (q * 2 + 1) i h a;
      close = omega (arith, t.close);
      window = omega arith;
      adds = omega (arith, sq_odd q, pow4 m i, t.adds);
    }

digits_finish : (m q rest x : ℕ) → DigitsSoFar m q rest x 53 → RootDigits m q rest
digits_finish m q rest x t = record { adds = omega (arith, t.adds, t.window); close = t.close; small = t.small }

-- ---- when the loop ends

-- no number of k digits, k below i, is the root: p * 2 ^ (53 - k) would be it
abbrev NoneBelow : ℕ → ℕ → Type 0
NoneBelow m i = (k : ℕ) → k < i → (p : ℕ) → p * p * 2 ^ 54 ≡ m * 2 ^ (2 * k) → ⊥

-- what holds after i turns that did not end the loop
pub record Searching (m q rest x i : ℕ) : Type 0 where
  pub found : DigitsSoFar m q rest x i
  pub none_before : NoneBelow m i

-- a square that lies within the remainder is the whole root's, and nothing remains
pub no_remainder : (p q rest : ℕ) → p * p ≡ q * q + rest → rest ≤ 2 * q → rest ≡ 0
no_remainder p q rest e h = go (dec_le p q)
  where
    go : Dec (p ≤ q) → rest ≡ 0
    go (yes l) = omega (arith, sq_mono l)
    go (no f) = absurd (clash (sq_mono {a = q + 1} {b = p} (omega (arith, lt_of_not-le f))))
      where
        clash : (q + 1) * (q + 1) ≤ p * p → ⊥
        clash k = omega (arith, k, sq_suc q)

-- i digits are the root only where nothing remains
remains : (m q rest x i : ℕ) → DigitsSoFar m q rest x i → (rest ≡ 0 → x ≡ 0 → ⊥) → (p : ℕ) → p * p * 2 ^ 54 ≡ m * 2 ^ (2 * i) → ⊥
remains m q rest x i t n p e =
    let a : (q * q + rest) * 2 ^ 54 + x ≡ p * p * 2 ^ 54 = t.adds ∙ sym e in
    let b : p * p ≡ q * q + rest = omega (arith, t.window) in
    n (no_remainder p q rest b t.close) (omega (arith, t.window))

more_none : (m i : ℕ) → NoneBelow m i → ((p : ℕ) → p * p * 2 ^ 54 ≡ m * 2 ^ (2 * i) → ⊥) → NoneBelow m (i + 1)
more_none m i n h k l = go (eq-or-lt_of_le (below k i l))
  where
    below : (k i : ℕ) → k < i + 1 → k ≤ i
    below k i l = omega arith

    go : (k ≡ i) ⊎ (k < i) → (p : ℕ) → p * p * 2 ^ 54 ≡ m * 2 ^ (2 * k) → ⊥
    go (inl e) p f = h p (f ∙ ap (λ (z : ℕ). m * 2 ^ (2 * z)) e)
    go (inr b) p f = n k b p f

-- a turn: something remains, and there is one digit more
pub search_again : (m q rest x i q' rest' x' : ℕ) → Searching m q rest x i → (rest ≡ 0 → x ≡ 0 → ⊥) → DigitsSoFar m q' rest' x' (i + 1) → Searching m q' rest' x' (i + 1)
search_again m q rest x i q' rest' x' s n t = record { found = t; none_before = more_none m i s.none_before (remains m q rest x i s.found n) }

-- ---- at the end

-- k digits with 53 - k zeros after them: their square in both ways
scaled : (m p j k : ℕ) → j + k ≡ 53 → p * p * 2 ^ 54 ≡ m * 2 ^ (2 * k) → p * 2 ^ j * (p * 2 ^ j) ≡ m * 2 ^ 52
scaled m p j k h e = omega (arith, both)
  where
    full : 2 ^ (2 * k) * (2 ^ j * 2 ^ j) ≡ 2 ^ 106
    full = ap (λ (z : ℕ). 2 ^ (2 * k) * z) (sym (pow-add 2 j j)) ∙ sym (pow-add 2 (2 * k) (j + j)) ∙ ap (λ (z : ℕ). 2 ^ z) (sum j k h)
      where
        sum : (j k : ℕ) → j + k ≡ 53 → 2 * k + (j + j) ≡ 106
        sum j k h = omega arith

    both : p * 2 ^ j * (p * 2 ^ j) * 2 ^ 54 ≡ m * 2 ^ 106
    both = ap (λ (z : ℕ). z * 2 ^ 54) (mul-mul-mul_comm p (2 ^ j) p (2 ^ j)) ∙ mul_right_comm (p * p) (2 ^ j * 2 ^ j) (2 ^ 54) ∙ ap (λ (z : ℕ). z * (2 ^ j * 2 ^ j)) e ∙ mul_assoc m (2 ^ (2 * k)) (2 ^ j * 2 ^ j) ∙ ap (λ (z : ℕ). m * z) full

unscaled : (m p j k : ℕ) → j + k ≡ 53 → p * 2 ^ j * (p * 2 ^ j) ≡ m * 2 ^ 52 → p * p * 2 ^ 54 ≡ m * 2 ^ (2 * k)
unscaled m p j k h e = omega (arith, both)
  where
    full : 2 ^ j * 2 ^ j * 2 ^ (2 * k) ≡ 2 ^ 106
    full = ap (λ (z : ℕ). z * 2 ^ (2 * k)) (sym (pow-add 2 j j)) ∙ sym (pow-add 2 (j + j) (2 * k)) ∙ ap (λ (z : ℕ). 2 ^ z) (sum j k h)
      where
        sum : (j k : ℕ) → j + k ≡ 53 → j + j + 2 * k ≡ 106
        sum j k h = omega arith

    both : p * p * 2 ^ 106 ≡ m * 2 ^ (2 * k) * 2 ^ 52
    both = ap (λ (z : ℕ). p * p * z) (sym full) ∙ sym (mul_assoc (p * p) (2 ^ j * 2 ^ j) (2 ^ (2 * k))) ∙ ap (λ (z : ℕ). z * 2 ^ (2 * k)) (sym (mul-mul-mul_comm p (2 ^ j) p (2 ^ j)) ∙ e) ∙ mul_right_comm m (2 ^ 52) (2 ^ (2 * k))

none_enough : (m digits t : ℕ) → t ≤ 53 → NoneBelow m t → (k : ℕ) → k < t → first_digits k digits * first_digits k digits ≡ m * 2 ^ 52 → ⊥
none_enough m digits t h n k l e = n k l (digits / 2 ^ (53 - k)) (unscaled m (digits / 2 ^ (53 - k)) (53 - k) k (omega arith) e)

-- q with zeros for the digits that are left, as the code shifts it
abbrev pub filled : ℕ → ℕ → ℕ
filled q i = q * 2 ^ (53 - i) % 2 ^ 64

filled_is : (m q rest x i : ℕ) → Searching m q rest x i → filled q i ≡ q * 2 ^ (53 - i)
filled_is m q rest x i s = shl_exact i (53 - i) 64 s.found.low (omega (arith, s.found.turns))

filled_small : (m q rest x i : ℕ) → Searching m q rest x i → q * 2 ^ (53 - i) < 2 ^ 53
filled_small m q rest x i s = lt_of_lt_of_le (shl_lt i (53 - i) s.found.low) (pow_mono {i = i + (53 - i)} {j = 53} (omega (arith, s.found.turns)))

pub search_early : (m q rest x i : ℕ) → Searching m q rest x i → rest ≡ 0 → x ≡ 0 → RootDigits m (filled q i) 0 × DigitTurns m (filled q i) i
search_early m q rest x i s r z =
    let left = 53 - i in
    let whole : left + i ≡ 53 = omega (arith, s.found.turns) in
    let same : filled q i ≡ q * 2 ^ left = filled_is m q rest x i s in
    let e : q * q * 2 ^ 54 ≡ m * 2 ^ (2 * i) = omega (arith, s.found.adds) in
    let f : filled q i * filled q i ≡ m * 2 ^ 52 = ap (λ (y : ℕ). y * y) same ∙ scaled m q left i whole e in
    let first : first_digits i (filled q i) ≡ filled q i = ap (λ (y : ℕ). y / 2 ^ left * 2 ^ left) same ∙ ap (λ (y : ℕ). y * 2 ^ left) (mul-div_cancel q (pow_pos left)) ∙ sym same in (
      record { adds = omega (arith, f); close = omega arith; small = subst (λ (y : ℕ). y < 2 ^ 53) (sym same) (filled_small m q rest x i s) },
      record { most = s.found.turns; exact = λ l. ap (λ (y : ℕ). y * y) first ∙ f; fewest = none_enough m (filled q i) i s.found.turns s.none_before },
    )

pub search_late : (m q rest x i : ℕ) → i ≡ 53 → Searching m q rest x i → RootDigits m q rest × DigitTurns m q 53
search_late m q rest x i e s =
    let last : Searching m q rest x 53 = subst (Searching m q rest x) e s in (
      digits_finish m q rest x last.found,
      record { most = omega arith; exact = λ l. absurd (never l); fewest = none_enough m q 53 (omega arith) last.none_before },
    )
  where
    never : 53 < 53 → ⊥
    never l = omega arith

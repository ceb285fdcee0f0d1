-- What the digits needed say of a root: below 53 exactly where it is exact, and then how many digits it has, 27 at most. Assumes nothing.
use mathlib.Core.Logic.{◌↔◌}
use mathlib.Core.Path.{◌≡◌, refl, sym, ap, ◌∙◌, subst}
use Prim.Native.Nat.{ℕ, zero, suc, ◌+◌, ◌-◌, ◌*◌, ◌/◌, ◌%◌, ◌^◌, ◌≤◌, ◌<◌}
use native.Mathlib.Decide.{dec_le}
use native.Mathlib.Nat.{le_refl, le_trans, le_of_eq, le_of_lt, le_antisymm, lt_of_lt_of_le, lt_of_le_of_lt, lt_of_not-le, not-le_of_lt, le_of_suc-le-suc, mul-one, mul_assoc, mul-mul-mul_comm, mul-le-mul_right, mul-div_cancel, eq_of_mul-eq-mul_right, lt_of_mul-lt-mul_right, le_of_mul-le-mul_right, le_dest, pow-suc, pow-succ', zero-lt-suc}
use native.Mathlib.Omega.{arith}
use lib.Dec.{T, lit≤}
use lib.Ieee.{Float, binary64, fits, to_bits, size}
use lib.Ieee.Digits.{size-lt, size_reaches}
use lib.Ieee.Positive.{positive}
use lib.Pow.{pow-add, pow_pos, pow_mono, shl_lt}
use Rattle.ieee754.specs.Root.{units_of, square, root_of}
use Rattle.ieee754.specs.Digits.{enough_digits, digits_needed}
use Rattle.ieee754.specs.InnerRoot.{root_pattern, first_digits}
use Rattle.ieee754.proofs.Arithmetic.{sq_mono, sq_odd, times4}
use Rattle.ieee754.proofs.NeededDigits.{size_at, size_shifted, First, first_from_lem, first_unique, needed_of_positive, root_units, root_is_normal, enough_all, square_enough, whole_square}
use Rattle.ieee754.proofs.PatternValues.{units_of_float, units_have_53_digits}
use Rattle.ieee754.proofs.SquaredRoot.{D, Normal, units_here}

-- the root's square is s, exactly
abbrev pub Exact : Float → Type 0
Exact s = square (units_of (root_of s)) ≡ units_of s * 2 ^ 1074

-- n has k binary digits from its first 1 to its last: it is an odd number of k digits, with zeros after it
pub record SignificantDigits (n k : ℕ) : Type 0 where
  pub odd : ℕ
  pub zeros : ℕ
  pub is : n ≡ odd * 2 ^ zeros
  pub ends_with_1 : odd % 2 ≡ 1
  pub digits : size odd ≡ k

-- ---- whole numbers

-- a number that ends with 1 has digits, and the first of them is 1
size_of_odd : (n : ℕ) → n % 2 ≡ 1 → (k : ℕ) × (size n ≡ suc k) × (2 ^ k ≤ n)
size_of_odd n o = go (size n) refl
  where
    none : n < 1 → ⊥
    none h = omega arith

    go : (k : ℕ) → size n ≡ k → (k : ℕ) × (size n ≡ suc k) × (2 ^ k ≤ n)
    go zero e = absurd (none (subst (λ (z : ℕ). n < 2 ^ z) e (size-lt n)))
    go (suc k) e = (k, e, size_reaches n k (le_of_eq (sym e)))

-- a square with 2 j zeros at its end has a root with j
root_of_even : (j n q : ℕ) → q * q ≡ n * (2 ^ j * 2 ^ j) → (h : ℕ) × (q ≡ h * 2 ^ j)
root_of_even zero n q e = (q, sym (mul-one q))
root_of_even (suc j) n q e =
    let h = q / 2 in
    let four : n * (2 ^ suc j * 2 ^ suc j) ≡ 4 * (n * (2 ^ j * 2 ^ j)) = ap (λ (z : ℕ). n * (z * z)) (pow-suc 2 j) ∙ ap (λ (z : ℕ). n * z) (times4 (2 ^ j) (2 ^ j)) ∙ sym (mul_assoc n 4 (2 ^ j * 2 ^ j)) ∙ ap (λ (z : ℕ). z * (2 ^ j * 2 ^ j)) (turned n) ∙ mul_assoc 4 n (2 ^ j * 2 ^ j) in
    let even : q ≡ h * 2 = halves q (n * (2 ^ j * 2 ^ j)) (e ∙ four) in
    let r = root_of_even j n h (quarter (h * h) (n * (2 ^ j * 2 ^ j)) (sym (times4 h h) ∙ ap square (sym even) ∙ e ∙ four)) in
    (r.0, even ∙ ap (λ (z : ℕ). z * 2) r.1 ∙ mul_assoc r.0 (2 ^ j) 2 ∙ ap (λ (z : ℕ). r.0 * z) (sym (pow-suc 2 j)))
  where
    turned : (n : ℕ) → n * 4 ≡ 4 * n
    turned n = omega arith

    quarter : (x y : ℕ) → 4 * x ≡ 4 * y → x ≡ y
    quarter x y h = omega arith

    halves : (q y : ℕ) → q * q ≡ 4 * y → q ≡ q / 2 * 2
    halves q y e = go (dec_le (q % 2) 0)
      where
        go : Dec (q % 2 ≤ 0) → q ≡ q / 2 * 2
        go (yes h) = omega arith
        go (no f) = absurd (clash (ap square (whole q (lt_of_not-le f)) ∙ sq_odd (q / 2)))
          where
            whole : (q : ℕ) → 0 < q % 2 → q ≡ q / 2 * 2 + 1
            whole q h = omega arith

            clash : q * q ≡ 4 * (q / 2 * (q / 2)) + 4 * (q / 2) + 1 → ⊥
            clash k = omega (arith, k, e)

-- what ends with j zeros is kept whole by its first 53 - j digits
kept : (h j k : ℕ) → 53 - k ≡ j → first_digits k (h * 2 ^ j) ≡ h * 2 ^ j
kept h j k e = ap (λ (z : ℕ). h * 2 ^ j / 2 ^ z * 2 ^ z) e ∙ ap (λ (z : ℕ). z * 2 ^ j) (mul-div_cancel h (pow_pos j))

-- ---- of a positive finite s
module _ (s : Float) (f : T (fits binary64 s)) (p : T (positive s)) where
  abbrev q : ℕ
  q = 2 ^ 52 + root_pattern (units_of s) % 2 ^ 52

  abbrev c : ℕ
  c = root_pattern (units_of s) / 2 ^ 52 - 1

  normal : Normal (root_pattern (units_of s)) q c
  normal = root_is_normal s f p

  units : units_of (root_of s) ≡ q * 2 ^ c
  units = root_units s f p ∙ units_here (root_pattern (units_of s)) q c normal

  first : First (enough_digits s) 52 1 (digits_needed s)
  first = subst (First (enough_digits s) 52 1) (sym (needed_of_positive s f p)) (first_from_lem (enough_digits s) 52 1)

  -- digits that are enough are the whole root, which is exact
  enough_exact : (k : ℕ) → k ≤ 53 → T (enough_digits s k) → Exact s
  enough_exact k h t = ap square (root_units s f p) ∙ whole_square s f p q c k normal h t

  exact_enough : (k : ℕ) → k ≤ 53 → Exact s → first_digits k q ≡ q → T (enough_digits s k)
  exact_enough k h e a = square_enough s f p q c normal k h (ap (λ (z : ℕ). square (z * 2 ^ c)) a ∙ ap square (sym units) ∙ e)

  -- an exact root that ends with zeros after k digits
  ending_enough : (k h : ℕ) → k ≤ 53 → Exact s → q ≡ h * 2 ^ (53 - k) → T (enough_digits s k)
  ending_enough k h l e a = exact_enough k l e (subst (λ (z : ℕ). first_digits k z ≡ z) (sym a) (kept h (53 - k) k refl))

  below_53_exact : digits_needed s < 53 → Exact s
  below_53_exact h = enough_exact (digits_needed s) (le_of_lt h) (first.passes h)

  -- End theorem: an exact root has at most 27 digits, so that 53 says "none" alone
  pub at_most_27 : Exact s → digits_needed s ≤ 27
  at_most_27 e = le_of_suc-le-suc (lt_of_not-le (λ (l : 28 ≤ digits_needed s). first.none_before 27 (lit≤ tt) l (ending_enough 27 r.0 (lit≤ tt) e r.1)))
    where
      A : ℕ
      A = (units_have_53_digits (to_bits binary64 s)).0

      w : ℕ
      w = (units_have_53_digits (to_bits binary64 s)).1

      small : A < 2 ^ 53
      small = (units_have_53_digits (to_bits binary64 s)).3

      powers : q * q * 2 ^ (c + c) ≡ A * 2 ^ (w + 1074)
      powers =
          ap (λ (z : ℕ). q * q * z) (pow-add 2 c c) ∙ sym (mul-mul-mul_comm q (2 ^ c) q (2 ^ c)) ∙ ap square (sym units) ∙ e
          ∙ ap (λ (z : ℕ). z * D) (units_of_float s f p ∙ (units_have_53_digits (to_bits binary64 s)).2) ∙ mul_assoc A (2 ^ w) D ∙ ap (λ (z : ℕ). A * z) (sym (pow-add 2 w 1074))

      far : c + c + 52 ≤ w + 1074
      far = le_of_suc-le-suc (lt_of_not-le (λ (h : suc (w + 1074) ≤ c + c + 52). not-le_of_lt (top h) (le_of_eq powers)))
        where
          sum : (a b : ℕ) → suc a ≤ b + 52 → 53 + a ≤ 104 + b
          sum a b h = omega arith

          top : suc (w + 1074) ≤ c + c + 52 → A * 2 ^ (w + 1074) < q * q * 2 ^ (c + c)
          top h = lt_of_lt_of_le (shl_lt 53 (w + 1074) small) (le_trans (pow_mono (sum (w + 1074) (c + c) h)) (le_trans (le_of_eq (pow-add 2 104 (c + c))) (mul-le-mul_right (2 ^ (c + c)) (sq_mono {a = 2 ^ 52} {b = q} normal.low))))

      halves : (d : ℕ) → c + c + 52 + d ≡ w + 1074 → (h : ℕ) × (q ≡ h * 2 ^ 26)
      halves d h = root_of_even 26 (A * 2 ^ d) q (eq_of_mul-eq-mul_right (2 ^ (c + c)) (pow_pos (c + c)) (q * q) (A * 2 ^ d * (2 ^ 26 * 2 ^ 26)) (powers ∙ ap (λ (z : ℕ). A * z) (ap (λ (z : ℕ). 2 ^ z) (sym h ∙ order (c + c) d) ∙ pow-add 2 (d + 52) (c + c) ∙ ap (λ (z : ℕ). z * 2 ^ (c + c)) (pow-add 2 d 52)) ∙ sym (mul_assoc A (2 ^ d * 2 ^ 52) (2 ^ (c + c))) ∙ ap (λ (z : ℕ). z * 2 ^ (c + c)) (sym (mul_assoc A (2 ^ d) (2 ^ 52)))))
        where
          order : (a d : ℕ) → a + 52 + d ≡ d + 52 + a
          order a d = omega arith

      r : (h : ℕ) × (q ≡ h * 2 ^ 26)
      r = halves (le_dest far).0 (le_dest far).1

  -- End theorem: 53 exactly where the root is not exact
  pub none_exactly : (digits_needed s ≡ 53) ↔ (Exact s → ⊥)
  none_exactly = (λ e x. many (digits_needed s) e (at_most_27 x), λ n. le_antisymm first.most (le_of_suc-le-suc (lt_of_not-le (λ (h : suc (digits_needed s) ≤ 53). n (below_53_exact h)))))
    where
      many : (t : ℕ) → t ≡ 53 → t ≤ 27 → ⊥
      many t e h = omega arith

  -- End theorem: k below 53 exactly where the root is exact and has k digits
  pub digits_exactly : (k : ℕ) → k < 53 → (digits_needed s ≡ k) ↔ (Exact s × SignificantDigits (units_of (root_of s)) k)
  digits_exactly k h = (λ e. (below_53_exact (lt_of_le_of_lt (le_of_eq e) h), needed k h (subst (First (enough_digits s) 52 1) e first)), λ x. first_unique (enough_digits s) 52 1 (digits_needed s) k first (counted k h x.0 x.1))
    where
      needed : (k : ℕ) → k < 53 → First (enough_digits s) 52 1 k → SignificantDigits (units_of (root_of s)) k
      needed zero l t = absurd (never t.least)
        where
          never : 1 ≤ 0 → ⊥
          never h = omega arith
      needed (suc k) l t =
          let e : q ≡ M * 2 ^ j = sym (enough_all s f p q c normal (suc k) (le_of_lt l) (t.passes l)) in
          let lo : 2 ^ k ≤ M = le_of_mul-le-mul_right (le_trans (le_of_eq (sym (pow-add 2 k j) ∙ ap (λ (z : ℕ). 2 ^ z) (sym (low k l)))) (le_trans normal.low (le_of_eq e))) (pow_pos j) in
          let hi : M < 2 ^ suc k = lt_of_mul-lt-mul_right (2 ^ j) (lt_of_le_of_lt (le_of_eq (sym e)) (lt_of_lt_of_le normal.high (le_of_eq (ap (λ (z : ℕ). 2 ^ z) (high k l) ∙ pow-add 2 (suc k) j)))) in
          record { odd = M; zeros = j + c; is = units ∙ ap (λ (z : ℕ). z * 2 ^ c) e ∙ mul_assoc M (2 ^ j) (2 ^ c) ∙ ap (λ (z : ℕ). M * z) (sym (pow-add 2 j c)); ends_with_1 = last e lo hi (dec_le (M % 2) 0); digits = size_at M k lo hi }
        where
          j : ℕ
          j = 53 - suc k

          M : ℕ
          M = q / 2 ^ j

          low : (k : ℕ) → suc k < 53 → 52 ≡ k + (53 - suc k)
          low k l = omega arith

          high : (k : ℕ) → suc k < 53 → 53 ≡ suc k + (53 - suc k)
          high k l = omega arith

          next : (k : ℕ) → suc k < 53 → suc (53 - suc k) ≡ 53 - k
          next k l = omega arith

          one : (k m : ℕ) → k ≤ 0 → 2 ^ k ≤ m → m < 2 ^ suc k → m % 2 ≤ 0 → ⊥
          one zero m h lo hi e = omega arith
          one (suc k) m h lo hi e = omega arith

          -- an even M would leave k digits that are enough
          last : q ≡ M * 2 ^ j → 2 ^ k ≤ M → M < 2 ^ suc k → Dec (M % 2 ≤ 0) → M % 2 ≡ 1
          last e lo hi (no n) = omega (arith, lt_of_not-le n)
          last e lo hi (yes n) = go (dec_le k 0)
            where
              halved : (m : ℕ) → m % 2 ≤ 0 → m ≡ m / 2 * 2
              halved m h = omega arith

              fewer : q ≡ M / 2 * 2 ^ (53 - k)
              fewer = e ∙ ap (λ (z : ℕ). z * 2 ^ j) (halved M n) ∙ mul_assoc (M / 2) 2 (2 ^ j) ∙ ap (λ (z : ℕ). M / 2 * z) (sym (pow-succ' 2 j) ∙ ap (λ (z : ℕ). 2 ^ z) (next k l))

              go : Dec (k ≤ 0) → M % 2 ≡ 1
              go (yes h) = absurd (one k M h lo hi n)
              go (no h) = absurd (t.none_before k (lt_of_not-le h) (le_refl (suc k)) (ending_enough k (M / 2) (le_of_lt (le_of_lt l)) (enough_exact (suc k) (le_of_lt l) (t.passes l)) fewer))

      counted : (k : ℕ) → k < 53 → Exact s → SignificantDigits (units_of (root_of s)) k → First (enough_digits s) 52 1 k
      counted k l e d =
          record {
            least = subst (λ (z : ℕ). 1 ≤ z) (sym is) (zero-lt-suc n);
            most = le_of_lt l;
            passes = λ x. ending_enough k d.odd (le_of_lt l) e whole;
            none_before = λ i a b t. even i (le_dest b).0 (le_dest b).1 t;
          }
        where
          n : ℕ
          n = (size_of_odd d.odd d.ends_with_1).0

          is : k ≡ suc n
          is = sym d.digits ∙ (size_of_odd d.odd d.ends_with_1).1

          sizes : suc (n + d.zeros) ≡ suc (52 + c)
          sizes =
              sym (size_shifted d.odd n d.zeros (size_of_odd d.odd d.ends_with_1).2 (subst (λ (z : ℕ). d.odd < 2 ^ z) (size_of_odd d.odd d.ends_with_1).1 (size-lt d.odd)))
              ∙ ap size (sym d.is ∙ units) ∙ size_shifted q 52 c normal.low normal.high

          zeros : (n z c k : ℕ) → k < 53 → k ≡ suc n → suc (n + z) ≡ suc (52 + c) → z ≡ 53 - k + c
          zeros n z c k l e h = omega arith

          whole : q ≡ d.odd * 2 ^ (53 - k)
          whole =
              eq_of_mul-eq-mul_right (2 ^ c) (pow_pos c) q (d.odd * 2 ^ (53 - k))
              (sym units ∙ d.is ∙ ap (λ (z : ℕ). d.odd * z) (ap (λ (z : ℕ). 2 ^ z) (zeros n d.zeros c k l is sizes) ∙ pow-add 2 (53 - k) c) ∙ sym (mul_assoc d.odd (2 ^ (53 - k)) (2 ^ c)))

          -- fewer digits that are enough would make it even
          even : (i x : ℕ) → suc i + x ≡ k → T (enough_digits s i) → ⊥
          even i x h t =
              let N = q / 2 ^ (53 - i) in
              let a : N * 2 ^ (53 - i) ≡ q = enough_all s f p q c normal i (omega arith) t in
              let b : N * 2 ^ suc x ≡ d.odd = eq_of_mul-eq-mul_right (2 ^ (53 - k)) (pow_pos (53 - k)) (N * 2 ^ suc x) d.odd (mul_assoc N (2 ^ suc x) (2 ^ (53 - k)) ∙ ap (λ (z : ℕ). N * z) (sym (pow-add 2 (suc x) (53 - k)) ∙ ap (λ (z : ℕ). 2 ^ z) (apart i x k l h)) ∙ a ∙ whole) in
              odd_even d.odd (N * 2 ^ x) d.ends_with_1 (sym b ∙ ap (λ (z : ℕ). N * z) (pow-suc 2 x) ∙ sym (mul_assoc N (2 ^ x) 2))
            where
              apart : (i x k : ℕ) → k < 53 → suc i + x ≡ k → suc x + (53 - k) ≡ 53 - i
              apart i x k l h = omega arith

              odd_even : (m y : ℕ) → m % 2 ≡ 1 → m ≡ y * 2 → ⊥
              odd_even m y o e = omega arith

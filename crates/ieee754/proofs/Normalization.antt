-- A positive finite number as 53 binary digits and a power of two, and the root's pattern from them. Assumes nothing.
use mathlib.Core.Bool.{Bool, cond}
use mathlib.Core.Path.{◌≡◌, refl, sym, ap, ◌∙◌, subst}
use Prim.Native.Nat.{ℕ, zero, suc, ◌+◌, ◌-◌, ◌*◌, ◌/◌, ◌%◌, ◌^◌, ◌≤◌, ◌<◌}
use native.Mathlib.Decide.{dec_le}
use native.Mathlib.Nat.{mul_assoc, mul_comm, mul-le-mul_right, add_comm, lt_of_not-le}
use native.Mathlib.Omega.{arith}
use lib.Arith.{le→nltb}
use lib.Dec.{ltb, lt→ltb}
use lib.Ieee.Bits.{is_true, is_false}
use lib.Pow.{pow-add, pow_mono, shl_exact, shl_lt}
use lib.Count.{count_leading_zeros, leading_top}
use Rattle.ieee754.specs.InnerRoot.{units_of_fields, units_of_pattern, greatest_pattern, root_pattern, PositiveFinite, Normalized, EvenExponent, RootDigits, rounded_root}
use Rattle.ieee754.proofs.PatternUnits.{units_by_fields}
use Rattle.ieee754.proofs.RootSearch.{rounds_down, rounds_up, root_has_53_digits}

-- ---- from digits and exponent to m and c
raised : (b m w : ℕ) → Normalized b m w → units_of_pattern b * 2 ^ 1074 ≡ m * 2 ^ (w + 1022)
raised b m w s = sym (mul_assoc (units_of_pattern b) (2 ^ 52) (2 ^ 1022)) ∙ ap (λ (z : ℕ). z * 2 ^ 1022) s.same ∙ mul_assoc m (2 ^ w) (2 ^ 1022) ∙ ap (λ (z : ℕ). m * z) (sym (pow-add 2 w 1022))

even : (m c : ℕ) → m * 2 ^ (2 * (c + 26)) ≡ m * 2 ^ 52 * (2 ^ c * 2 ^ c)
even m c = ap (λ (z : ℕ). m * 2 ^ z) (split c) ∙ ap (λ (z : ℕ). m * z) (pow-add 2 52 (c + c) ∙ ap (λ (z : ℕ). 2 ^ 52 * z) (pow-add 2 c c)) ∙ sym (mul_assoc m (2 ^ 52) (2 ^ c * 2 ^ c))
  where
    split : (c : ℕ) → 2 * (c + 26) ≡ 52 + (c + c)
    split c = omega arith

four : (a m p : ℕ) → a ≡ m * p → 4 * a ≡ 4 * m * p
four a m p e = ap (λ (z : ℕ). 4 * z) e ∙ sym (mul_assoc 4 m p)

pub by_halves : (b m w c : ℕ) → Normalized b m w → w + 1022 ≡ 2 * (c + 26) → 4 * (units_of_pattern b * 2 ^ 1074) ≡ 4 * (m * 2 ^ 52) * (2 ^ c * 2 ^ c)
by_halves b m w c s e = four (units_of_pattern b * 2 ^ 1074) (m * 2 ^ 52) (2 ^ c * 2 ^ c) (raised b m w s ∙ ap (λ (z : ℕ). m * 2 ^ z) e ∙ even m c)

pub by_halves_odd : (b m w c : ℕ) → Normalized b m w → w + 1022 ≡ 2 * (c + 26) + 1 → 4 * (units_of_pattern b * 2 ^ 1074) ≡ 4 * (m * 2 * 2 ^ 52) * (2 ^ c * 2 ^ c)
by_halves_odd b m w c s e =
    four (units_of_pattern b * 2 ^ 1074) (m * 2 * 2 ^ 52) (2 ^ c * 2 ^ c)
    (raised b m w s ∙ ap (λ (z : ℕ). m * 2 ^ z) (e ∙ add_comm (2 * (c + 26)) 1) ∙ ap (λ (z : ℕ). m * z) (pow-add 2 1 (2 * (c + 26))) ∙ sym (mul_assoc m 2 (2 ^ (2 * (c + 26)))) ∙ even (m * 2) c)

-- ---- the pattern as m and w
pub normal_is_normalized : (b : ℕ) → PositiveFinite b → (b / 2 ^ 52 ≡ 0 → ⊥) → Normalized b (b % 2 ^ 52 + 2 ^ 52) (b / 2 ^ 52 + 51)
normal_is_normalized b f n = record { low = omega arith; high = omega arith; span = omega (arith, f.below); same = go (b / 2 ^ 52) n (units_by_fields b (b / 2 ^ 52) (b % 2 ^ 52) refl refl) }
  where
    fit : (x : ℕ) → x + 52 ≡ suc x + 51
    fit x = omega arith

    go : (x : ℕ) → (x ≡ 0 → ⊥) → units_of_pattern b ≡ units_of_fields x (b % 2 ^ 52) → units_of_pattern b * 2 ^ 52 ≡ (b % 2 ^ 52 + 2 ^ 52) * 2 ^ (x + 51)
    go zero n e = absurd (n refl)
    go (suc x) n e = ap (λ (z : ℕ). z * 2 ^ 52) e ∙ mul_assoc (2 ^ 52 + b % 2 ^ 52) (2 ^ x) (2 ^ 52) ∙ ap (λ (z : ℕ). z * (2 ^ x * 2 ^ 52)) (add_comm (2 ^ 52) (b % 2 ^ 52)) ∙ ap (λ (z : ℕ). (b % 2 ^ 52 + 2 ^ 52) * z) (sym (pow-add 2 x 52) ∙ ap (λ (z : ℕ). 2 ^ z) (fit x))

-- a subnormal number's digits, shifted left until the first is the 53rd
shifted : (b m j : ℕ) → b / 2 ^ 52 ≡ 0 → m ≡ b → 2 ^ j ≤ m → m < 2 ^ suc j → j ≤ 52 → Normalized b (m * 2 ^ (52 - j) % 2 ^ 64) j
shifted b m j e is low high few =
    let k = 52 - j in
    let exact : m * 2 ^ k % 2 ^ 64 ≡ m * 2 ^ k = shl_exact (suc j) k 64 high (omega arith) in
    let all : j + k ≡ 52 = omega arith in
    let whole : 2 ^ j * 2 ^ k ≡ 2 ^ 52 = sym (pow-add 2 j k) ∙ ap (λ (z : ℕ). 2 ^ z) all in
    let back : 2 ^ k * 2 ^ j ≡ 2 ^ 52 = mul_comm (2 ^ k) (2 ^ j) ∙ whole in
    let below : m * 2 ^ k < 2 ^ 53 = subst (λ (z : ℕ). m * 2 ^ k < 2 ^ z) (sum j few) (shl_lt (suc j) k high) in
    record {
      low = omega (arith, exact, whole, mul-le-mul_right (2 ^ k) low);
      high = omega (arith, exact, below);
      span = omega arith;
      same = ap (λ (z : ℕ). z * 2 ^ 52) (units_by_fields b 0 b e (omega arith) ∙ sym is) ∙ sym (ap (λ (z : ℕ). z * 2 ^ j) exact ∙ mul_assoc m (2 ^ k) (2 ^ j) ∙ ap (λ (z : ℕ). m * z) back);
    }
  where
    sum : (j : ℕ) → j ≤ 52 → suc j + (52 - j) ≡ 53
    sum j h = omega arith

-- the shift of a fraction by its leading zeros
pub record SubnormalShift (b clear : ℕ) : Type 0 where
  pub at_least : 11 ≤ clear
  pub at_most : clear - 11 ≤ 52
  pub normalized : Normalized b (b % 2 ^ 52 * 2 ^ (clear - 11) % 2 ^ 64) (52 - (clear - 11))

pub subnormal_shift : (b : ℕ) → PositiveFinite b → b / 2 ^ 52 ≡ 0 → SubnormalShift b (count_leading_zeros 64 (b % 2 ^ 52))
subnormal_shift b f e =
    let m = b % 2 ^ 52 in
    let clear = count_leading_zeros 64 m in
    let top = leading_top 64 m (omega (arith, f.above)) (omega arith) in
    let j = top.0 in
    let places : clear + suc j ≡ 64 = top.1 in
    let few : j < 52 = lt_of_not-le (λ (h : 52 ≤ j). clash m (2 ^ j) (pow_mono h) top.2 (omega arith)) in
    record {
      at_least = omega arith;
      at_most = omega arith;
      normalized = subst (λ (z : ℕ). Normalized b (m * 2 ^ z % 2 ^ 64) (52 - z)) (shift clear j places few) (subst (λ (z : ℕ). Normalized b (m * 2 ^ (52 - j) % 2 ^ 64) z) (back j few) (shifted b m j e (omega arith) top.2 top.3 (omega arith)));
    }
  where
    clash : (m p : ℕ) → 2 ^ 52 ≤ p → p ≤ m → m < 2 ^ 52 → ⊥
    clash m p a b c = omega arith

    shift : (clear j : ℕ) → clear + suc j ≡ 64 → j < 52 → 52 - j ≡ clear - 11
    shift clear j h few = omega arith

    back : (j : ℕ) → j < 52 → j ≡ 52 - (52 - j)
    back j h = omega arith

-- ---- both parities, and both roundings
even_exponent : (b m w : ℕ) → Normalized b m w → ((w + 1022) % 2 ≡ 1 → ⊥) → EvenExponent b m ((w + 1022) / 2 - 26)
even_exponent b m w s h = record { low = s.low; high = omega (arith, s.high); span = omega (arith, s.span); same = by_halves b m w ((w + 1022) / 2 - 26) s (omega arith) }

odd_exponent : (b m w : ℕ) → Normalized b m w → (w + 1022) % 2 ≡ 1 → EvenExponent b (m * 2) ((w + 1022) / 2 - 26)
odd_exponent b m w s h = record { low = omega (arith, s.low); high = omega (arith, s.high); span = omega (arith, s.span); same = by_halves_odd b m w ((w + 1022) / 2 - 26) s (omega arith) }

pub either_exponent : (b m w : ℕ) → Normalized b m w → EvenExponent b (m * 2 ^ ((w + 1022) % 2) % 2 ^ 64) ((w + 1022) / 2 - 26)
either_exponent b m w s = go ((w + 1022) % 2) refl
  where
    go : (p : ℕ) → (w + 1022) % 2 ≡ p → EvenExponent b (m * 2 ^ p % 2 ^ 64) ((w + 1022) / 2 - 26)
    go zero e = subst (λ (z : ℕ). EvenExponent b z ((w + 1022) / 2 - 26)) (omega (arith, s.high)) (even_exponent b m w s (λ h. never e h))
      where
        never : (w + 1022) % 2 ≡ 0 → (w + 1022) % 2 ≡ 1 → ⊥
        never e h = omega arith
    go (suc zero) e = subst (λ (z : ℕ). EvenExponent b z ((w + 1022) / 2 - 26)) (omega (arith, s.high)) (odd_exponent b m w s e)
    go (suc (suc p)) e = absurd (never p e)
      where
        never : (p : ℕ) → (w + 1022) % 2 ≡ suc (suc p) → ⊥
        never p e = omega arith

-- ---- the root's pattern

pub rounded_above : (q rest : ℕ) → q < rest → rounded_root q rest ≡ q + 1
unfolding rounded_root
rounded_above q rest h = ap (λ (t : Bool). cond t (q + 1) q) (is_true (ltb q rest) (lt→ltb q rest h))

pub rounded_else : (q rest : ℕ) → rest ≤ q → rounded_root q rest ≡ q
unfolding rounded_root
rounded_else q rest h = ap (λ (t : Bool). cond t (q + 1) q) (is_false (ltb q rest) (le→nltb q rest h))

pub root_rounds : (b m c q rest : ℕ) → EvenExponent b m c → RootDigits m q rest → (c * 2 ^ 52 + rounded_root q rest ≡ root_pattern (units_of_pattern b)) × (c * 2 ^ 52 + rounded_root q rest < 9218868437227405312)
unfolding root_pattern
root_rounds b m c q rest e w = go (dec_le rest q)
  where
    X : ℕ
    X = 4 * (units_of_pattern b * 2 ^ 1074)

    big : 2 ^ 52 ≤ q
    big = root_has_53_digits m q rest w e.low

    go : Dec (rest ≤ q) → (c * 2 ^ 52 + rounded_root q rest ≡ greatest_pattern X 63 0) × (c * 2 ^ 52 + rounded_root q rest < 9218868437227405312)
    go (yes h) = rw (rounded_else q rest h) (sym (rounds_down X m c q rest e.same w big e.span h), omega (arith, e.span, w.small))
    go (no f) = let h = lt_of_not-le f in rw (rounded_above q rest h) (sym (rounds_up X m c q rest e.same w big e.span h), omega (arith, e.span, w.small))

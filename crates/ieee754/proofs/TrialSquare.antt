-- A trial of a whole root: the square of a number of 53 binary digits by halves of 27. Assumes nothing.
use mathlib.Core.Bool.{Bool, true, false, cond, ◌&&◌}
use mathlib.Core.Path.{refl, sym, subst, ◌≡◌, ap, ◌∙◌}
use Prim.Native.Nat.{ℕ, ◌+◌, ◌-◌, ◌*◌, ◌/◌, ◌%◌, ◌^◌, ◌≤◌, ◌<◌}
use native.Mathlib.Nat.{le_of_lt, mul-le-mul, mul_comm, mul_right_comm, mul-mul-mul_comm, add-mul, mul-add}
use native.Mathlib.Omega.{arith}
use lib.Dec.{T, leb, leb→le, le→leb}
use lib.Ieee.Bits.{is_true}
use lib.Ieee.Fits.{and_l, and_r, and_i}
use Rattle.ieee754.specs.InnerRoot.{RootDigits, is_integer_root, trial_of}
use Rattle.std.specs.Prelude.{Some, None}
use Rattle.std.proofs.lemmas.Option.{cond_some}

pub record Halves (q a b : ℕ) : Type 0 where
  pub ab : a * b ≤ 2 ^ 53
  pub aa : a * a ≤ 2 ^ 52
  pub bb : b * b ≤ 2 ^ 54
  pub sq : q * q ≡ a * a * 2 ^ 54 + a * b * 2 * 2 ^ 27 + b * b

expand : (x b : ℕ) → (x + b) * (x + b) ≡ x * x + 2 * (x * b) + b * b
expand x b = omega (arith, add-mul x b (x + b), mul-add x x b, mul-add b x b, mul_comm b x)

pub halves : (q : ℕ) → q < 2 ^ 53 → Halves q (q / 134217728) (q % 134217728)
halves q h =
    let a = q / 134217728 in
    let b = q % 134217728 in
    let al : a < 2 ^ 26 = omega arith in
    let bl : b < 2 ^ 27 = omega arith in
    let K = 2 ^ 27 in
    let e : q ≡ a * K + b = omega arith in
    record {
      ab = mul-le-mul (le_of_lt al) (le_of_lt bl);
      aa = mul-le-mul (le_of_lt al) (le_of_lt al);
      bb = mul-le-mul (le_of_lt bl) (le_of_lt bl);
      sq = ap (λ (z : ℕ). z * z) e ∙ expand (a * K) b ∙ last (a * K * (a * K)) (a * K * b) (a * a) (a * b) (b * b) (mul-mul-mul_comm a K a K) (mul_right_comm a K b);
    }
  where
    last : (x y aa ab bb : ℕ) → x ≡ aa * (2 ^ 27 * 2 ^ 27) → y ≡ ab * 2 ^ 27 → x + 2 * y + bb ≡ aa * 2 ^ 54 + ab * 2 * 2 ^ 27 + bb
    last x y aa ab bb e f = omega arith

-- the square in two parts, as the trial computes it
abbrev high : ℕ → ℕ → ℕ
high a b = a * a + a * b * 2 / 134217728

abbrev low : ℕ → ℕ → ℕ
low a b = a * b * 2 % 134217728 * 134217728 + b * b

-- what m * 2 ^ 52 leaves above the square's high part
abbrev left : ℕ → ℕ → ℕ → ℕ
left m a b = (m / 4 - high a b) * 18014398509481984 + m % 4 * 4503599627370496

says_some : (m q n : ℕ) → q * q + n ≡ m * 2 ^ 52 → n ≤ 2 * q → Some n ≡ trial_of m q
unfolding trial_of is_integer_root
says_some m q n e h =
    let both = is_true (leb (q * q) (m * 2 ^ 52) && leb (m * 2 ^ 52) (q * q + 2 * q)) (and_i (leb (q * q) (m * 2 ^ 52)) (leb (m * 2 ^ 52) (q * q + 2 * q)) (le→leb (q * q) (m * 2 ^ 52) (omega arith)) (le→leb (m * 2 ^ 52) (q * q + 2 * q) (omega arith))) in
    ap Some (rest (m * 2 ^ 52) (q * q) n e) ∙ sym (ap (λ (b : Bool). cond b (Some (m * 2 ^ 52 - q * q)) None) both)
  where
    rest : (w s n : ℕ) → s + n ≡ w → n ≡ w - s
    rest w s n e = omega arith

says_none : (m q : ℕ) → (T (leb (q * q) (m * 2 ^ 52)) → T (leb (m * 2 ^ 52) (q * q + 2 * q)) → ⊥) → None ≡ trial_of m q
unfolding trial_of is_integer_root
says_none m q f = sym (ap (λ (b : Bool). cond b (Some (m * 2 ^ 52 - q * q)) None) (go (leb (q * q) (m * 2 ^ 52)) (leb (m * 2 ^ 52) (q * q + 2 * q)) f))
  where
    go : (a b : Bool) → (T a → T b → ⊥) → (a && b) ≡ false
    go true true f = absurd (f tt tt)
    go true false f = refl
    go false b f = refl

module _ (m q a b : ℕ) (small : q < 2 ^ 53) (halves : Halves q a b) where
  pub trial_holds : high a b ≤ m / 4 → low a b ≤ left m a b → left m a b - low a b ≤ 2 * q → Some (left m a b - low a b) ≡ trial_of m q
  trial_holds h k c = says_some m q (left m a b - low a b) (sum m (q * q) (a * a) (a * b * 2) (b * b) halves.sq h k) c
    where
      sum : (m qq aa ab bb : ℕ) → qq ≡ aa * 2 ^ 54 + ab * 2 ^ 27 + bb → aa + ab / 134217728 ≤ m / 4
          → ab % 134217728 * 134217728 + bb ≤ (m / 4 - (aa + ab / 134217728)) * 18014398509481984 + m % 4 * 4503599627370496
          → qq + ((m / 4 - (aa + ab / 134217728)) * 18014398509481984 + m % 4 * 4503599627370496 - (ab % 134217728 * 134217728 + bb)) ≡ m * 2 ^ 52
      sum m qq aa ab bb e l k = omega arith

  -- the high part is too great
  pub trial_high : m / 4 < high a b → None ≡ trial_of m q
  trial_high h = says_none m q (λ t u. clash m (q * q) (a * a) (a * b * 2) (b * b) halves.sq h (leb→le (q * q) (m * 2 ^ 52) t))
    where
      clash : (m qq aa ab bb : ℕ) → qq ≡ aa * 2 ^ 54 + ab * 2 ^ 27 + bb → m / 4 < aa + ab / 134217728 → qq ≤ m * 2 ^ 52 → ⊥
      clash m qq aa ab bb e h l = omega arith

  -- it is too small by far
  pub trial_far : high a b ≤ m / 4 → 8 ≤ m / 4 - high a b → None ≡ trial_of m q
  trial_far h k = says_none m q (λ t u. clash m q (q * q) (a * a) (a * b * 2) (b * b) small halves.bb halves.sq h k (leb→le (m * 2 ^ 52) (q * q + 2 * q) u))
    where
      clash : (m q qq aa ab bb : ℕ) → q < 2 ^ 53 → bb ≤ 2 ^ 54 → qq ≡ aa * 2 ^ 54 + ab * 2 ^ 27 + bb → aa + ab / 134217728 ≤ m / 4 → 8 ≤ m / 4 - (aa + ab / 134217728) → m * 2 ^ 52 ≤ qq + 2 * q → ⊥
      clash m q qq aa ab bb s l e h k u = omega arith

  -- the low part is too great
  pub trial_low : high a b ≤ m / 4 → left m a b < low a b → None ≡ trial_of m q
  trial_low h k = says_none m q (λ t u. clash m (q * q) (a * a) (a * b * 2) (b * b) halves.sq h k (leb→le (q * q) (m * 2 ^ 52) t))
    where
      clash : (m qq aa ab bb : ℕ) → qq ≡ aa * 2 ^ 54 + ab * 2 ^ 27 + bb → aa + ab / 134217728 ≤ m / 4
          → (m / 4 - (aa + ab / 134217728)) * 18014398509481984 + m % 4 * 4503599627370496 < ab % 134217728 * 134217728 + bb → qq ≤ m * 2 ^ 52 → ⊥
      clash m qq aa ab bb e h k l = omega arith

  -- the remainder is too great
  pub trial_rest : high a b ≤ m / 4 → low a b ≤ left m a b → 2 * q < left m a b - low a b → None ≡ trial_of m q
  trial_rest h k c = says_none m q (λ t u. clash m q (q * q) (a * a) (a * b * 2) (b * b) halves.sq h k c (leb→le (m * 2 ^ 52) (q * q + 2 * q) u))
    where
      clash : (m q qq aa ab bb : ℕ) → qq ≡ aa * 2 ^ 54 + ab * 2 ^ 27 + bb → aa + ab / 134217728 ≤ m / 4
          → ab % 134217728 * 134217728 + bb ≤ (m / 4 - (aa + ab / 134217728)) * 18014398509481984 + m % 4 * 4503599627370496
          → 2 * q < (m / 4 - (aa + ab / 134217728)) * 18014398509481984 + m % 4 * 4503599627370496 - (ab % 134217728 * 134217728 + bb) → m * 2 ^ 52 ≤ qq + 2 * q → ⊥
      clash m q qq aa ab bb e h k c u = omega arith

-- a trial that holds gives the whole root and the remainder
pub root_of_trial : (m q n : ℕ) → q < 2 ^ 53 → trial_of m q ≡ Some n → RootDigits m q n
unfolding trial_of is_integer_root
root_of_trial m q n small s =
    let holds = cond_some (leb (q * q) (m * 2 ^ 52) && leb (m * 2 ^ 52) (q * q + 2 * q)) (m * 2 ^ 52 - q * q) n s in
    let t : T (leb (q * q) (m * 2 ^ 52) && leb (m * 2 ^ 52) (q * q + 2 * q)) = subst T (sym holds.0) tt in
    let l = leb→le (q * q) (m * 2 ^ 52) (and_l (leb (q * q) (m * 2 ^ 52)) (leb (m * 2 ^ 52) (q * q + 2 * q)) t) in
    let u = leb→le (m * 2 ^ 52) (q * q + 2 * q) (and_r (leb (q * q) (m * 2 ^ 52)) (leb (m * 2 ^ 52) (q * q + 2 * q)) t) in
    let r : m * 2 ^ 52 - q * q ≡ n = holds.1 in
    record { adds = omega arith; close = omega arith; small = small }

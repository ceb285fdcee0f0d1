-- A difference as computed: its sign, and its absolute value |fl(p - x)|, which is the rounded distance of two ranks, so the same either way round. Assumes nothing.
use mathlib.Core.Bool.{Bool, true, false, not, ◌&&◌, cond}
use mathlib.Core.Logic.{◌⊎◌, inl, inr}
use mathlib.Core.Path.{◌≡◌, refl, sym, ap, ◌∙◌, subst}
use Prim.Native.Nat.{ℕ, zero, suc, ◌+◌, ◌-◌, ◌*◌, ◌^◌, ◌≤◌, ◌<◌, zero-le}
use native.Mathlib.Nat.{mul_comm, mul_assoc, mul_right_comm, mul-sub, add-mul, mul-le-mul_right, mul-pos, add_comm, le_trans, le_of_eq, le_of_lt, lt_of_lt_of_le, lt_of_le_of_lt, mul-lt-mul_of_pos_right, le_of_mul-le-mul_right, lt_of_mul-lt-mul_right, eq_of_mul-eq-mul_right, eq-or-lt_of_le, zero-mul, le-add_right, sub-le, zero-lt-suc}
use native.Mathlib.Omega.{arith}
use lib.Dec.{T, ltb, ltb→lt, nltb→le, le→leb, lt→ltb, lit≤}
use lib.Ieee.{Float, nan, inf, fin, binary64, up, down, odd, units, round, sum, add, neg, sub, le, is_nan, fits}
use lib.Ieee.Fits.{down_pos, round_is, round-fits}
use lib.Ieee.Order.{kept, drop}
use lib.Ieee.Scale.{round_same}
use lib.IntN.{ℤ, pos}
use lib.Pow.{pow_pos}
use Rattle.ieee754.specs.MinMax.{absolute_of, positive_zero}
use Rattle.ieee754.specs.Root.{units_of}
use Rattle.ieee754.proofs.FloatRanks.{signed_rank, rank_of, le_by_rank}
use Rattle.ieee754.proofs.FloatUnits.{units_exact, units_below_top}
use Rattle.ieee754.proofs.RootBounds.{top}
use Rattle.ieee754.proofs.SignClear.{absolute_nan, sign_clear, sign_clear_number, zero_below_clear}
use Rattle.ieee754.proofs.SquaredRoot.{D}
use lib.Arith.{le→nltb}
use lib.Ieee.Bits.{is_true, is_false}

absolute_odd : (d : ℕ) (s : Bool) (q k l : ℕ) → absolute_of (odd d s q k l) ≡ odd d false q k l
unfolding odd
absolute_odd d s zero k l = refl
absolute_odd d s (suc q) k l = refl

absolute_units : (s : Bool) (q k : ℕ) → absolute_of (units binary64 s q k) ≡ units binary64 false q k
unfolding units
absolute_units s q k = go (ltb (q * 2 ^ k) (2 ^ 2098))
  where
    go : (b : Bool) → absolute_of (cond b (odd 54 s q k 1074) (inf s)) ≡ cond b (odd 54 false q k 1074) (inf false)
    go true = absolute_odd 54 s q k 1074
    go false = refl

pub absolute_round : (s : Bool) (a c : ℕ) → absolute_of (round binary64 s a c) ≡ round binary64 false a c
absolute_round s a c = ap absolute_of (round_is binary64 s a c) ∙ absolute_units s (kept 53 (a * D) c) (drop 53 (a * D) c) ∙ sym (round_is binary64 false a c)

-- ---- the distance of two whole numbers
abbrev pub distance : ℕ → ℕ → ℕ
distance a b = (a - b) + (b - a)

-- the exact absolute value of s A - t B
abbrev pub signed_distance : Bool → Bool → ℕ → ℕ → ℕ
signed_distance false false A B = distance A B
signed_distance true true A B = distance A B
signed_distance false true A B = A + B
signed_distance true false A B = A + B

-- the sign that `sub` gives to s A - t B
abbrev pub sign : Bool → Bool → ℕ → ℕ → Bool
sign false false A B = ltb A B
sign true true A B = cond (ltb A B) false (ltb B A)
sign false true A B = false
sign true false A B = true

signed_apart : (s t : Bool) (A B C : ℕ) → cond (ltb A B) (round binary64 t (B - A) C) (round binary64 (s && ltb B A) (A - B) C) ≡ round binary64 (cond (ltb A B) t (s && ltb B A)) (distance A B) C
signed_apart s t A B C = go (ltb A B) (ltb→lt A B) (nltb→le A B)
  where
    less : (A B : ℕ) → A < B → B - A ≡ distance A B
    less A B h = omega arith

    more : (A B : ℕ) → B ≤ A → A - B ≡ distance A B
    more A B h = omega arith

    go : (b : Bool) → (T b → A < B) → (T (not b) → B ≤ A) → cond b (round binary64 t (B - A) C) (round binary64 (s && ltb B A) (A - B) C) ≡ round binary64 (cond b t (s && ltb B A)) (distance A B) C
    go true h k = ap (λ (z : ℕ). round binary64 t z C) (less A B (h tt))
    go false h k = ap (λ (z : ℕ). round binary64 (s && ltb B A) z C) (more A B (k tt))

cond_self : (b : Bool) → cond b true false ≡ b
cond_self true = refl
cond_self false = refl

signed : (s t : Bool) (A B C : ℕ) → sum binary64 s A (not t) B C ≡ round binary64 (sign s t A B) (signed_distance s t A B) C
unfolding sum
signed false false A B C = signed_apart false true A B C ∙ ap (λ (b : Bool). round binary64 b (distance A B) C) (cond_self (ltb A B))
signed true true A B C = signed_apart true false A B C
signed false true A B C = refl
signed true false A B C = refl

pub signed_distance_scale : (s t : Bool) (A B w v C u : ℕ) → A * u ≡ w * C → B * u ≡ v * C → signed_distance s t A B * u ≡ signed_distance s t w v * C
signed_distance_scale s t A B w v C u e f = go s t
  where
    minus : (A B w v : ℕ) → A * u ≡ w * C → B * u ≡ v * C → (A - B) * u ≡ (w - v) * C
    minus A B w v e f = mul_comm (A - B) u ∙ mul-sub u A B ∙ ap (λ (z : ℕ). z - u * B) (mul_comm u A ∙ e) ∙ ap (λ (z : ℕ). w * C - z) (mul_comm u B ∙ f) ∙ ap (λ (z : ℕ). z - v * C) (mul_comm w C) ∙ ap (λ (z : ℕ). C * w - z) (mul_comm v C) ∙ sym (mul-sub C w v) ∙ mul_comm C (w - v)

    plus : (A B w v : ℕ) → A * u ≡ w * C → B * u ≡ v * C → (A + B) * u ≡ (w + v) * C
    plus A B w v e f = add-mul A B u ∙ ap (λ (z : ℕ). z + B * u) e ∙ ap (λ (z : ℕ). w * C + z) f ∙ sym (add-mul w v C)

    go : (s t : Bool) → signed_distance s t A B * u ≡ signed_distance s t w v * C
    go false false = plus (A - B) (B - A) (w - v) (v - w) (minus A B w v e f) (minus B A v w f e)
    go true true = plus (A - B) (B - A) (w - v) (v - w) (minus A B w v e f) (minus B A v w f e)
    go false true = plus A B w v e f
    go true false = plus A B w v e f

pub signed_distance_rank : (M : ℕ) (s t : Bool) (w v : ℕ) → w < M → v < M → signed_distance s t w v ≡ distance (signed_rank M s w) (signed_rank M t v)
signed_distance_rank M false false w v h k = omega arith
signed_distance_rank M true true w v h k = omega arith
signed_distance_rank M false true w v h k = omega arith
signed_distance_rank M true false w v h k = omega arith

-- ---- x - y rounds with a clear sign where y is below x

-- A and B are w and v at another scale
module _ (A B w v C u : ℕ) (C> : 0 < C) (u> : 0 < u) (e : A * u ≡ w * C) (f : B * u ≡ v * C) where
  up_le : w ≤ v → A ≤ B
  up_le h = le_of_mul-le-mul_right (le_trans (le_of_eq e) (le_trans (mul-le-mul_right C h) (le_of_eq (sym f)))) u>

  up_lt : w < v → A < B
  up_lt h = lt_of_mul-lt-mul_right u (lt_of_le_of_lt (le_of_eq e) (lt_of_lt_of_le (mul-lt-mul_of_pos_right h C>) (le_of_eq (sym f))))

  naught : w ≡ 0 → A ≡ 0
  naught h = eq_of_mul-eq-mul_right u u> A 0 (e ∙ ap (λ (z : ℕ). z * C) h ∙ zero-mul C ∙ sym (zero-mul u))

equal_or : (A B : ℕ) → A ≤ B → T (ltb A B) ⊎ (distance A B ≡ 0)
equal_or A B h = elim (eq-or-lt_of_le h) [ inl p ↦ inr (zero_gap A B p) | inr l ↦ inl (lt→ltb A B l) ]
  where
    zero_gap : (A B : ℕ) → A ≡ B → distance A B ≡ 0
    zero_gap A B h = omega arith

not_both : (A B : ℕ) → B ≤ A → ltb A B ≡ false
not_both A B h = is_false (ltb A B) (le→nltb A B h)

-- where the first rank is at most the second, the sign is set, or the difference is zero
down_sign : (M : ℕ) (s t : Bool) (A B w v C u : ℕ) → 0 < C → 0 < u → A * u ≡ w * C → B * u ≡ v * C → w < M → v < M → signed_rank M s w ≤ signed_rank M t v → T (sign s t A B) ⊎ (signed_distance s t A B ≡ 0)
down_sign M false false A B w v C u C> u> e f h k l = equal_or A B (up_le A B w v C u C> u> e f (omega arith))
down_sign M true false A B w v C u C> u> e f h k l = inl tt
down_sign M false true A B w v C u C> u> e f h k l = inr (both (naught A B w v C u C> u> e f (omega arith)) (naught B A v w C u C> u> f e (omega arith)))
  where
    both : A ≡ 0 → B ≡ 0 → A + B ≡ 0
    both p q = omega arith
down_sign M true true A B w v C u C> u> e f h k l =
    let g = up_le B A v w C u C> u> f e (omega arith) in
    elim (equal_or B A g) [
      | inl t ↦ inl (subst (λ (b : Bool). T (cond b false (ltb B A))) (sym (not_both A B g)) t)
      | inr z ↦ inr (turn z)
    ]
  where
    turn : distance B A ≡ 0 → distance A B ≡ 0
    turn z = omega arith

-- where it is above, the sign is clear
up_sign : (M : ℕ) (s t : Bool) (A B w v C u : ℕ) → 0 < C → 0 < u → A * u ≡ w * C → B * u ≡ v * C → w < M → v < M → signed_rank M t v < signed_rank M s w → sign s t A B ≡ false
up_sign M false false A B w v C u C> u> e f h k l = not_both A B (le_of_lt (up_lt B A v w C u C> u> f e (omega arith)))
up_sign M false true A B w v C u C> u> e f h k l = refl
up_sign M true false A B w v C u C> u> e f h k l = absurd (no M w v l)
  where
    no : (M w v : ℕ) → M + v < M - w → ⊥
    no M w v l = omega arith
up_sign M true true A B w v C u C> u> e f h k l = ap (λ (b : Bool). cond b false (ltb B A)) (is_true (ltb A B) (lt→ltb A B (up_lt A B w v C u C> u> e f (omega arith))))

-- ---- at or below zero

sign_clear_rank : (y : Float) → T (sign_clear y) → T (fits binary64 y) → top ≤ rank_of y
sign_clear_rank (inf false) c f = lit≤ tt
sign_clear_rank (fin false m e) c f = le-add_right top (units_of (fin false m e))
sign_clear_rank nan c f = elim c [ ]
sign_clear_rank (inf true) c f = elim c [ ]
sign_clear_rank (fin true m e) c f = elim c [ ]

abbrev pub sign_set : Float → Bool
sign_set nan = false
sign_set (inf s) = s
sign_set (fin s m e) = s

odd_sign_set : (d q k l : ℕ) → T (sign_set (odd d true q k l))
unfolding odd
odd_sign_set d zero k l = tt
odd_sign_set d (suc q) k l = tt

round_sign_set : (a c : ℕ) → T (sign_set (round binary64 true a c))
unfolding units
round_sign_set a c = subst (λ (z : Float). T (sign_set z)) (sym (round_is binary64 true a c)) (go (ltb (kept 53 (a * D) c * 2 ^ drop 53 (a * D) c) (2 ^ 2098)))
  where
    go : (b : Bool) → T (sign_set (cond b (odd 54 true (kept 53 (a * D) c) (drop 53 (a * D) c) 1074) (inf true)))
    go true = odd_sign_set 54 (kept 53 (a * D) c) (drop 53 (a * D) c) 1074
    go false = tt

pub sign_set_below : (x y : Float) → T (sign_set x) → T (sign_clear y) → T (fits binary64 x) → T (fits binary64 y) → T (le x y)
sign_set_below x y p c f g = subst T (sym (le_by_rank x y (number x p) (sign_clear_number y c) f g)) (le→leb (rank_of x) (rank_of y) (le_trans (low x p) (sign_clear_rank y c g)))
  where
    number : (x : Float) → T (sign_set x) → T (not (is_nan x))
    number nan p = absurd p
    number (inf s) p = unfold is_nan in tt
    number (fin s m e) p = unfold is_nan in tt

    low : (x : Float) → T (sign_set x) → rank_of x ≤ top
    low nan p = absurd p
    low (inf true) p = zero-le
    low (fin true m e) p = sub-le top (units_of (fin true m e))
    low (inf false) p = elim p [ ]
    low (fin false m e) p = elim p [ ]

zero_round : (c : ℕ) → 0 < c → round binary64 false 0 c ≡ positive_zero
zero_round c h = round_same binary64 false 0 c 0 1 h (zero-lt-suc 0) (zero-mul 1 ∙ sym (zero-mul c)) ∙ unit
  where
    unit : round binary64 false 0 1 ≡ positive_zero
    unit = unfold round in refl

pub zero_under : (s : Bool) (c : ℕ) (y : Float) → 0 < c → T (sign_clear y) → T (fits binary64 y) → T (le (round binary64 s 0 c) y)
zero_under true c y h k g = sign_set_below (round binary64 true 0 c) y (round_sign_set 0 c) k (round-fits binary64 true 0 c) g
zero_under false c y h k g = subst (λ (z : Float). T (le z y)) (sym (zero_round c h)) (zero_below_clear (pos 0) y k (unfold fits in tt) g)

-- ---- a difference of finite numbers, by their ranks

module _ (s : Bool) (m : ℕ) (e : ℤ) (t : Bool) (n : ℕ) (d : ℤ) (f : T (fits binary64 (fin s m e))) (g : T (fits binary64 (fin t n d))) where
  abbrev A : ℕ
  A = m * up e * down d

  abbrev B : ℕ
  B = n * up d * down e

  abbrev C : ℕ
  C = down e * down d

  abbrev w : ℕ
  w = units_of (fin s m e)

  abbrev v : ℕ
  v = units_of (fin t n d)

  ex : A * D ≡ w * C
  ex = mul_right_comm (m * up e) (down d) D ∙ ap (λ (z : ℕ). z * down d) (units_exact s m e f) ∙ mul_assoc w (down e) (down d)

  ey : B * D ≡ v * C
  ey = mul_right_comm (n * up d) (down e) D ∙ ap (λ (z : ℕ). z * down e) (units_exact t n d g) ∙ mul_assoc v (down d) (down e) ∙ ap (λ (z : ℕ). v * z) (mul_comm (down d) (down e))

  C> : 0 < C
  C> = mul-pos (down_pos e) (down_pos d)

  form : sub binary64 (fin s m e) (fin t n d) ≡ round binary64 (sign s t A B) (signed_distance s t A B) C
  unfolding sub add neg
  form = signed s t A B C

  -- the exact difference, rounded, is the distance of the ranks, rounded
  pub rounded_by_rank : (b : Bool) → round binary64 b (signed_distance s t A B) C ≡ round binary64 b (distance (rank_of (fin s m e)) (rank_of (fin t n d))) D
  rounded_by_rank b =
      round_same binary64 b (signed_distance s t A B) C (signed_distance s t w v) D C> (pow_pos 1074) (signed_distance_scale s t A B w v C D ex ey)
      ∙ ap (λ (z : ℕ). round binary64 b z D) (signed_distance_rank top s t w v (units_below_top s m e f) (units_below_top t n d g))

  pub absolute_difference : absolute_of (sub binary64 (fin s m e) (fin t n d)) ≡ round binary64 false (distance (rank_of (fin s m e)) (rank_of (fin t n d))) D
  absolute_difference = ap absolute_of form ∙ absolute_round (sign s t A B) (signed_distance s t A B) C ∙ rounded_by_rank false

  pub same_or_less : rank_of (fin s m e) ≤ rank_of (fin t n d) → (y : Float) → T (sign_clear y) → T (fits binary64 y) → T (le (sub binary64 (fin s m e) (fin t n d)) y)
  same_or_less h y c k =
      subst (λ (z : Float). T (le z y)) (sym form)
      (elim (down_sign top s t A B w v C D C> (pow_pos 1074) ex ey (units_below_top s m e f) (units_below_top t n d g) h) [
        | inl p ↦ subst (λ (b : Bool). T (le (round binary64 b (signed_distance s t A B) C) y)) (sym (is_true (sign s t A B) p)) (sign_set_below (round binary64 true (signed_distance s t A B) C) y (round_sign_set (signed_distance s t A B) C) c (round-fits binary64 true (signed_distance s t A B) C) k)
        | inr z ↦ subst (λ (a : ℕ). T (le (round binary64 (sign s t A B) a C) y)) (sym z) (zero_under (sign s t A B) C y C> c k)
      ])

  pub more : rank_of (fin t n d) < rank_of (fin s m e) → sub binary64 (fin s m e) (fin t n d) ≡ round binary64 false (distance (rank_of (fin s m e)) (rank_of (fin t n d))) D
  more h =
      form
      ∙ ap (λ (b : Bool). round binary64 b (signed_distance s t A B) C) (up_sign top s t A B w v C D C> (pow_pos 1074) ex ey (units_below_top s m e f) (units_below_top t n d g) h)
      ∙ rounded_by_rank false

-- |x - y| = |y - x|, as computed
pub difference_either_way : (x y : Float) → T (fits binary64 x) → T (fits binary64 y) → absolute_of (sub binary64 x y) ≡ absolute_of (sub binary64 y x)
difference_either_way nan nan f g = unfold sub add neg in refl
difference_either_way nan (inf t) f g = unfold sub add neg in refl
difference_either_way nan (fin t n d) f g = unfold sub add neg in refl
difference_either_way (inf s) nan f g = unfold sub add neg in refl
difference_either_way (inf true) (inf true) f g = unfold sub add neg in refl
difference_either_way (inf true) (inf false) f g = unfold sub add neg in refl
difference_either_way (inf false) (inf true) f g = unfold sub add neg in refl
difference_either_way (inf false) (inf false) f g = unfold sub add neg in refl
difference_either_way (inf s) (fin t n d) f g = unfold sub add neg in refl
difference_either_way (fin s m e) nan f g = unfold sub add neg in refl
difference_either_way (fin s m e) (inf t) f g = unfold sub add neg in refl
difference_either_way (fin s m e) (fin t n d) f g = absolute_difference s m e t n d f g ∙ ap (λ (z : ℕ). round binary64 false z D) (add_comm (rank_of (fin s m e) - rank_of (fin t n d)) (rank_of (fin t n d) - rank_of (fin s m e))) ∙ sym (absolute_difference t n d s m e g f)

-- one is NaN exactly if the other is
pub difference_nan_either_way : (x y : Float) → T (fits binary64 x) → T (fits binary64 y) → is_nan (sub binary64 x y) ≡ is_nan (sub binary64 y x)
difference_nan_either_way x y f g = sym (absolute_nan (sub binary64 x y)) ∙ ap is_nan (difference_either_way x y f g) ∙ absolute_nan (sub binary64 y x)

-- a difference that is a number has numbers for its terms
pub difference_number : (x y : Float) → T (not (is_nan (sub binary64 x y))) → T (not (is_nan x)) × T (not (is_nan y))
unfolding sub add neg is_nan
difference_number nan y n = absurd n
difference_number (inf s) nan n = absurd n
difference_number (inf s) (inf t) n = (tt, tt)
difference_number (inf s) (fin t m e) n = (tt, tt)
difference_number (fin s m e) nan n = absurd n
difference_number (fin s m e) (inf t) n = (tt, tt)
difference_number (fin s m e) (fin t k d) n = (tt, tt)

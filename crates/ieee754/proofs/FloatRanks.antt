-- Every float but NaN has a rank among the natural numbers, and the comparisons of floats are those of their ranks. Assumes nothing.
use mathlib.Core.Bool.{Bool, true, false, not, ◌&&◌, ◌||◌, beq, cond}
use mathlib.Core.Logic.{inl, inr}
use mathlib.Core.Path.{◌≡◌, refl, sym, ap, ◌∙◌}
use Prim.Native.Nat.{ℕ, ◌+◌, ◌-◌, ◌*◌, ◌≤◌, ◌<◌, zero-le}
use native.Mathlib.Nat.{le_of_eq, le_of_lt, lt_of_lt_of_le, lt_of_le_of_lt, lt_of_not-le, not-le_of_lt, zero-mul, mul_comm, mul_assoc, mul_right_comm, add-mul, mul-lt-mul_of_pos_right, mul-pos, lt_of_mul-lt-mul_right, eq_of_mul-eq-mul_right}
use native.Mathlib.Omega.{arith}
use lib.Dec.{T, leb, ltb, eqb, leb→le, le→leb, ltb→lt, lt→ltb, eqb→eq}
use lib.Ieee.{Float, nan, inf, fin, binary64, up, down, below, level, lt, eq, le, is_nan, fits}
use lib.Ieee.Fits.{down_pos, eq→eqb, and_i, and_l, and_r}
use lib.IntN.{ℤ}
use lib.Pow.{pow_pos}
use Rattle.ieee754.specs.Root.{units_of}
use Rattle.ieee754.proofs.FloatUnits.{units_exact, units_below_top}
use Rattle.ieee754.proofs.RootBounds.{top}
use Rattle.ieee754.proofs.SquaredRoot.{D}
use Rattle.ieee754.proofs.SignClear.{or_split}

pub equal_tests : (p q : Bool) → (T p → T q) → (T q → T p) → p ≡ q
equal_tests true true f g = refl
equal_tests true false f g = absurd (f tt)
equal_tests false true f g = absurd (g tt)
equal_tests false false f g = refl

-- ---- comparisons of multiples
lt_scale : (a b w v K u : ℕ) → 0 < u → 0 < K → a * u ≡ w * K → b * u ≡ v * K → ltb a b ≡ ltb w v
lt_scale a b w v K u U C e f =
    equal_tests (ltb a b) (ltb w v)
    (λ t. lt→ltb w v (lt_of_mul-lt-mul_right K (lt_of_le_of_lt (le_of_eq (sym e)) (lt_of_lt_of_le (mul-lt-mul_of_pos_right (ltb→lt a b t) U) (le_of_eq f)))))
    (λ t. lt→ltb a b (lt_of_mul-lt-mul_right u (lt_of_le_of_lt (le_of_eq e) (lt_of_lt_of_le (mul-lt-mul_of_pos_right (ltb→lt w v t) C) (le_of_eq (sym f))))))

eq_scale : (a b w v K u : ℕ) → 0 < u → 0 < K → a * u ≡ w * K → b * u ≡ v * K → eqb a b ≡ eqb w v
eq_scale a b w v K u U C e f =
    equal_tests (eqb a b) (eqb w v)
    (λ t. eq→eqb (eq_of_mul-eq-mul_right K C w v (sym e ∙ ap (λ (z : ℕ). z * u) (eqb→eq a b t) ∙ f)))
    (λ t. eq→eqb (eq_of_mul-eq-mul_right u U a b (e ∙ ap (λ (z : ℕ). z * K) (eqb→eq w v t) ∙ sym f)))

nil : (u K : ℕ) → 0 * u ≡ 0 * K
nil u K = zero-mul u ∙ sym (zero-mul K)

below_scale : (s t : Bool) (a b w v K u : ℕ) → 0 < u → 0 < K → a * u ≡ w * K → b * u ≡ v * K → below s a t b ≡ below s w t v
below_scale false false a b w v K u U C e f = lt_scale a b w v K u U C e f
below_scale false true a b w v K u U C e f = refl
below_scale true false a b w v K u U C e f = lt_scale 0 (a + b) 0 (w + v) K u U C (nil u K) (add-mul a b u ∙ ap (λ (z : ℕ). z + b * u) e ∙ ap (λ (z : ℕ). w * K + z) f ∙ sym (add-mul w v K))
below_scale true true a b w v K u U C e f = lt_scale b a v w K u U C f e

level_scale : (s t : Bool) (a b w v K u : ℕ) → 0 < u → 0 < K → a * u ≡ w * K → b * u ≡ v * K → level s a t b ≡ level s w t v
level_scale s t a b w v K u U C e f =
    ap (λ (x : Bool). x && (beq s t || eqb a 0)) (eq_scale a b w v K u U C e f) ∙ ap (λ (x : Bool). eqb w v && (beq s t || x)) (eq_scale a 0 w 0 K u U C e (nil u K))

-- ---- ranks of w units with a sign, M being the rank of zero
abbrev pub signed_rank : ℕ → Bool → ℕ → ℕ
signed_rank M s w = cond s (M - w) (M + w)

below_place : (M : ℕ) (s t : Bool) (w v : ℕ) → w < M → v < M → below s w t v ≡ ltb (signed_rank M s w) (signed_rank M t v)
below_place M false false w v h k = equal_tests (ltb w v) (ltb (M + w) (M + v)) (λ t. lt→ltb (M + w) (M + v) (omega (arith, ltb→lt w v t))) (λ t. lt→ltb w v (omega (arith, ltb→lt (M + w) (M + v) t)))
below_place M false true w v h k = equal_tests false (ltb (M + w) (M - v)) (λ t. absurd t) (λ t. no M w v k (ltb→lt (M + w) (M - v) t))
  where
    no : (M w v : ℕ) → v < M → M + w < M - v → ⊥
    no M w v k h = omega arith
below_place M true false w v h k = equal_tests (ltb 0 (w + v)) (ltb (M - w) (M + v)) (λ t. lt→ltb (M - w) (M + v) (omega (arith, ltb→lt 0 (w + v) t))) (λ t. lt→ltb 0 (w + v) (omega (arith, ltb→lt (M - w) (M + v) t)))
below_place M true true w v h k = equal_tests (ltb v w) (ltb (M - w) (M - v)) (λ t. lt→ltb (M - w) (M - v) (omega (arith, ltb→lt v w t))) (λ t. lt→ltb v w (omega (arith, ltb→lt (M - w) (M - v) t)))

-- `level`, as an equation of ranks
level_place : (M : ℕ) (s t : Bool) (w v : ℕ) → w < M → v < M → level s w t v ≡ eqb (signed_rank M s w) (signed_rank M t v)
level_place M s t w v h k = equal_tests (level s w t v) (eqb (signed_rank M s w) (signed_rank M t v)) (λ x. eq→eqb (to s t x)) (λ x. from s t (eqb→eq (signed_rank M s w) (signed_rank M t v) x))
  where
    to : (s t : Bool) → T (level s w t v) → signed_rank M s w ≡ signed_rank M t v
    to false false x = ap (λ (z : ℕ). M + z) (eqb→eq w v (and_l (eqb w v) true x))
    to true true x = ap (λ (z : ℕ). M - z) (eqb→eq w v (and_l (eqb w v) true x))
    to false true x = omega (arith, eqb→eq w v (and_l (eqb w v) (eqb w 0) x), eqb→eq w 0 (and_r (eqb w v) (eqb w 0) x))
    to true false x = omega (arith, eqb→eq w v (and_l (eqb w v) (eqb w 0) x), eqb→eq w 0 (and_r (eqb w v) (eqb w 0) x))

    from : (s t : Bool) → signed_rank M s w ≡ signed_rank M t v → T (level s w t v)
    from false false e = and_i (eqb w v) true (eq→eqb {a = w} {b = v} (omega arith)) tt
    from true true e = and_i (eqb w v) true (eq→eqb {a = w} {b = v} (omega arith)) tt
    from false true e = and_i (eqb w v) (eqb w 0) (eq→eqb {a = w} {b = v} (omega arith)) (eq→eqb {a = w} {b = 0} (omega arith))
    from true false e = and_i (eqb w v) (eqb w 0) (eq→eqb {a = w} {b = v} (omega arith)) (eq→eqb {a = w} {b = 0} (omega arith))

-- ---- the rank of a float, in units of 2 ^ -1074
abbrev pub rank_of : Float → ℕ
rank_of nan = 0
rank_of (inf s) = cond s 0 (top + top)
rank_of (fin s m e) = signed_rank top s (units_of (fin s m e))

inside : (M : ℕ) (s : Bool) (w : ℕ) → w < M → (0 < signed_rank M s w) × (signed_rank M s w < M + M)
inside M true w h = (omega arith, omega arith)
inside M false w h = (omega arith, omega arith)

yes_lt : (a b : ℕ) → a < b → true ≡ ltb a b
yes_lt a b h = equal_tests true (ltb a b) (λ t. lt→ltb a b h) (λ t. tt)

no_lt : (a b : ℕ) → b ≤ a → false ≡ ltb a b
no_lt a b h = equal_tests false (ltb a b) (λ t. absurd t) (λ t. not-le_of_lt (ltb→lt a b t) h)

no_eq : (a b : ℕ) → (a ≡ b → ⊥) → false ≡ eqb a b
no_eq a b h = equal_tests false (eqb a b) (λ t. absurd t) (λ t. h (eqb→eq a b t))

module _ (s : Bool) (m : ℕ) (e : ℤ) (t : Bool) (n : ℕ) (d : ℤ) (f : T (fits binary64 (fin s m e))) (g : T (fits binary64 (fin t n d))) where
  sx : m * up e * down d * D ≡ units_of (fin s m e) * (down e * down d)
  sx = mul_right_comm (m * up e) (down d) D ∙ ap (λ (z : ℕ). z * down d) (units_exact s m e f) ∙ mul_assoc (units_of (fin s m e)) (down e) (down d)

  sy : n * up d * down e * D ≡ units_of (fin t n d) * (down e * down d)
  sy = mul_right_comm (n * up d) (down e) D ∙ ap (λ (z : ℕ). z * down e) (units_exact t n d g) ∙ mul_assoc (units_of (fin t n d)) (down d) (down e) ∙ ap (λ (z : ℕ). units_of (fin t n d) * z) (mul_comm (down d) (down e))

  lt_fin : lt (fin s m e) (fin t n d) ≡ ltb (rank_of (fin s m e)) (rank_of (fin t n d))
  unfolding lt
  lt_fin =
      below_scale s t (m * up e * down d) (n * up d * down e) (units_of (fin s m e)) (units_of (fin t n d)) (down e * down d) D (pow_pos 1074) (mul-pos (down_pos e) (down_pos d)) sx sy
      ∙ below_place top s t (units_of (fin s m e)) (units_of (fin t n d)) (units_below_top s m e f) (units_below_top t n d g)

  eq_fin : eq (fin s m e) (fin t n d) ≡ eqb (rank_of (fin s m e)) (rank_of (fin t n d))
  unfolding eq
  eq_fin =
      level_scale s t (m * up e * down d) (n * up d * down e) (units_of (fin s m e)) (units_of (fin t n d)) (down e * down d) D (pow_pos 1074) (mul-pos (down_pos e) (down_pos d)) sx sy
      ∙ level_place top s t (units_of (fin s m e)) (units_of (fin t n d)) (units_below_top s m e f) (units_below_top t n d g)

pub lt_by_rank : (x y : Float) → T (not (is_nan x)) → T (not (is_nan y)) → T (fits binary64 x) → T (fits binary64 y) → lt x y ≡ ltb (rank_of x) (rank_of y)
unfolding lt is_nan
lt_by_rank (inf true) (inf true) p q f g = refl
lt_by_rank (inf true) (inf false) p q f g = refl
lt_by_rank (inf false) (inf true) p q f g = refl
lt_by_rank (inf false) (inf false) p q f g = refl
lt_by_rank (inf true) (fin t n d) p q f g = yes_lt 0 (rank_of (fin t n d)) (inside top t (units_of (fin t n d)) (units_below_top t n d g)).0
lt_by_rank (inf false) (fin t n d) p q f g = no_lt (top + top) (rank_of (fin t n d)) (le_of_lt (inside top t (units_of (fin t n d)) (units_below_top t n d g)).1)
lt_by_rank (fin s m e) (inf true) p q f g = no_lt (rank_of (fin s m e)) 0 zero-le
lt_by_rank (fin s m e) (inf false) p q f g = yes_lt (rank_of (fin s m e)) (top + top) (inside top s (units_of (fin s m e)) (units_below_top s m e f)).1
lt_by_rank (fin s m e) (fin t n d) p q f g = lt_fin s m e t n d f g
lt_by_rank nan y p q f g = elim p [ ]
lt_by_rank (inf false) nan p q f g = elim q [ ]
lt_by_rank (inf true) nan p q f g = elim q [ ]
lt_by_rank (fin s m e) nan p q f g = elim q [ ]

differ : (a b : ℕ) → a < b → a ≡ b → ⊥
differ a b h e = omega arith

pub eq_by_rank : (x y : Float) → T (not (is_nan x)) → T (not (is_nan y)) → T (fits binary64 x) → T (fits binary64 y) → eq x y ≡ eqb (rank_of x) (rank_of y)
unfolding eq is_nan
eq_by_rank (inf true) (inf true) p q f g = refl
eq_by_rank (inf true) (inf false) p q f g = refl
eq_by_rank (inf false) (inf true) p q f g = refl
eq_by_rank (inf false) (inf false) p q f g = refl
eq_by_rank (inf true) (fin t n d) p q f g = no_eq 0 (rank_of (fin t n d)) (differ 0 (rank_of (fin t n d)) (inside top t (units_of (fin t n d)) (units_below_top t n d g)).0)
eq_by_rank (inf false) (fin t n d) p q f g = no_eq (top + top) (rank_of (fin t n d)) (λ h. differ (rank_of (fin t n d)) (top + top) (inside top t (units_of (fin t n d)) (units_below_top t n d g)).1 (sym h))
eq_by_rank (fin s m e) (inf true) p q f g = no_eq (rank_of (fin s m e)) 0 (λ h. differ 0 (rank_of (fin s m e)) (inside top s (units_of (fin s m e)) (units_below_top s m e f)).0 (sym h))
eq_by_rank (fin s m e) (inf false) p q f g = no_eq (rank_of (fin s m e)) (top + top) (differ (rank_of (fin s m e)) (top + top) (inside top s (units_of (fin s m e)) (units_below_top s m e f)).1)
eq_by_rank (fin s m e) (fin t n d) p q f g = eq_fin s m e t n d f g
eq_by_rank nan y p q f g = elim p [ ]
eq_by_rank (inf false) nan p q f g = elim q [ ]
eq_by_rank (inf true) nan p q f g = elim q [ ]
eq_by_rank (fin s m e) nan p q f g = elim q [ ]

pub le_by_rank : (x y : Float) → T (not (is_nan x)) → T (not (is_nan y)) → T (fits binary64 x) → T (fits binary64 y) → le x y ≡ leb (rank_of x) (rank_of y)
unfolding le
le_by_rank x y p q f g =
    ap (λ (z : Bool). z || eq x y) (lt_by_rank x y p q f g) ∙ ap (λ (z : Bool). ltb (rank_of x) (rank_of y) || z) (eq_by_rank x y p q f g)
    ∙ equal_tests (ltb (rank_of x) (rank_of y) || eqb (rank_of x) (rank_of y)) (leb (rank_of x) (rank_of y)) (λ t. le→leb (rank_of x) (rank_of y) (to (rank_of x) (rank_of y) t)) (λ t. from (rank_of x) (rank_of y) (leb→le (rank_of x) (rank_of y) t))
  where
    to : (a b : ℕ) → T (ltb a b || eqb a b) → a ≤ b
    to a b t = elim (or_split (ltb a b) (eqb a b) t) [ inl u ↦ le_of_lt (ltb→lt a b u) | inr u ↦ le_of_eq (eqb→eq a b u) ]

    from : (a b : ℕ) → a ≤ b → T (ltb a b || eqb a b)
    from a b h = go (ltb a b) (lt→ltb a b)
      where
        eqs : (a b : ℕ) → a ≤ b → (a < b → ⊥) → a ≡ b
        eqs a b h n = omega (arith, lt_of_not-le n)

        go : (t : Bool) → (a < b → T t) → T (t || eqb a b)
        go true l = tt
        go false l = eq→eqb (eqs a b h l)

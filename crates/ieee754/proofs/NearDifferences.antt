-- Differences of the ends of ranges: of near ends at most, and of an end at least, the absolute value of any between. Assumes nothing.
use mathlib.Core.Bool.{Bool, true, false, not}
use mathlib.Core.Logic.{◌⊎◌, inl, inr}
use mathlib.Core.Path.{◌≡◌, refl, sym, subst}
use Prim.Native.Nat.{ℕ, ◌≤◌, ◌<◌}
use native.Mathlib.Decide.{dec_le}
use native.Mathlib.Nat.{lt_of_lt_of_le, lt_of_le_of_lt, lt_of_not-le, mul-le-mul_right}
use native.Mathlib.Omega.{arith}
use lib.Dec.{T, leb→le}
use lib.Ieee.{Float, nan, inf, fin, binary64, round, add, neg, sub, le, is_nan, fits}
use lib.Ieee.Fits.{sub-fits}
use lib.Ieee.Order.{round_mono}
use lib.IntN.{ℤ, pos}
use lib.Pow.{pow_pos}
use Rattle.ieee754.specs.MinMax.{positive_zero, absolute_of}
use Rattle.ieee754.proofs.Differences.{distance, absolute_difference, same_or_less, more, sign_set_below}
use Rattle.ieee754.proofs.FloatOrder.{nan_le, le_nan, le→rank, le_transitive, le_reflexive, le_number_right}
use Rattle.ieee754.proofs.FloatRanks.{rank_of, le_by_rank}
use Rattle.ieee754.proofs.SignClear.{absolute_sign_clear, below_infinity, zero_below_clear}
use Rattle.ieee754.proofs.SquaredRoot.{D}
use Rattle.ieee754.proofs.SumsAndSquares.{absolute_fits}

pub zero_fits : T (fits binary64 positive_zero)
unfolding fits
zero_fits = tt

pub number_inf : (x : Float) → T (not (is_nan x)) → T (le x (inf false))
unfolding is_nan le
number_inf (inf true) n = tt
number_inf (inf false) n = tt
number_inf (fin s m e) n = tt
number_inf nan n = elim n [ ]

-- ---- the order of differences
-- fl(u - v) is at most 0, or at most fl(x - y)
abbrev pub AtMost : Float → Float → Float → Float → Type 0
AtMost u v x y = T (le (sub binary64 u v) positive_zero) ⊎ T (le (sub binary64 u v) (sub binary64 x y))

finite_order : (s : Bool) (m : ℕ) (e : ℤ) (t : Bool) (n : ℕ) (d : ℤ) (s' : Bool) (m' : ℕ) (e' : ℤ) (t' : Bool) (n' : ℕ) (d' : ℤ)
    → T (fits binary64 (fin s m e)) → T (fits binary64 (fin t n d)) → T (fits binary64 (fin s' m' e')) → T (fits binary64 (fin t' n' d'))
    → rank_of (fin s m e) ≤ rank_of (fin s' m' e') → rank_of (fin t' n' d') ≤ rank_of (fin t n d) → AtMost (fin s m e) (fin t n d) (fin s' m' e') (fin t' n' d')
finite_order s m e t n d s' m' e' t' n' d' f g f' g' h k = go (dec_le (rank_of (fin s m e)) (rank_of (fin t n d)))
  where
    wider : (u v x y : ℕ) → u ≤ x → y ≤ v → v < u → distance u v ≤ distance x y
    wider u v x y a b c = omega arith

    go : Dec (rank_of (fin s m e) ≤ rank_of (fin t n d)) → AtMost (fin s m e) (fin t n d) (fin s' m' e') (fin t' n' d')
    go (yes l) = inl (same_or_less s m e t n d f g l positive_zero tt zero_fits)
    go (no l) =
        let a = more s m e t n d f g (lt_of_not-le l) in
        let b = more s' m' e' t' n' d' f' g' (lt_of_le_of_lt k (lt_of_lt_of_le (lt_of_not-le l) h)) in
        inr (subst (λ (z : Float). T (le z (sub binary64 (fin s' m' e') (fin t' n' d')))) (sym a)
        (subst (λ (z : Float). T (le (round binary64 false (distance (rank_of (fin s m e)) (rank_of (fin t n d))) D) z)) (sym b)
        (round_mono binary64 (distance (rank_of (fin s m e)) (rank_of (fin t n d))) D (distance (rank_of (fin s' m' e')) (rank_of (fin t' n' d'))) D (pow_pos 1074) (pow_pos 1074)
        (mul-le-mul_right D (wider (rank_of (fin s m e)) (rank_of (fin t n d)) (rank_of (fin s' m' e')) (rank_of (fin t' n' d')) h k (lt_of_not-le l))))))

-- for u ≤ x and y ≤ v, where fl(u - v) is no NaN
abbrev Ordered : Float → Float → Float → Float → Type 0
Ordered u v x y = T (not (is_nan (sub binary64 u v))) → T (le u x) → T (le y v) → AtMost u v x y

finite_ends : (s : Bool) (m : ℕ) (e : ℤ) (t : Bool) (n : ℕ) (d : ℤ) (x y : Float) → T (fits binary64 (fin s m e)) → T (fits binary64 (fin t n d)) → T (fits binary64 x) → T (fits binary64 y) → Ordered (fin s m e) (fin t n d) x y
unfolding sub add neg is_nan le
finite_ends s m e t n d nan y f g fx fy p h k = absurd h
finite_ends s m e t n d (inf true) y f g fx fy p h k = absurd h
finite_ends s m e t n d (inf false) nan f g fx fy p h k = absurd k
finite_ends s m e t n d (inf false) (inf false) f g fx fy p h k = absurd k
finite_ends s m e t n d (inf false) (inf true) f g fx fy p h k = inr (number_inf (sub binary64 (fin s m e) (fin t n d)) p)
finite_ends s m e t n d (inf false) (fin i j l) f g fx fy p h k = inr (number_inf (sub binary64 (fin s m e) (fin t n d)) p)
finite_ends s m e t n d (fin a b c) nan f g fx fy p h k = absurd k
finite_ends s m e t n d (fin a b c) (inf false) f g fx fy p h k = absurd k
finite_ends s m e t n d (fin a b c) (inf true) f g fx fy p h k = inr (number_inf (sub binary64 (fin s m e) (fin t n d)) p)
finite_ends s m e t n d (fin a b c) (fin i j l) f g fx fy p h k = finite_order s m e t n d a b c i j l f g fx fy (le→rank (fin s m e) (fin a b c) f fx h) (le→rank (fin i j l) (fin t n d) fy g k)

-- v = -infinity is above no y but itself
above_all : (s : Bool) (m : ℕ) (e : ℤ) (x y : Float) → Ordered (fin s m e) (inf true) x y
unfolding sub add neg le
above_all s m e nan y p h k = absurd h
above_all s m e (inf true) y p h k = absurd h
above_all s m e (inf false) nan p h k = absurd k
above_all s m e (inf false) (inf false) p h k = absurd k
above_all s m e (inf false) (inf true) p h k = inr tt
above_all s m e (inf false) (fin i j l) p h k = absurd k
above_all s m e (fin a b c) nan p h k = absurd k
above_all s m e (fin a b c) (inf false) p h k = absurd k
above_all s m e (fin a b c) (inf true) p h k = inr tt
above_all s m e (fin a b c) (fin i j l) p h k = absurd k

-- u = +infinity is below no x but itself
infinite_left : (v x y : Float) → Ordered (inf false) v x y
unfolding sub add neg is_nan le
infinite_left v nan y p h k = absurd h
infinite_left v (inf true) y p h k = absurd h
infinite_left v (fin a b c) y p h k = absurd h
infinite_left v (inf false) nan p h k = absurd k
infinite_left v (inf false) (inf true) p h k = inr (number_inf (sub binary64 (inf false) v) p)
infinite_left v (inf false) (fin i j l) p h k = inr (number_inf (sub binary64 (inf false) v) p)
infinite_left nan (inf false) (inf false) p h k = absurd p
infinite_left (inf true) (inf false) (inf false) p h k = absurd k
infinite_left (inf false) (inf false) (inf false) p h k = absurd p
infinite_left (fin t n d) (inf false) (inf false) p h k = absurd k

pub difference_keeps_order : (u v x y : Float) → T (fits binary64 u) → T (fits binary64 v) → T (fits binary64 x) → T (fits binary64 y) → Ordered u v x y
unfolding sub add neg is_nan le
difference_keeps_order nan v x y fu fv fx fy p h k = absurd p
difference_keeps_order (inf true) nan x y fu fv fx fy p h k = absurd p
difference_keeps_order (inf true) (inf true) x y fu fv fx fy p h k = absurd p
difference_keeps_order (inf true) (inf false) x y fu fv fx fy p h k = inl tt
difference_keeps_order (inf true) (fin t n d) x y fu fv fx fy p h k = inl tt
difference_keeps_order (inf false) v x y fu fv fx fy p h k = infinite_left v x y p h k
difference_keeps_order (fin s m e) nan x y fu fv fx fy p h k = absurd p
difference_keeps_order (fin s m e) (inf false) x y fu fv fx fy p h k = inl tt
difference_keeps_order (fin s m e) (inf true) x y fu fv fx fy p h k = above_all s m e x y p h k
difference_keeps_order (fin s m e) (fin t n d) x y fu fv fx fy p h k = finite_ends s m e t n d x y fu fv fx fy p h k

-- what is at most 0 or at most a difference that g bounds, g bounds
pub beyond : (u v x y g : Float) → T (fits binary64 g) → T (le positive_zero g) → (T (not (is_nan (sub binary64 x y))) → T (le (sub binary64 x y) g)) → AtMost u v x y → T (le (sub binary64 u v) g)
beyond u v x y g f z b (inl h) = le_transitive (sub binary64 u v) positive_zero g (sub-fits binary64 u v) zero_fits f h z
beyond u v x y g f z b (inr h) = le_transitive (sub binary64 u v) (sub binary64 x y) g (sub-fits binary64 u v) (sub-fits binary64 x y) f h (b (le_number_right (sub binary64 u v) (sub binary64 x y) h))

-- a number is at most its absolute value
below_absolute : (d : Float) → T (not (is_nan d)) → T (fits binary64 d) → T (le d (absolute_of d))
below_absolute nan n f = absurd (unfold is_nan in n)
below_absolute (inf true) n f = unfold le in tt
below_absolute (inf false) n f = unfold le in tt
below_absolute (fin true m e) n f = sign_set_below (fin true m e) (fin false m e) tt tt f (absolute_fits (fin true m e) f)
below_absolute (fin false m e) n f = le_reflexive (fin false m e) n f

-- fl(u - v) is at most |fl(x - y)| for u ≤ x and y ≤ v
pub near_ends : (u v x y : Float) → T (fits binary64 u) → T (fits binary64 v) → T (fits binary64 x) → T (fits binary64 y)
    → T (not (is_nan (sub binary64 u v))) → T (not (is_nan (sub binary64 x y))) → T (le u x) → T (le y v) → T (le (sub binary64 u v) (absolute_of (sub binary64 x y)))
near_ends u v x y fu fv f g p q h k =
    let d = sub binary64 x y in
    let fd = sub-fits binary64 x y in
    let fa = absolute_fits d fd in
    beyond u v x y (absolute_of d) fa (zero_below_clear (pos 0) (absolute_of d) (absolute_sign_clear d q) zero_fits fa) (λ n. below_absolute d n fd) (difference_keeps_order u v x y fu fv f g p h k)

-- ---- the farther end of lo .. hi
farther_end : (p x lo hi : ℕ) → lo ≤ x → x ≤ hi → (distance p x ≤ distance p lo) ⊎ (distance p x ≤ distance hi p)
farther_end p x lo hi h k = go (dec_le x p)
  where
    go : Dec (x ≤ p) → (distance p x ≤ distance p lo) ⊎ (distance p x ≤ distance hi p)
    go (yes l) = inl (omega arith)
    go (no f) = inr (omega (arith, lt_of_not-le f))

abbrev pub AtMostAnEnd : Float → Float → Float → Float → Type 0
AtMostAnEnd p x lo hi = T (le (absolute_of (sub binary64 p x)) (absolute_of (sub binary64 p lo))) ⊎ T (le (absolute_of (sub binary64 p x)) (absolute_of (sub binary64 hi p)))

-- all four finite
difference_at_most_an_end_finite : (s : Bool) (m : ℕ) (e : ℤ) (s₁ : Bool) (m₁ : ℕ) (e₁ : ℤ) (s₂ : Bool) (m₂ : ℕ) (e₂ : ℤ) (s₃ : Bool) (m₃ : ℕ) (e₃ : ℤ)
    → T (fits binary64 (fin s m e)) → T (fits binary64 (fin s₁ m₁ e₁)) → T (fits binary64 (fin s₂ m₂ e₂)) → T (fits binary64 (fin s₃ m₃ e₃))
    → T (le (fin s₂ m₂ e₂) (fin s₁ m₁ e₁)) → T (le (fin s₁ m₁ e₁) (fin s₃ m₃ e₃)) → AtMostAnEnd (fin s m e) (fin s₁ m₁ e₁) (fin s₂ m₂ e₂) (fin s₃ m₃ e₃)
difference_at_most_an_end_finite s m e s₁ m₁ e₁ s₂ m₂ e₂ s₃ m₃ e₃ f f₁ f₂ f₃ h k =
    let p = fin s m e in
    let x = fin s₁ m₁ e₁ in
    let lo = fin s₂ m₂ e₂ in
    let hi = fin s₃ m₃ e₃ in
    go (farther_end (rank_of p) (rank_of x) (rank_of lo) (rank_of hi) (places s₂ m₂ e₂ s₁ m₁ e₁ f₂ f₁ h) (places s₁ m₁ e₁ s₃ m₃ e₃ f₁ f₃ k))
  where
    places : (s : Bool) (m : ℕ) (e : ℤ) (t : Bool) (n : ℕ) (d : ℤ) → T (fits binary64 (fin s m e)) → T (fits binary64 (fin t n d)) → T (le (fin s m e) (fin t n d)) → rank_of (fin s m e) ≤ rank_of (fin t n d)
    places s m e t n d f g h = leb→le (rank_of (fin s m e)) (rank_of (fin t n d)) (subst T (le_by_rank (fin s m e) (fin t n d) (unfold is_nan in tt) (unfold is_nan in tt) f g) h)

    rounded : (s : Bool) (m : ℕ) (e : ℤ) (t : Bool) (n : ℕ) (d : ℤ) (s' : Bool) (m' : ℕ) (e' : ℤ) (t' : Bool) (n' : ℕ) (d' : ℤ)
        → T (fits binary64 (fin s m e)) → T (fits binary64 (fin t n d)) → T (fits binary64 (fin s' m' e')) → T (fits binary64 (fin t' n' d'))
        → distance (rank_of (fin s m e)) (rank_of (fin t n d)) ≤ distance (rank_of (fin s' m' e')) (rank_of (fin t' n' d')) → T (le (absolute_of (sub binary64 (fin s m e) (fin t n d))) (absolute_of (sub binary64 (fin s' m' e') (fin t' n' d'))))
    rounded s m e t n d s' m' e' t' n' d' f g f' g' l =
        subst (λ (z : Float). T (le z (absolute_of (sub binary64 (fin s' m' e') (fin t' n' d'))))) (sym (absolute_difference s m e t n d f g))
        (subst (λ (z : Float). T (le (round binary64 false (distance (rank_of (fin s m e)) (rank_of (fin t n d))) D) z)) (sym (absolute_difference s' m' e' t' n' d' f' g'))
        (round_mono binary64 (distance (rank_of (fin s m e)) (rank_of (fin t n d))) D (distance (rank_of (fin s' m' e')) (rank_of (fin t' n' d'))) D (pow_pos 1074) (pow_pos 1074) (mul-le-mul_right D l)))

    go : (distance (rank_of (fin s m e)) (rank_of (fin s₁ m₁ e₁)) ≤ distance (rank_of (fin s m e)) (rank_of (fin s₂ m₂ e₂))) ⊎ (distance (rank_of (fin s m e)) (rank_of (fin s₁ m₁ e₁)) ≤ distance (rank_of (fin s₃ m₃ e₃)) (rank_of (fin s m e)))
        → AtMostAnEnd (fin s m e) (fin s₁ m₁ e₁) (fin s₂ m₂ e₂) (fin s₃ m₃ e₃)
    go (inl l) = inl (rounded s m e s₁ m₁ e₁ s m e s₂ m₂ e₂ f f₁ f f₂ l)
    go (inr l) = inr (rounded s m e s₁ m₁ e₁ s₃ m₃ e₃ s m e f f₁ f₃ f l)

-- ---- the infinities

-- an infinite absolute value is at least any other
infinite_low_end : (p x lo hi : Float) → T (not (is_nan (sub binary64 p x))) → absolute_of (sub binary64 p lo) ≡ inf false → AtMostAnEnd p x lo hi
infinite_low_end p x lo hi n e = inl (subst (λ (z : Float). T (le (absolute_of (sub binary64 p x)) z)) (sym e) (below_infinity (absolute_of (sub binary64 p x)) (absolute_sign_clear (sub binary64 p x) n)))

infinite_high_end : (p x lo hi : Float) → T (not (is_nan (sub binary64 p x))) → absolute_of (sub binary64 hi p) ≡ inf false → AtMostAnEnd p x lo hi
infinite_high_end p x lo hi n e = inr (subst (λ (z : Float). T (le (absolute_of (sub binary64 p x)) z)) (sym e) (below_infinity (absolute_of (sub binary64 p x)) (absolute_sign_clear (sub binary64 p x) n)))

abbrev Bounded : Float → Float → Float → Float → Type 0
Bounded p x lo hi = T (not (is_nan (sub binary64 p x))) → T (le lo x) → T (le x hi) → AtMostAnEnd p x lo hi

infinite_point : (x lo hi : Float) → Bounded (inf false) x lo hi
unfolding sub add neg is_nan le
infinite_point x nan hi n h k = absurd (nan_le x h)
infinite_point x (inf true) hi n h k = infinite_low_end (inf false) x (inf true) hi n refl
infinite_point nan (inf false) hi n h k = absurd n
infinite_point (inf true) (inf false) hi n h k = absurd h
infinite_point (inf false) (inf false) hi n h k = absurd n
infinite_point (fin t i j) (inf false) hi n h k = absurd h
infinite_point x (fin s m e) hi n h k = infinite_low_end (inf false) x (fin s m e) hi n refl

minus_infinite_point : (x lo hi : Float) → Bounded (inf true) x lo hi
unfolding sub add neg is_nan le
minus_infinite_point x lo nan n h k = absurd (le_nan x k)
minus_infinite_point x lo (inf false) n h k = infinite_high_end (inf true) x lo (inf false) n refl
minus_infinite_point nan lo (inf true) n h k = absurd n
minus_infinite_point (inf true) lo (inf true) n h k = absurd n
minus_infinite_point (inf false) lo (inf true) n h k = absurd k
minus_infinite_point (fin t i j) lo (inf true) n h k = absurd k
minus_infinite_point x lo (fin s m e) n h k = infinite_high_end (inf true) x lo (fin s m e) n refl

finite_point : (s : Bool) (m : ℕ) (e : ℤ) (x lo hi : Float) → T (fits binary64 (fin s m e)) → T (fits binary64 x) → T (fits binary64 lo) → T (fits binary64 hi) → Bounded (fin s m e) x lo hi
unfolding sub add neg is_nan le
finite_point s m e x nan hi f g g' g'' n h k = absurd (nan_le x h)
finite_point s m e x (inf t) hi f g g' g'' n h k = infinite_low_end (fin s m e) x (inf t) hi n refl
finite_point s m e x (fin t i j) nan f g g' g'' n h k = absurd (le_nan x k)
finite_point s m e x (fin t i j) (inf u) f g g' g'' n h k = infinite_high_end (fin s m e) x (fin t i j) (inf u) n refl
finite_point s m e nan (fin t i j) (fin u a b) f g g' g'' n h k = absurd k
finite_point s m e (inf true) (fin t i j) (fin u a b) f g g' g'' n h k = absurd h
finite_point s m e (inf false) (fin t i j) (fin u a b) f g g' g'' n h k = absurd k
finite_point s m e (fin s₁ m₁ e₁) (fin s₂ m₂ e₂) (fin s₃ m₃ e₃) f g g' g'' n h k = difference_at_most_an_end_finite s m e s₁ m₁ e₁ s₂ m₂ e₂ s₃ m₃ e₃ f g g' g'' h k

-- |fl(p - x)| is at most |fl(p - lo)| or |fl(hi - p)|, where it is no NaN
pub difference_at_most_an_end : (p x lo hi : Float) → T (fits binary64 p) → T (fits binary64 x) → T (fits binary64 lo) → T (fits binary64 hi) → T (not (is_nan (sub binary64 p x)))
    → T (le lo x) → T (le x hi) → AtMostAnEnd p x lo hi
difference_at_most_an_end nan x lo hi f g g' g'' n h k = absurd (unfold sub add is_nan in n)
difference_at_most_an_end (inf false) x lo hi f g g' g'' n h k = infinite_point x lo hi n h k
difference_at_most_an_end (inf true) x lo hi f g g' g'' n h k = minus_infinite_point x lo hi n h k
difference_at_most_an_end (fin s m e) x lo hi f g g' g'' n h k = finite_point s m e x lo hi f g g' g'' n h k

-- The order of floats that are no NaN: reflexive, transitive, total. Assumes nothing.
use mathlib.Core.Bool.{Bool, true, false, not, false≢true}
use mathlib.Core.Path.{ap, refl, sym, ◌∙◌, subst, ◌≡◌}
use Prim.Native.Nat.{ℕ, ◌-◌, ◌+◌, ◌<◌, ◌≤◌}
use native.Mathlib.Nat.{not-le_of_lt}
use native.Mathlib.Omega.{arith}
use lib.Dec.{ltb, T, leb→le, le→leb, ltb→lt, nltb→le}
use lib.Ieee.{fits, Float, nan, inf, fin, binary64, lt, le, is_nan}
use lib.Ieee.Bits.{is_true, is_false}
use lib.IntN.{ℤ}
use Rattle.std.proofs.lemmas.Float.{le_refl, le_of_lt, le_left, le_right, le_trans, lt_trans, T_from_true}
use Rattle.ieee754.specs.Root.{units_of}
use Rattle.ieee754.proofs.FloatRanks.{rank_of, lt_by_rank, le_by_rank}
use Rattle.ieee754.proofs.FloatUnits.{units_of_zero}
use Rattle.ieee754.proofs.RootBounds.{top}

pub is_nan_lem : (x : Float) → is_nan x ≡ true → x ≡ nan
unfolding is_nan
is_nan_lem nan e = refl
is_nan_lem (inf s) e = absurd (subst (λ (b : Bool). T (not b)) e tt)
is_nan_lem (fin s m e') e = absurd (subst (λ (b : Bool). T (not b)) e tt)

pub nan_le : (x : Float) → T (le nan x) → ⊥
unfolding le
nan_le x h = h

pub le_nan : (x : Float) → T (le x nan) → ⊥
unfolding le
le_nan nan h = h
le_nan (inf s) h = h
le_nan (fin s m e) h = h

-- std's laws, for those that know of their floats that they fit
pub le_number_left : (x y : Float) → T (le x y) → T (not (is_nan x))
le_number_left x y h = le_left x y h

pub le_number_right : (x y : Float) → T (le x y) → T (not (is_nan y))
le_number_right x y h = le_right x y h

pub le_number_right_test : (x y : Float) → le x y ≡ true → T (not (is_nan y))
le_number_right_test x y h = le_right x y (T_from_true (le x y) h)

pub le→rank : (x y : Float) → T (fits binary64 x) → T (fits binary64 y) → T (le x y) → rank_of x ≤ rank_of y
le→rank x y f g h = leb→le (rank_of x) (rank_of y) (subst T (le_by_rank x y (le_number_left x y h) (le_number_right x y h) f g) h)

pub le_transitive : (x y z : Float) → T (fits binary64 x) → T (fits binary64 y) → T (fits binary64 z) → T (le x y) → T (le y z) → T (le x z)
le_transitive x y z f g i h k = le_trans x y z h k

-- of two numbers one is at most the other
pub not_lt→le : (x y : Float) → T (not (is_nan x)) → T (not (is_nan y)) → T (fits binary64 x) → T (fits binary64 y) → lt x y ≡ false → T (le y x)
not_lt→le x y p q f g h = subst T (sym (le_by_rank y x q p g f)) (le→leb (rank_of y) (rank_of x) (nltb→le (rank_of x) (rank_of y) (subst (λ (t : Bool). T (not t)) (sym h ∙ lt_by_rank x y p q f g) tt)))

pub lt→le : (x y : Float) → T (not (is_nan x)) → T (not (is_nan y)) → T (fits binary64 x) → T (fits binary64 y) → lt x y ≡ true → T (le x y)
lt→le x y p q f g h = le_of_lt x y (T_from_true (lt x y) h)

pub le→not_lt : (x y : Float) → T (fits binary64 x) → T (fits binary64 y) → T (le y x) → lt x y ≡ false
le→not_lt x y f g h = lt_by_rank x y (le_number_right y x h) (le_number_left y x h) f g ∙ is_false (ltb (rank_of x) (rank_of y)) (go (ltb (rank_of x) (rank_of y)) (ltb→lt (rank_of x) (rank_of y)))
  where
    go : (b : Bool) → (T b → rank_of x < rank_of y) → T (not b)
    go true l = not-le_of_lt (l tt) (le→rank y x g f h)
    go false l = tt

pub lt_nan_right : (x : Float) → lt x nan ≡ false
unfolding lt
lt_nan_right nan = refl
lt_nan_right (inf s) = refl
lt_nan_right (fin s m e) = refl

pub lt_number_right : (a b : Float) → lt a b ≡ true → T (not (is_nan b))
unfolding is_nan
lt_number_right a nan h = absurd (false≢true (sym (lt_nan_right a) ∙ h))
lt_number_right a (inf s) h = tt
lt_number_right a (fin s m e) h = tt

pub lt_nan_left : (x : Float) → lt nan x ≡ false
unfolding lt
lt_nan_left x = refl

pub lt_number_left : (x y : Float) → lt x y ≡ true → T (not (is_nan x))
unfolding is_nan
lt_number_left nan y h = absurd (false≢true (sym (lt_nan_left y) ∙ h))
lt_number_left (inf s) y h = tt
lt_number_left (fin s m e) y h = tt

pub le_reflexive : (x : Float) → T (not (is_nan x)) → T (fits binary64 x) → T (le x x)
le_reflexive x p f = le_refl x p

pub lt_transitive : (x y z : Float) → T (fits binary64 x) → T (fits binary64 y) → T (fits binary64 z) → lt x y ≡ true → lt y z ≡ true → lt x z ≡ true
lt_transitive x y z f g i h k = is_true (lt x z) (lt_trans x y z (T_from_true (lt x y) h) (T_from_true (lt y z) k))

-- the sign of a zero is not seen by a comparison
zero_rank : (e : ℤ) → rank_of (fin true 0 e) ≡ rank_of (fin false 0 e)
zero_rank e = flat top (units_of (fin true 0 e)) (units_of (fin false 0 e)) (units_of_zero true e) (units_of_zero false e)
  where
    flat : (M u v : ℕ) → u ≡ 0 → v ≡ 0 → M - u ≡ M + v
    flat M u v p q = omega arith

pub zero_sign_left : (e : ℤ) (y : Float) → T (fits binary64 (fin true 0 e)) → T (fits binary64 y) → lt (fin true 0 e) y ≡ lt (fin false 0 e) y
zero_sign_left e nan f g = lt_nan_right (fin true 0 e) ∙ sym (lt_nan_right (fin false 0 e))
zero_sign_left e (inf s) f g = lt_by_rank (fin true 0 e) (inf s) (unfold is_nan in tt) (unfold is_nan in tt) f g ∙ ap (λ (z : ℕ). ltb z (rank_of (inf s))) (zero_rank e) ∙ sym (lt_by_rank (fin false 0 e) (inf s) (unfold is_nan in tt) (unfold is_nan in tt) (unfold fits in f) g)
zero_sign_left e (fin s m d) f g = lt_by_rank (fin true 0 e) (fin s m d) (unfold is_nan in tt) (unfold is_nan in tt) f g ∙ ap (λ (z : ℕ). ltb z (rank_of (fin s m d))) (zero_rank e) ∙ sym (lt_by_rank (fin false 0 e) (fin s m d) (unfold is_nan in tt) (unfold is_nan in tt) (unfold fits in f) g)

pub zero_sign_right : (x : Float) (e : ℤ) → T (fits binary64 x) → T (fits binary64 (fin true 0 e)) → lt x (fin true 0 e) ≡ lt x (fin false 0 e)
zero_sign_right nan e f g = lt_nan_left (fin true 0 e) ∙ sym (lt_nan_left (fin false 0 e))
zero_sign_right (inf s) e f g = lt_by_rank (inf s) (fin true 0 e) (unfold is_nan in tt) (unfold is_nan in tt) f g ∙ ap (λ (z : ℕ). ltb (rank_of (inf s)) z) (zero_rank e) ∙ sym (lt_by_rank (inf s) (fin false 0 e) (unfold is_nan in tt) (unfold is_nan in tt) f (unfold fits in g))
zero_sign_right (fin s m d) e f g = lt_by_rank (fin s m d) (fin true 0 e) (unfold is_nan in tt) (unfold is_nan in tt) f g ∙ ap (λ (z : ℕ). ltb (rank_of (fin s m d)) z) (zero_rank e) ∙ sym (lt_by_rank (fin s m d) (fin false 0 e) (unfold is_nan in tt) (unfold is_nan in tt) f (unfold fits in g))

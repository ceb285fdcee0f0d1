-- Numbers with a clear sign: their order is that of their units, and rounding keeps the sign clear. Assumes nothing.
use mathlib.Core.Bool.{Bool, true, false, not, ◌&&◌, ◌||◌, cond}
use mathlib.Core.Logic.{◌⊎◌, inl, inr}
use mathlib.Core.Path.{◌≡◌, refl, sym, ap, ◌∙◌, subst}
use Prim.Native.Nat.{ℕ, zero, suc, ◌*◌, ◌^◌, ◌≤◌, zero-le}
use native.Mathlib.Nat.{le_refl, le_trans, le_of_eq, le_of_lt, not-le_of_lt, mul_comm, mul_assoc, mul_right_comm, mul-le-mul_right, mul-pos, le_of_mul-le-mul_right}
use lib.Dec.{T, ltb, eqb, ltb→lt, eqb→eq}
use lib.Ieee.{Float, nan, inf, fin, binary64, up, down, odd, units, round, le, fits, is_nan}
use lib.Ieee.Fits.{down_pos, and_l, round_is}
use lib.Ieee.Order.{le_of_values, kept, drop}
use lib.IntN.{ℤ}
use lib.Pow.{pow_pos}
use Rattle.ieee754.specs.MinMax.{absolute_of}
use Rattle.ieee754.specs.Root.{units_of}
use Rattle.ieee754.proofs.FloatUnits.{units_of_zero, units_exact, units_below_top}
use Rattle.ieee754.proofs.RootBounds.{top}
use Rattle.ieee754.proofs.SquaredRoot.{D}

-- no NaN, and the sign bit is clear
abbrev pub sign_clear : Float → Bool
sign_clear nan = false
sign_clear (inf s) = not s
sign_clear (fin s m e) = not s

-- ---- the order
-- the units of a number, those of infinity being `top`
abbrev pub units_or_top : Float → ℕ
units_or_top nan = 0
units_or_top (inf s) = top
units_or_top (fin s m e) = units_of (fin s m e)

pub or_split : (a b : Bool) → T (a || b) → T a ⊎ T b
or_split true b t = inl tt
or_split false b t = inr t

lt_or_eq : (a b : ℕ) → T (ltb a b || (eqb a b && true)) → a ≤ b
lt_or_eq a b t = elim (or_split (ltb a b) (eqb a b && true) t) [ inl u ↦ le_of_lt (ltb→lt a b u) | inr u ↦ le_of_eq (eqb→eq a b (and_l (eqb a b) true u)) ]

cross : (m : ℕ) (e : ℤ) (n : ℕ) (d : ℤ) → T (le (fin false m e) (fin false n d)) → m * up e * down d ≤ n * up d * down e
unfolding le
cross m e n d h = lt_or_eq (m * up e * down d) (n * up d * down e) h

-- le is the order of the units
pub le→units : (x y : Float) → T (sign_clear x) → T (sign_clear y) → T (fits binary64 x) → T (fits binary64 y) → T (le x y) → units_or_top x ≤ units_or_top y
le→units x (inf false) c d f g h = go x f
  where
    go : (x : Float) → T (fits binary64 x) → units_or_top x ≤ top
    go nan f = zero-le
    go (inf s) f = le_refl top
    go (fin s m e) f = le_of_lt (units_below_top s m e f)
le→units (inf false) (fin false n d) c k f g h = absurd (unfold le in h)
le→units (fin false m e) (fin false n d) c k f g h =
    le_of_mul-le-mul_right {k = down e * down d} (le_trans (le_of_eq (a (units_of (fin false m e)) (down e) (down d) (m * up e) D (units_exact false m e f)))
    (le_trans (mul-le-mul_right D (cross m e n d h)) (le_of_eq (b (units_of (fin false n d)) (down e) (down d) (n * up d) D (units_exact false n d g))))) (mul-pos (down_pos e) (down_pos d))
  where
    a : (w p q n u : ℕ) → n * u ≡ w * p → w * (p * q) ≡ n * q * u
    a w p q n u e = sym (mul_assoc w p q) ∙ ap (λ (z : ℕ). z * q) (sym e) ∙ mul_right_comm n u q

    b : (w p q n u : ℕ) → n * u ≡ w * q → n * p * u ≡ w * (p * q)
    b w p q n u e = mul_right_comm n p u ∙ ap (λ (z : ℕ). z * p) e ∙ mul_assoc w q p ∙ ap (λ (z : ℕ). w * z) (mul_comm q p)
le→units x nan c d f g h = elim d [ ]
le→units x (inf true) c d f g h = elim d [ ]
le→units nan (fin _ n d) c k f g h = elim c [ ]
le→units (inf false) (fin true n d) c k f g h = elim k [ ]
le→units (inf true) (fin _ n d) c k f g h = elim c [ ]
le→units (fin false m e) (fin true n d) c k f g h = elim k [ ]
le→units (fin true m e) (fin _ n d) c k f g h = elim c [ ]

pub units→le : (x y : Float) → T (sign_clear x) → T (sign_clear y) → T (fits binary64 x) → T (fits binary64 y) → units_or_top x ≤ units_or_top y → T (le x y)
unfolding le
units→le (inf false) (inf false) c d f g h = tt
units→le (fin false m e) (inf false) c d f g h = tt
units→le (inf false) (fin false n d) c k f g h = absurd (not-le_of_lt (units_below_top false n d g) h)
units→le (fin false m e) (fin false n d) c k f g h =
    le_of_values (fin false m e) (fin false n d) (units_of (fin false m e)) D (units_of (fin false n d)) D (pow_pos 1074) (pow_pos 1074) (refl, units_exact false m e f) (refl, units_exact false n d g) (mul-le-mul_right D h)
units→le nan y c d f g h = elim c [ ]
units→le (inf false) nan c d f g h = elim d [ ]
units→le (inf false) (inf true) c d f g h = elim d [ ]
units→le (inf false) (fin true n d) c k f g h = elim k [ ]
units→le (inf true) y c d f g h = elim c [ ]
units→le (fin false m e) nan c d f g h = elim d [ ]
units→le (fin false m e) (inf true) c d f g h = elim d [ ]
units→le (fin false m e) (fin true n d) c k f g h = elim k [ ]
units→le (fin true m e) y c d f g h = elim c [ ]

-- a zero is at most any number with a clear sign
pub zero_below_clear : (e : ℤ) (y : Float) → T (sign_clear y) → T (fits binary64 (fin false 0 e)) → T (fits binary64 y) → T (le (fin false 0 e) y)
zero_below_clear e y c f g = units→le (fin false 0 e) y tt c f g (le_trans (le_of_eq (units_of_zero false e)) zero-le)

-- ---- what is rounded with a clear sign has a clear sign
odd_sign_clear : (d q k l : ℕ) → T (sign_clear (odd d false q k l))
unfolding odd
odd_sign_clear d zero k l = tt
odd_sign_clear d (suc q) k l = tt

units_sign_clear : (q k : ℕ) → T (sign_clear (units binary64 false q k))
unfolding units
units_sign_clear q k = go (ltb (q * 2 ^ k) (2 ^ 2098))
  where
    go : (b : Bool) → T (sign_clear (cond b (odd 54 false q k 1074) (inf false)))
    go true = odd_sign_clear 54 q k 1074
    go false = tt

pub round_sign_clear : (a c : ℕ) → T (sign_clear (round binary64 false a c))
round_sign_clear a c = subst (λ (z : Float). T (sign_clear z)) (sym (round_is binary64 false a c)) (units_sign_clear (kept 53 (a * D) c) (drop 53 (a * D) c))

-- nothing with a clear sign is above the infinity
pub below_infinity : (x : Float) → T (sign_clear x) → T (le x (inf false))
unfolding le
below_infinity (inf false) c = tt
below_infinity (fin false m e) c = tt
below_infinity nan c = elim c [ ]
below_infinity (inf true) c = elim c [ ]
below_infinity (fin true m e) c = elim c [ ]

pub sign_clear_number : (y : Float) → T (sign_clear y) → T (not (is_nan y))
unfolding is_nan
sign_clear_number (inf s) c = tt
sign_clear_number (fin s m e) c = tt
sign_clear_number nan c = elim c [ ]

pub absolute_sign_clear : (x : Float) → T (not (is_nan x)) → T (sign_clear (absolute_of x))
unfolding is_nan
absolute_sign_clear (inf s) p = tt
absolute_sign_clear (fin s m e) p = tt
absolute_sign_clear nan p = elim p [ ]

pub absolute_nan : (x : Float) → is_nan (absolute_of x) ≡ is_nan x
unfolding is_nan
absolute_nan nan = refl
absolute_nan (inf s) = refl
absolute_nan (fin s m e) = refl

pub number_of_absolute : (x : Float) → T (not (is_nan (absolute_of x))) → T (not (is_nan x))
number_of_absolute x n = subst (λ (b : Bool). T (not b)) (absolute_nan x) n

pub absolute_number : (x : Float) → T (not (is_nan x)) → T (not (is_nan (absolute_of x)))
absolute_number x n = subst (λ (b : Bool). T (not b)) (sym (absolute_nan x)) n

-- The root keeps order, and the root of a root's square is that root. Assumes nothing.
use mathlib.Core.Bool.{not, true, false, true≢false, Bool}
use mathlib.Core.Path.{◌≡◌, refl, sym, ◌∙◌, subst, ap}
use Prim.Native.Nat.{ℕ, zero, suc, ◌*◌}
use native.Mathlib.Nat.{le_trans, le_of_eq, zero-lt-suc, not-le_of_lt, zero-mul, mul-one}
use lib.Dec.{T, lt→ltb}
use lib.Ieee.{lt, is_nan, Float, nan, inf, fin, binary64, up, down, round, mul, le, fits}
use lib.Ieee.Back.{whole_unique}
use lib.Ieee.Bits.{of_bits-fits}
use lib.Ieee.Exact.{HasValue}
use lib.Ieee.Fits.{mul-fits}
use lib.Ieee.Positive.{positive}
use lib.IntN.{ℤ}
use Rattle.ieee754.specs.MinMax.{positive_zero}
use Rattle.ieee754.specs.Root.{units_of, root_of}
use Rattle.ieee754.specs.InnerRoot.{units_of_pattern, root_pattern}
use Rattle.ieee754.proofs.FloatOrder.{not_lt→le, le→not_lt, lt_nan_right, lt_nan_left, zero_sign_left, zero_sign_right}
use Rattle.ieee754.proofs.FloatUnits.{units_of_zero}
use Rattle.ieee754.proofs.PositiveRoots.{units_positive, root_value, root_of_square_positive, root_keeps_order_positive}
use Rattle.ieee754.proofs.SignClear.{sign_clear, le→units, below_infinity, sign_clear_number}
pub use Rattle.ieee754.proofs.SignClear.{zero_below_clear}
use Rattle.ieee754.proofs.SquaredRoot.{D}
use Rattle.ieee754.proofs.SumsAndSquares.{square_sign_clear_positive}

value_sign_clear : (x : Float) (a c : ℕ) → HasValue x false a c → T (sign_clear x)
value_sign_clear (fin true m e) a c v = absurd (true≢false v.0)
value_sign_clear (fin false m e) a c v = tt
value_sign_clear nan a c v = elim v [ ]
value_sign_clear (inf _) a c v = elim v [ ]

above : (m : ℕ) (e : ℤ) → T (positive (fin false (suc m) e))
above m e = lt→ltb 0 (suc m) (zero-lt-suc m)

pub zero_is_positive_zero : (e : ℤ) → T (fits binary64 (fin false 0 e)) → fin false 0 e ≡ positive_zero
zero_is_positive_zero e f = whole_unique binary64 (fin false 0 e) positive_zero false 0 f (unfold fits in tt) (refl, mul-one (0 * up e) ∙ zero-mul (up e) ∙ sym (zero-mul (down e))) (refl, refl)

pub root_sign_clear : (x : Float) → T (sign_clear x) → T (fits binary64 x) → T (sign_clear (root_of x))
root_sign_clear (inf false) c f = unfold root_of in tt
root_sign_clear (fin false zero e) c f = unfold root_of in tt
root_sign_clear (fin false (suc m) e) c f = value_sign_clear (root_of (fin false (suc m) e)) (units_of_pattern (root_pattern (units_of (fin false (suc m) e)))) D (root_value (fin false (suc m) e) f (above m e))
root_sign_clear nan c f = elim c [ ]
root_sign_clear (inf true) c f = elim c [ ]
root_sign_clear (fin true _ e) c f = elim c [ ]

zero_square : root_of (mul binary64 (root_of positive_zero) (root_of positive_zero)) ≡ root_of positive_zero
unfolding root_of mul round
zero_square = refl

-- the root of a root's square, as computed, is that root
pub root_of_square : (x : Float) → T (sign_clear x) → T (fits binary64 x) → root_of (mul binary64 (root_of x) (root_of x)) ≡ root_of x
root_of_square (inf false) c f = unfold root_of mul in refl
root_of_square (fin false zero e) c f = subst (λ (z : Float). root_of (mul binary64 (root_of z) (root_of z)) ≡ root_of z) (sym (zero_is_positive_zero e f)) zero_square
root_of_square (fin false (suc m) e) c f = root_of_square_positive (fin false (suc m) e) f (above m e)
root_of_square nan c f = elim c [ ]
root_of_square (inf true) c f = elim c [ ]
root_of_square (fin true _ e) c f = elim c [ ]

pub root_fits : (x : Float) → T (fits binary64 x) → T (fits binary64 (root_of x))
root_fits nan f = unfold root_of in f
root_fits (inf true) f = unfold root_of in unfold fits in tt
root_fits (inf false) f = unfold root_of in f
root_fits (fin s zero e) f = unfold root_of in f
root_fits (fin true (suc m) e) f = unfold root_of in unfold fits in tt
root_fits (fin false (suc m) e) f = unfold root_of in of_bits-fits binary64 (root_pattern (units_of (fin false (suc m) e)))

root_of_infinity : root_of (inf false) ≡ inf false
unfolding root_of
root_of_infinity = refl

root_of_zero : (s : Bool) (e : ℤ) → root_of (fin s zero e) ≡ fin s zero e
unfolding root_of
root_of_zero s e = refl

-- s ≤ t gives root s ≤ root t
pub root_keeps_order : (x y : Float) → T (sign_clear x) → T (sign_clear y) → T (fits binary64 x) → T (fits binary64 y) → T (le x y) → T (le (root_of x) (root_of y))
root_keeps_order x (inf false) c d f g h = subst (λ (z : Float). T (le (root_of x) z)) (sym root_of_infinity) (below_infinity (root_of x) (root_sign_clear x c f))
root_keeps_order (inf false) (fin false n d) c k f g h = absurd (unfold le in h)
root_keeps_order (fin false zero e) (fin false n d) c k f g h = subst (λ (z : Float). T (le z (root_of (fin false n d)))) (sym (root_of_zero false e)) (zero_below_clear e (root_of (fin false n d)) (root_sign_clear (fin false n d) k g) f (root_fits (fin false n d) g))
root_keeps_order (fin false (suc m) e) (fin false zero d) c k f g h = absurd (not-le_of_lt (units_positive (fin false (suc m) e) f (above m e)) (le_trans (le→units (fin false (suc m) e) (fin false zero d) tt tt f g h) (le_of_eq (units_of_zero false d))))
root_keeps_order (fin false (suc m) e) (fin false (suc n) d) c k f g h = root_keeps_order_positive (fin false (suc m) e) (fin false (suc n) d) f g (above m e) (above n d) h
root_keeps_order x nan c d f g h = elim d [ ]
root_keeps_order x (inf true) c d f g h = elim d [ ]
root_keeps_order nan (fin _ n d) c k f g h = elim c [ ]
root_keeps_order (inf false) (fin true n d) c k f g h = elim k [ ]
root_keeps_order (inf true) (fin _ n d) c k f g h = elim c [ ]
root_keeps_order (fin false zero e) (fin true n d) c k f g h = elim k [ ]
root_keeps_order (fin false (suc m) e) (fin true n d) c k f g h = elim k [ ]
root_keeps_order (fin true _ e) (fin _ n d) c k f g h = elim c [ ]

-- ---- the two forms that a sweep uses, for the root r of s: what is at most r², as computed, has a root of at most r, and what is at least r² one of at least r
pub root_at_most : (s t : Float) → T (sign_clear s) → T (sign_clear t) → T (fits binary64 s) → T (fits binary64 t) → T (le t (mul binary64 (root_of s) (root_of s))) → T (le (root_of t) (root_of s))
root_at_most s t c d f g h =
    subst (λ (z : Float). T (le (root_of t) z)) (root_of_square s c f)
    (root_keeps_order t (mul binary64 (root_of s) (root_of s)) d (square_sign_clear_positive (root_of s) (root_sign_clear s c f) (root_fits s f)) g (mul-fits binary64 (root_of s) (root_of s)) h)

pub root_at_least : (s t : Float) → T (sign_clear s) → T (sign_clear t) → T (fits binary64 s) → T (fits binary64 t) → T (le (mul binary64 (root_of s) (root_of s)) t) → T (le (root_of s) (root_of t))
root_at_least s t c d f g h =
    subst (λ (z : Float). T (le z (root_of t))) (root_of_square s c f)
    (root_keeps_order (mul binary64 (root_of s) (root_of s)) t (square_sign_clear_positive (root_of s) (root_sign_clear s c f) (root_fits s f)) d (mul-fits binary64 (root_of s) (root_of s)) g h)

pub root_of_nan : root_of nan ≡ nan
unfolding root_of
root_of_nan = refl

-- a root that is a number is one of a number
pub root_number : (x : Float) → T (not (is_nan (root_of x))) → T (not (is_nan x))
root_number nan n = absurd (unfold is_nan in subst (λ (z : Float). T (not (is_nan z))) root_of_nan n)
root_number (inf s) n = unfold is_nan in tt
root_number (fin s m e) n = unfold is_nan in tt

-- ---- what a sweep that skips roots needs, for any two floats
left_nan : (s t : Float) → root_of s ≡ nan → lt (root_of s) (root_of t) ≡ false
left_nan s t e = ap (λ (z : Float). lt z (root_of t)) e ∙ lt_nan_left (root_of t)

right_nan : (s t : Float) → root_of t ≡ nan → lt (root_of s) (root_of t) ≡ false
right_nan s t e = ap (λ (z : Float). lt (root_of s) z) e ∙ lt_nan_right (root_of s)

both_clear : (s t : Float) → T (sign_clear s) → T (sign_clear t) → T (fits binary64 s) → T (fits binary64 t) → lt s t ≡ false → lt (root_of s) (root_of t) ≡ false
both_clear s t c d f g h = le→not_lt (root_of s) (root_of t) (root_fits s f) (root_fits t g) (root_keeps_order t s d c g f (not_lt→le s t (sign_clear_number s c) (sign_clear_number t d) f g h))

first_clear : (s t : Float) → T (sign_clear s) → T (fits binary64 s) → T (fits binary64 t) → lt s t ≡ false → lt (root_of s) (root_of t) ≡ false
first_clear s nan c f g h = right_nan s nan root_of_nan
first_clear s (inf true) c f g h = right_nan s (inf true) (unfold root_of in refl)
first_clear s (inf false) c f g h = both_clear s (inf false) c tt f g h
first_clear s (fin false n d) c f g h = both_clear s (fin false n d) c tt f g h
first_clear s (fin true zero d) c f g h =
    ap (λ (z : Float). lt (root_of s) z) (root_of_zero true d) ∙ zero_sign_right (root_of s) d (root_fits s f) g ∙ ap (λ (z : Float). lt (root_of s) z) (sym (root_of_zero false d))
    ∙ both_clear s (fin false zero d) c tt f (unfold fits in g) (sym (zero_sign_right s d f g) ∙ h)
first_clear s (fin true (suc n) d) c f g h = right_nan s (fin true (suc n) d) (unfold root_of in refl)

-- root s < root t only if s < t
pub root_less_only_if_less : (s t : Float) → T (fits binary64 s) → T (fits binary64 t) → lt s t ≡ false → lt (root_of s) (root_of t) ≡ false
root_less_only_if_less nan t f g h = left_nan nan t root_of_nan
root_less_only_if_less (inf true) t f g h = left_nan (inf true) t (unfold root_of in refl)
root_less_only_if_less (inf false) t f g h = first_clear (inf false) t tt f g h
root_less_only_if_less (fin false m e) t f g h = first_clear (fin false m e) t tt f g h
root_less_only_if_less (fin true zero e) t f g h =
    ap (λ (z : Float). lt z (root_of t)) (root_of_zero true e) ∙ zero_sign_left e (root_of t) f (root_fits t g) ∙ ap (λ (z : Float). lt z (root_of t)) (sym (root_of_zero false e))
    ∙ first_clear (fin false zero e) t tt (unfold fits in f) g (sym (zero_sign_left e t f g) ∙ h)
root_less_only_if_less (fin true (suc m) e) t f g h = left_nan (fin true (suc m) e) t (unfold root_of in refl)

-- sums that compare need no roots
pub le→roots_not_lt : (s t : Float) → T (fits binary64 s) → T (fits binary64 t) → T (le s t) → lt (root_of t) (root_of s) ≡ false
le→roots_not_lt s t f g h = root_less_only_if_less t s g f (le→not_lt t s g f h)

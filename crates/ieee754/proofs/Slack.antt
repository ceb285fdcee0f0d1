-- A product with 1 + 2 ^ -49 is no less, and one with 1 - 2 ^ -49 no more. Assumes nothing.
use mathlib.Core.Bool.{false}
use mathlib.Core.Path.{◌≡◌, refl, sym, ap, ◌∙◌, subst}
use Prim.Native.Nat.{ℕ, zero, suc, ◌+◌, ◌-◌, ◌*◌, ◌^◌, ◌≤◌, zero-le}
use native.Mathlib.Nat.{le_refl, le_trans, le_of_eq, lt_of_le_of_lt, mul_assoc, mul-le-mul_left, mul-le-mul_right, mul-pos, zero-lt-suc, zero-mul}
use lib.Dec.{T, lt→ltb, lit≤}
use lib.Ieee.{Float, inf, fin, binary64, round, mul, le, fits, to_bits}
use lib.Ieee.Exact.{HasValue, round_exact}
use lib.Ieee.Fits.{round-fits}
use lib.Ieee.Order.{le_of_values, round_mono}
use lib.IntN.{ℤ, negsuc}
use lib.Pow.{pow_pos}
use Rattle.ieee754.specs.Root.{units_of}
use Rattle.ieee754.proofs.FloatOrder.{le_transitive}
use Rattle.ieee754.proofs.FloatUnits.{units_of_zero, units_exact, units_below_top}
use Rattle.ieee754.proofs.Differences.{zero_under}
use Rattle.ieee754.proofs.PatternValues.{units_of_float, units_have_53_digits}
use Rattle.ieee754.proofs.SignClear.{sign_clear, units→le, round_sign_clear}
use Rattle.ieee754.proofs.SquaredRoot.{D}
use Rattle.ieee754.proofs.SumsAndSquares.{product_of_units}

-- ---- 1 + 2 ^ -49 (document 01, farthest sweep)
abbrev pub one_plus_slack : Float
one_plus_slack = fin false (2 ^ 49 + 1) (negsuc 48)

slack_fits : T (fits binary64 one_plus_slack)
unfolding fits
slack_fits = tt

slack_units : D ≤ units_of one_plus_slack
unfolding units_of
slack_units = lit≤ tt

-- a number rounds to itself
pub round_own_units : (m : ℕ) (e : ℤ) → T (fits binary64 (fin false (suc m) e)) → HasValue (round binary64 false (units_of (fin false (suc m) e)) D) false (units_of (fin false (suc m) e)) D
round_own_units m e f =
    let x = fin false (suc m) e in
    let b = units_of_float x f (lt→ltb 0 (suc m) (zero-lt-suc m)) in
    let d = units_have_53_digits (to_bits binary64 x) in
    let w : units_of x ≡ d.0 * 2 ^ d.1 = b ∙ d.2 in
    round_exact binary64 false (units_of x) D d.0 d.1 (pow_pos 1074) d.3 (lt_of_le_of_lt (le_of_eq (sym w)) (units_below_top false (suc m) e f)) (ap (λ (z : ℕ). z * D) w)

slack_product : (m : ℕ) (e : ℤ) → T (fits binary64 (fin false m e)) → mul binary64 (fin false m e) one_plus_slack ≡ round binary64 false (units_of (fin false m e) * units_of one_plus_slack) (D * D)
slack_product m e f = product_of_units m e (2 ^ 49 + 1) (negsuc 48) f slack_fits

-- g ≤ g (1 + 2 ^ -49), as computed
pub slack_above : (g : Float) → T (sign_clear g) → T (fits binary64 g) → T (le g (mul binary64 g one_plus_slack))
slack_above (inf false) c f = unfold le mul in tt
slack_above (fin false zero e) c f =
    subst (λ (z : Float). T (le (fin false zero e) z)) (sym (slack_product zero e f))
    (units→le (fin false zero e) (round binary64 false (units_of (fin false zero e) * units_of one_plus_slack) (D * D)) tt (round_sign_clear (units_of (fin false zero e) * units_of one_plus_slack) (D * D)) f (round-fits binary64 false (units_of (fin false zero e) * units_of one_plus_slack) (D * D)) (le_trans (le_of_eq (units_of_zero false e)) zero-le))
slack_above (fin false (suc m) e) c f =
    let x = fin false (suc m) e in
    let w = units_of x in
    let a : T (le x (round binary64 false w D)) = le_of_values x (round binary64 false w D) w D w D (pow_pos 1074) (pow_pos 1074) (refl, units_exact false (suc m) e f) (round_own_units m e f) (le_refl (w * D)) in
    let b : T (le (round binary64 false w D) (round binary64 false (w * units_of one_plus_slack) (D * D))) = round_mono binary64 w D (w * units_of one_plus_slack) (D * D) (pow_pos 1074) (mul-pos (pow_pos 1074) (pow_pos 1074)) (more w (units_of one_plus_slack) D slack_units) in
    subst (λ (z : Float). T (le x z)) (sym (slack_product (suc m) e f)) (le_transitive x (round binary64 false w D) (round binary64 false (w * units_of one_plus_slack) (D * D)) f (round-fits binary64 false w D) (round-fits binary64 false (w * units_of one_plus_slack) (D * D)) a b)
  where
    more : (w k u : ℕ) → u ≤ k → w * (u * u) ≤ w * k * u
    more w k u h = le_trans (mul-le-mul_left w (mul-le-mul_right u h)) (le_of_eq (sym (mul_assoc w k u)))
slack_above lib.Ieee.nan c f = elim c [ ]
slack_above (inf mathlib.Core.Bool.true) c f = elim c [ ]
slack_above (fin mathlib.Core.Bool.true _ e) c f = elim c [ ]

-- ---- 1 - 2 ^ -49 (document 01, closest sweep)
abbrev pub one_minus_slack : Float
one_minus_slack = fin false (2 ^ 49 - 1) (negsuc 48)

less_slack_fits : T (fits binary64 one_minus_slack)
unfolding fits
less_slack_fits = tt

less_slack_units : units_of one_minus_slack ≤ D
unfolding units_of
less_slack_units = lit≤ tt

less_slack_product : (m : ℕ) (e : ℤ) → T (fits binary64 (fin false m e)) → mul binary64 (fin false m e) one_minus_slack ≡ round binary64 false (units_of (fin false m e) * units_of one_minus_slack) (D * D)
less_slack_product m e f = product_of_units m e (2 ^ 49 - 1) (negsuc 48) f less_slack_fits

-- g (1 - 2 ^ -49) ≤ g, as computed
pub slack_below : (g : Float) → T (sign_clear g) → T (fits binary64 g) → T (le (mul binary64 g one_minus_slack) g)
slack_below (inf false) c f = unfold le mul in tt
slack_below (fin false zero e) c f =
    let w = units_of (fin false zero e) in
    subst (λ (z : Float). T (le z (fin false zero e))) (sym (less_slack_product zero e f ∙ ap (λ (z : ℕ). round binary64 false (z * units_of one_minus_slack) (D * D)) (units_of_zero false e) ∙ ap (λ (z : ℕ). round binary64 false z (D * D)) (zero-mul (units_of one_minus_slack))))
    (zero_under false (D * D) (fin false zero e) (mul-pos (pow_pos 1074) (pow_pos 1074)) tt f)
slack_below (fin false (suc m) e) c f =
    let x = fin false (suc m) e in
    let w = units_of x in
    let a : T (le (round binary64 false w D) x) = le_of_values (round binary64 false w D) x w D w D (pow_pos 1074) (pow_pos 1074) (round_own_units m e f) (refl, units_exact false (suc m) e f) (le_refl (w * D)) in
    let b : T (le (round binary64 false (w * units_of one_minus_slack) (D * D)) (round binary64 false w D)) = round_mono binary64 (w * units_of one_minus_slack) (D * D) w D (mul-pos (pow_pos 1074) (pow_pos 1074)) (pow_pos 1074) (less w (units_of one_minus_slack) D less_slack_units) in
    subst (λ (z : Float). T (le z x)) (sym (less_slack_product (suc m) e f)) (le_transitive (round binary64 false (w * units_of one_minus_slack) (D * D)) (round binary64 false w D) x (round-fits binary64 false (w * units_of one_minus_slack) (D * D)) (round-fits binary64 false w D) f b a)
  where
    less : (w k u : ℕ) → k ≤ u → w * k * u ≤ w * (u * u)
    less w k u h = le_trans (le_of_eq (mul_assoc w k u)) (mul-le-mul_left w (mul-le-mul_right u h))
slack_below lib.Ieee.nan c f = elim c [ ]
slack_below (inf mathlib.Core.Bool.true) c f = elim c [ ]
slack_below (fin mathlib.Core.Bool.true _ e) c f = elim c [ ]

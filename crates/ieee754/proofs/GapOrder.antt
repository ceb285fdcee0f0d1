-- A range that covers another has no greater least gap, and a product with a positive number keeps order. Assumes nothing.
use mathlib.Core.Bool.{Bool, true, false, not, cond}
use mathlib.Core.Logic.{◌⊎◌, inl, inr}
use mathlib.Core.Path.{◌≡◌, sym, ap, subst}
use Prim.Native.Nat.{ℕ, suc, ◌*◌, ◌≤◌}
use native.Mathlib.Nat.{le_trans, le_of_eq, mul-le-mul_right, mul-pos}
use lib.Dec.{T, le→leb, eqb-suc-zero}
use lib.Ieee.{Float, nan, inf, fin, binary64, round, add, neg, sub, mul, le, is_nan, fits}
use lib.Ieee.Fits.{sub-fits}
use lib.Ieee.Order.{round_mono}
use lib.IntN.{ℤ}
use lib.Pow.{pow_pos}
use Rattle.ieee754.specs.MinMax.{positive_zero, maximum_of, absolute_of}
use Rattle.ieee754.specs.Root.{units_of}
use Rattle.ieee754.proofs.AxisGaps.{least_gap, least_gap_fits, zero_number, at_least_zero, absolute_rank}
use Rattle.ieee754.proofs.Differences.{difference_number}
use Rattle.ieee754.proofs.FloatOrder.{le→rank, le_reflexive}
use Rattle.ieee754.proofs.FloatRanks.{rank_of, le_by_rank}
use Rattle.ieee754.proofs.MinMaxLaws.{below_maximum_left, below_maximum_right, maximum_below, maximum_fits}
use Rattle.ieee754.proofs.NearDifferences.{zero_fits, difference_keeps_order, beyond}
use Rattle.ieee754.proofs.RootBounds.{top}
use Rattle.ieee754.proofs.SignClear.{sign_clear, le→units, round_sign_clear, below_infinity, absolute_number}
use Rattle.ieee754.proofs.SquaredRoot.{D}
use Rattle.ieee754.proofs.SumsAndSquares.{absolute_fits, product_of_units}

-- ---- the least gap

-- a difference from +infinity, and one of -infinity, is below 0 where it is no NaN
from_infinity : (u : Float) → T (not (is_nan (sub binary64 u (inf false)))) → T (le (sub binary64 u (inf false)) positive_zero)
unfolding sub add neg is_nan le
from_infinity nan p = absurd p
from_infinity (inf true) p = tt
from_infinity (inf false) p = absurd p
from_infinity (fin s m e) p = tt

of_minus_infinity : (v : Float) → T (not (is_nan (sub binary64 (inf true) v))) → T (le (sub binary64 (inf true) v) positive_zero)
unfolding sub add neg is_nan le
of_minus_infinity nan p = absurd p
of_minus_infinity (inf true) p = absurd p
of_minus_infinity (inf false) p = tt
of_minus_infinity (fin t n d) p = tt

-- klo .. khi covers mlo .. mhi: an end of it is at that of mlo .. mhi or beyond, or infinite
module _ (alo ahi klo khi mlo mhi : Float) (fal : T (fits binary64 alo)) (fah : T (fits binary64 ahi)) (fkl : T (fits binary64 klo)) (fkh : T (fits binary64 khi)) (fml : T (fits binary64 mlo)) (fmh : T (fits binary64 mhi))
    (lower : T (le klo mlo) ⊎ (klo ≡ inf true)) (upper : T (le mhi khi) ⊎ (khi ≡ inf false)) where
  abbrev a : Float
  a = sub binary64 alo mhi

  abbrev b : Float
  b = sub binary64 mlo ahi

  abbrev g : Float
  g = least_gap alo ahi mlo mhi

  fa : T (fits binary64 a)
  fa = sub-fits binary64 alo mhi

  fb : T (fits binary64 b)
  fb = sub-fits binary64 mlo ahi

  fg : T (fits binary64 g)
  fg = least_gap_fits alo ahi mlo mhi

  zero_at_most : T (le positive_zero g)
  zero_at_most = below_maximum_right positive_zero (maximum_of a b) positive_zero zero_fits (maximum_fits a b fa fb) zero_fits (le_reflexive positive_zero zero_number zero_fits)

  a_at_most : T (not (is_nan a)) → T (le a g)
  a_at_most n = below_maximum_left a (maximum_of a b) positive_zero fa (maximum_fits a b fa fb) zero_fits (below_maximum_left a a b fa fa fb (le_reflexive a n fa))

  b_at_most : T (not (is_nan b)) → T (le b g)
  b_at_most n = below_maximum_left b (maximum_of a b) positive_zero fb (maximum_fits a b fa fb) zero_fits (below_maximum_right b a b fb fa fb (le_reflexive b n fb))

  above_gap : T (not (is_nan (sub binary64 alo khi))) → T (le (sub binary64 alo khi) g)
  above_gap n =
      beyond alo khi alo mhi g fg zero_at_most a_at_most
      (elim upper [
        | inl h ↦ difference_keeps_order alo khi alo mhi fal fkh fal fmh n (le_reflexive alo (difference_number alo khi n).0 fal) h
        | inr e ↦ inl (subst (λ (v : Float). T (not (is_nan (sub binary64 alo v))) → T (le (sub binary64 alo v) positive_zero)) (sym e) (from_infinity alo) n)
      ])

  below_gap : T (not (is_nan (sub binary64 klo ahi))) → T (le (sub binary64 klo ahi) g)
  below_gap n =
      beyond klo ahi mlo ahi g fg zero_at_most b_at_most
      (elim lower [
        | inl h ↦ difference_keeps_order klo ahi mlo ahi fkl fah fml fah n h (le_reflexive ahi (difference_number klo ahi n).1 fah)
        | inr e ↦ inl (subst (λ (u : Float). T (not (is_nan (sub binary64 u ahi))) → T (le (sub binary64 u ahi) positive_zero)) (sym e) (of_minus_infinity ahi) n)
      ])

  covering : T (not (is_nan (least_gap alo ahi klo khi))) × (top ≤ rank_of (least_gap alo ahi klo khi))
  covering = at_least_zero (maximum_of (sub binary64 alo khi) (sub binary64 klo ahi)) (maximum_fits (sub binary64 alo khi) (sub binary64 klo ahi) (sub-fits binary64 alo khi) (sub-fits binary64 klo ahi))

  covered : T (not (is_nan g)) × (top ≤ rank_of g)
  covered = at_least_zero (maximum_of a b) (maximum_fits a b fa fb)

  -- the covering range is no farther
  pub covering_no_farther : T (le (least_gap alo ahi klo khi) g)
  covering_no_farther = maximum_below (maximum_of (sub binary64 alo khi) (sub binary64 klo ahi)) positive_zero g (maximum_below (sub binary64 alo khi) (sub binary64 klo ahi) g above_gap below_gap) (λ n. zero_at_most) covering.0

  -- the same, with the gaps' absolute values
  pub covering_no_farther_absolute : T (le (absolute_of (least_gap alo ahi klo khi)) (absolute_of g))
  covering_no_farther_absolute =
      let k = least_gap alo ahi klo khi in
      let fk = least_gap_fits alo ahi klo khi in
      subst T (sym (le_by_rank (absolute_of k) (absolute_of g) (absolute_number k covering.0) (absolute_number g covered.0) (absolute_fits k fk) (absolute_fits g fg)))
      (le→leb (rank_of (absolute_of k)) (rank_of (absolute_of g))
      (le_trans (le_of_eq (absolute_rank k covering.0 fk covering.1)) (le_trans (le→rank k g fk fg covering_no_farther) (le_of_eq (sym (absolute_rank g covered.0 fg covered.1))))))

-- ---- products with a positive number
module _ (n : ℕ) (d : ℤ) (f : T (fits binary64 (fin false (suc n) d))) where
  abbrev scale : Float
  scale = fin false (suc n) d

  scaled_infinity : mul binary64 (inf false) scale ≡ inf false
  unfolding mul
  scaled_infinity = ap (λ (t : Bool). cond t nan (inf false)) (eqb-suc-zero n)

  scaled_sign_clear : (x : Float) → T (sign_clear x) → T (fits binary64 x) → T (sign_clear (mul binary64 x scale))
  scaled_sign_clear (inf false) c fx = subst (λ (z : Float). T (sign_clear z)) (sym scaled_infinity) tt
  scaled_sign_clear (fin false m e) c fx = subst (λ (z : Float). T (sign_clear z)) (sym (product_of_units m e (suc n) d fx f)) (round_sign_clear (units_of (fin false m e) * units_of scale) (D * D))
  scaled_sign_clear nan c fx = elim c [ ]
  scaled_sign_clear (inf true) c fx = elim c [ ]
  scaled_sign_clear (fin true m e) c fx = elim c [ ]

  -- x ≤ y gives k x ≤ k y, as computed
  pub scaling_keeps_order : (x y : Float) → T (sign_clear x) → T (sign_clear y) → T (fits binary64 x) → T (fits binary64 y) → T (le x y) → T (le (mul binary64 x scale) (mul binary64 y scale))
  scaling_keeps_order x (inf false) c c' fx fy h = subst (λ (z : Float). T (le (mul binary64 x scale) z)) (sym scaled_infinity) (below_infinity (mul binary64 x scale) (scaled_sign_clear x c fx))
  scaling_keeps_order (inf false) (fin false i j) c c' fx fy h = absurd (unfold le in h)
  scaling_keeps_order (fin false m e) (fin false i j) c c' fx fy h =
      subst (λ (z : Float). T (le z (mul binary64 (fin false i j) scale))) (sym (product_of_units m e (suc n) d fx f))
      (subst (λ (z : Float). T (le (round binary64 false (units_of (fin false m e) * units_of scale) (D * D)) z)) (sym (product_of_units i j (suc n) d fy f))
      (round_mono binary64 (units_of (fin false m e) * units_of scale) (D * D) (units_of (fin false i j) * units_of scale) (D * D) (mul-pos (pow_pos 1074) (pow_pos 1074)) (mul-pos (pow_pos 1074) (pow_pos 1074))
      (mul-le-mul_right (D * D) (mul-le-mul_right (units_of scale) (le→units (fin false m e) (fin false i j) tt tt fx fy h)))))
  scaling_keeps_order x nan c c' fx fy h = elim c' [ ]
  scaling_keeps_order x (inf true) c c' fx fy h = elim c' [ ]
  scaling_keeps_order nan (fin _ i j) c c' fx fy h = elim c [ ]
  scaling_keeps_order (inf false) (fin true i j) c c' fx fy h = elim c' [ ]
  scaling_keeps_order (inf true) (fin _ i j) c c' fx fy h = elim c [ ]
  scaling_keeps_order (fin false m e) (fin true i j) c c' fx fy h = elim c' [ ]
  scaling_keeps_order (fin true m e) (fin _ i j) c c' fx fy h = elim c [ ]

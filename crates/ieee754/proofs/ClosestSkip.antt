-- What the closest sweep's box test may skip: no pair of points of the two boxes is strictly nearer than the best pair so far. Assumes nothing.
use mathlib.Core.Bool.{Bool, true, false, not}
use mathlib.Core.Path.{refl, sym, subst, ap, ◌∙◌, ◌≡◌}
use lib.Dec.{T}
use lib.Ieee.{Float, binary64, sub, mul, lt, le, is_nan, fits}
use lib.Ieee.Fits.{sub-fits, mul-fits}
use Rattle.ieee754.specs.MinMax.{absolute_of}
use Rattle.ieee754.specs.Root.{root_of}
use Rattle.ieee754.proofs.AxisBounds.{Holds}
use Rattle.ieee754.proofs.AxisGaps.{least_gap, least_gap_fits, least_gap_below_difference_absolute}
use Rattle.ieee754.proofs.FloatOrder.{is_nan_lem, le_transitive, le→not_lt, lt_nan_left}
use Rattle.ieee754.proofs.RootLaws.{root_fits, root_at_least, root_of_nan}
use Rattle.ieee754.proofs.SignClear.{sign_clear}
use Rattle.ieee754.proofs.Slack.{one_minus_slack, slack_below}
use Rattle.ieee754.proofs.SumsAndSquares.{square_of, sum_of_squares, sum_of_squares_fits, sum_of_squares_numbers, lesser_sum_sign_clear, greater_sum_sign_clear, sum_of_squares_keeps_order}

module _ (x y z x' y' z' ax ay az bx by bz cx cy cz ex ey ez s : Float)
    (fx : T (fits binary64 x)) (fy : T (fits binary64 y)) (fz : T (fits binary64 z)) (fx' : T (fits binary64 x')) (fy' : T (fits binary64 y')) (fz' : T (fits binary64 z'))
    (fax : T (fits binary64 ax)) (fay : T (fits binary64 ay)) (faz : T (fits binary64 az)) (fbx : T (fits binary64 bx)) (fby : T (fits binary64 by)) (fbz : T (fits binary64 bz))
    (fcx : T (fits binary64 cx)) (fcy : T (fits binary64 cy)) (fcz : T (fits binary64 cz)) (fex : T (fits binary64 ex)) (fey : T (fits binary64 ey)) (fez : T (fits binary64 ez))
    (fs : T (fits binary64 s)) (cs : T (sign_clear s)) (ix : Holds ax bx x) (iy : Holds ay by y) (iz : Holds az bz z) (jx : Holds cx ex x') (jy : Holds cy ey y') (jz : Holds cz ez z') where
  abbrev difference : Float
  difference = sum_of_squares (sub binary64 x x') (sub binary64 y y') (sub binary64 z z')

  abbrev gap : Float
  gap = sum_of_squares (least_gap ax bx cx ex) (least_gap ay by cy ey) (least_gap az bz cz ez)

  numbers : T (not (is_nan difference)) → T (le (square_of (root_of s)) (mul binary64 gap one_minus_slack)) → lt (root_of difference) (root_of s) ≡ false
  numbers n h =
      let v = sum_of_squares_numbers (sub binary64 x x') (sub binary64 y y') (sub binary64 z z') n in
      let ux = least_gap_below_difference_absolute x x' ax bx cx ex fx fx' fax fbx fcx fex ix jx v.0 in
      let uy = least_gap_below_difference_absolute y y' ay by cy ey fy fy' fay fby fcy fey iy jy v.1 in
      let uz = least_gap_below_difference_absolute z z' az bz cz ez fz fz' faz fbz fcz fez iz jz v.2 in
      let fd = sum_of_squares_fits (sub binary64 x x') (sub binary64 y y') (sub binary64 z z') in
      let fg = sum_of_squares_fits (least_gap ax bx cx ex) (least_gap ay by cy ey) (least_gap az bz cz ez) in
      let d = ordered ux uy uz in
      let e = lesser_sum_sign_clear (least_gap ax bx cx ex) (least_gap ay by cy ey) (least_gap az bz cz ez) (sub binary64 x x') (sub binary64 y y') (sub binary64 z z') g1 g2 g3 f1 f2 f3 ux uy uz in
      let c = greater_sum_sign_clear (least_gap ax bx cx ex) (least_gap ay by cy ey) (least_gap az bz cz ez) (sub binary64 x x') (sub binary64 y y') (sub binary64 z z') g1 g2 g3 f1 f2 f3 ux uy uz in
      let fm = mul-fits binary64 gap one_minus_slack in
      let fr = mul-fits binary64 (root_of s) (root_of s) in
      let k : T (le (square_of (root_of s)) difference) = le_transitive (square_of (root_of s)) gap difference fr fg fd (le_transitive (square_of (root_of s)) (mul binary64 gap one_minus_slack) gap fr fm fg h (slack_below gap e fg)) d in
      le→not_lt (root_of difference) (root_of s) (root_fits difference fd) (root_fits s fs) (root_at_least s difference cs c fs fd k)
    where
      f1 : T (fits binary64 (sub binary64 x x'))
      f1 = sub-fits binary64 x x'

      f2 : T (fits binary64 (sub binary64 y y'))
      f2 = sub-fits binary64 y y'

      f3 : T (fits binary64 (sub binary64 z z'))
      f3 = sub-fits binary64 z z'

      g1 : T (fits binary64 (least_gap ax bx cx ex))
      g1 = least_gap_fits ax bx cx ex

      g2 : T (fits binary64 (least_gap ay by cy ey))
      g2 = least_gap_fits ay by cy ey

      g3 : T (fits binary64 (least_gap az bz cz ez))
      g3 = least_gap_fits az bz cz ez

      ordered : T (le (absolute_of (least_gap ax bx cx ex)) (absolute_of (sub binary64 x x'))) → T (le (absolute_of (least_gap ay by cy ey)) (absolute_of (sub binary64 y y'))) → T (le (absolute_of (least_gap az bz cz ez)) (absolute_of (sub binary64 z z'))) → T (le gap difference)
      ordered ux uy uz = sum_of_squares_keeps_order (least_gap ax bx cx ex) (least_gap ay by cy ey) (least_gap az bz cz ez) (sub binary64 x x') (sub binary64 y y') (sub binary64 z z') g1 g2 g3 f1 f2 f3 ux uy uz

  -- the box test passes: no two points of the boxes a .. b and c .. e are strictly nearer than the best pair, whose sum of squares is s
  pub closest_skip : T (le (square_of (root_of s)) (mul binary64 gap one_minus_slack)) → lt (root_of difference) (root_of s) ≡ false
  closest_skip h = go (is_nan difference) refl
    where
      go : (b : Bool) → is_nan difference ≡ b → lt (root_of difference) (root_of s) ≡ false
      go true e = ap (λ (w : Float). lt (root_of w) (root_of s)) (is_nan_lem difference e) ∙ ap (λ (w : Float). lt w (root_of s)) root_of_nan ∙ lt_nan_left (root_of s)
      go false e = numbers (subst (λ (t : Bool). T (not t)) (sym e) tt) h

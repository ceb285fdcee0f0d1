-- What the farthest sweep's box test may skip: no vertex in the box is strictly farther than the best pair so far. Assumes nothing.
use mathlib.Core.Bool.{Bool, true, false, not}
use mathlib.Core.Path.{refl, sym, subst, ap, ◌∙◌, ◌≡◌}
use lib.Dec.{T}
use lib.Ieee.{Float, binary64, sub, mul, lt, le, is_nan, fits}
use lib.Ieee.Fits.{sub-fits, mul-fits}
use Rattle.ieee754.specs.MinMax.{absolute_of}
use Rattle.ieee754.specs.Root.{root_of}
use Rattle.ieee754.proofs.AxisBounds.{Holds}
use Rattle.ieee754.proofs.AxisGaps.{greatest_gap, greatest_gap_fits, difference_below_greatest_gap_absolute}
use Rattle.ieee754.proofs.FloatOrder.{is_nan_lem, le_transitive, le→not_lt, lt_nan_right}
use Rattle.ieee754.proofs.RootLaws.{root_fits, root_at_most, root_of_nan}
use Rattle.ieee754.proofs.SignClear.{sign_clear}
use Rattle.ieee754.proofs.Slack.{one_plus_slack, slack_above}
use Rattle.ieee754.proofs.SumsAndSquares.{square_of, sum_of_squares, sum_of_squares_fits, sum_of_squares_numbers, lesser_sum_sign_clear, greater_sum_sign_clear, sum_of_squares_keeps_order}

module _ (px py pz x y z lx ly lz hx hy hz s : Float)
    (fpx : T (fits binary64 px)) (fpy : T (fits binary64 py)) (fpz : T (fits binary64 pz)) (fx : T (fits binary64 x)) (fy : T (fits binary64 y)) (fz : T (fits binary64 z))
    (flx : T (fits binary64 lx)) (fly : T (fits binary64 ly)) (flz : T (fits binary64 lz)) (fhx : T (fits binary64 hx)) (fhy : T (fits binary64 hy)) (fhz : T (fits binary64 hz))
    (fs : T (fits binary64 s)) (cs : T (sign_clear s)) (ix : Holds lx hx x) (iy : Holds ly hy y) (iz : Holds lz hz z) where
  abbrev difference : Float
  difference = sum_of_squares (sub binary64 px x) (sub binary64 py y) (sub binary64 pz z)

  abbrev gap : Float
  gap = sum_of_squares (greatest_gap px lx hx) (greatest_gap py ly hy) (greatest_gap pz lz hz)

  numbers : T (not (is_nan difference)) → T (le (mul binary64 gap one_plus_slack) (square_of (root_of s))) → lt (root_of s) (root_of difference) ≡ false
  numbers n h =
      let v = sum_of_squares_numbers (sub binary64 px x) (sub binary64 py y) (sub binary64 pz z) n in
      let ax = difference_below_greatest_gap_absolute px x lx hx fpx fx flx fhx ix v.0 in
      let ay = difference_below_greatest_gap_absolute py y ly hy fpy fy fly fhy iy v.1 in
      let az = difference_below_greatest_gap_absolute pz z lz hz fpz fz flz fhz iz v.2 in
      let fd = sum_of_squares_fits (sub binary64 px x) (sub binary64 py y) (sub binary64 pz z) in
      let fg = sum_of_squares_fits (greatest_gap px lx hx) (greatest_gap py ly hy) (greatest_gap pz lz hz) in
      let d = ordered ax ay az in
      let e = greater_sum_sign_clear (sub binary64 px x) (sub binary64 py y) (sub binary64 pz z) (greatest_gap px lx hx) (greatest_gap py ly hy) (greatest_gap pz lz hz) f1 f2 f3 g1 g2 g3 ax ay az in
      let c = lesser_sum_sign_clear (sub binary64 px x) (sub binary64 py y) (sub binary64 pz z) (greatest_gap px lx hx) (greatest_gap py ly hy) (greatest_gap pz lz hz) f1 f2 f3 g1 g2 g3 ax ay az in
      let fm = mul-fits binary64 gap one_plus_slack in
      let fr = mul-fits binary64 (root_of s) (root_of s) in
      let k : T (le difference (square_of (root_of s))) = le_transitive difference gap (square_of (root_of s)) fd fg fr d (le_transitive gap (mul binary64 gap one_plus_slack) (square_of (root_of s)) fg fm fr (slack_above gap e fg) h) in
      le→not_lt (root_of s) (root_of difference) (root_fits s fs) (root_fits difference fd) (root_at_most s difference cs c fs fd k)
    where
      f1 : T (fits binary64 (sub binary64 px x))
      f1 = sub-fits binary64 px x

      f2 : T (fits binary64 (sub binary64 py y))
      f2 = sub-fits binary64 py y

      f3 : T (fits binary64 (sub binary64 pz z))
      f3 = sub-fits binary64 pz z

      g1 : T (fits binary64 (greatest_gap px lx hx))
      g1 = greatest_gap_fits px lx hx

      g2 : T (fits binary64 (greatest_gap py ly hy))
      g2 = greatest_gap_fits py ly hy

      g3 : T (fits binary64 (greatest_gap pz lz hz))
      g3 = greatest_gap_fits pz lz hz

      ordered : T (le (absolute_of (sub binary64 px x)) (absolute_of (greatest_gap px lx hx))) → T (le (absolute_of (sub binary64 py y)) (absolute_of (greatest_gap py ly hy))) → T (le (absolute_of (sub binary64 pz z)) (absolute_of (greatest_gap pz lz hz))) → T (le difference gap)
      ordered ax ay az = sum_of_squares_keeps_order (sub binary64 px x) (sub binary64 py y) (sub binary64 pz z) (greatest_gap px lx hx) (greatest_gap py ly hy) (greatest_gap pz lz hz) f1 f2 f3 g1 g2 g3 ax ay az

  -- the box test passes: no point of the box is strictly farther from p than the best pair, whose sum of squares is s
  pub farthest_skip : T (le (mul binary64 gap one_plus_slack) (square_of (root_of s))) → lt (root_of s) (root_of difference) ≡ false
  farthest_skip h = go (is_nan difference) refl
    where
      go : (b : Bool) → is_nan difference ≡ b → lt (root_of s) (root_of difference) ≡ false
      go true e = ap (λ (w : Float). lt (root_of s) (root_of w)) (is_nan_lem difference e) ∙ ap (λ (w : Float). lt (root_of s) w) root_of_nan ∙ lt_nan_right (root_of s)
      go false e = numbers (subst (λ (t : Bool). T (not t)) (sym e) tt) h

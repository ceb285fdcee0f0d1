-- What the two box tests tell of each pair behind them: it is not strictly longer, or not strictly shorter, than the best. Assumes nothing.
use mathlib.Core.Path.{◌≡◌}
use mathlib.Core.Bool.{false}
use lib.Dec.{T}
use lib.Ieee.{binary64, mul, lt, le}
use Rattle.ieee754.proofs.FloatOrder.{le_number_left, le_number_right}
use Rattle.ieee754.proofs.SumsAndSquares.{square_number}
use Rattle.ieee754.proofs.FarthestSkip.{farthest_skip}
use Rattle.ieee754.proofs.ClosestSkip.{closest_skip}
use Rattle.primitives.specs.declared.Point.{Point}
use Rattle.primitives.specs.declared.Aabb.{Aabb}
use Rattle.primitives.specs.Vectors.{difference_of, dot_of, squared_distance}
use Rattle.primitives.specs.Witnesses.{witness_of, between_of}
use Rattle.primitives.specs.Boxes.{box_of_point, squared, least_gap, greatest_gap, least_squared_gap, greatest_squared_gap}
use Rattle.extremes.specs.Sweeps.{one_plus_slack, one_minus_slack}
use Rattle.extremes.proofs.Distances.{IsNumber, squares_fit, squares_sign_clear}
use Rattle.extremes.proofs.BoxOfAll.{IsBinary64, Inside, Fitting, axis_x, axis_y, axis_z, point_inside}

-- no b in the box is farther from a than q is from p
pub box_no_farther : (box : Aabb) (p q a b : Point) → IsBinary64 a → IsBinary64 b → Fitting box → Inside box b → T (le (mul binary64 (greatest_squared_gap (box_of_point a) box) one_plus_slack) (squared (between_of p q).d)) → lt (between_of p q).d (between_of a b).d ≡ false
unfolding axis_x axis_y axis_z box_of_point greatest_gap greatest_squared_gap between_of witness_of squared_distance dot_of difference_of
box_no_farther box p q a b u v f i h =
    let c : IsNumber (between_of p q).d = square_number (between_of p q).d (le_number_right (mul binary64 (greatest_squared_gap (box_of_point a) box) one_plus_slack) (squared (between_of p q).d) h) in
    farthest_skip a.x a.y a.z b.x b.y b.z box.lo.x box.lo.y box.lo.z box.hi.x box.hi.y box.hi.z (squared_distance p q)
    u.fit_x u.fit_y u.fit_z v.fit_x v.fit_y v.fit_z
    f.ends_x.0 f.ends_y.0 f.ends_z.0 f.ends_x.1 f.ends_y.1 f.ends_z.1 (squares_fit p q) (squares_sign_clear p q c) i.on_x i.on_y i.on_z h

-- no b in the box is nearer to a than q is to p
pub box_no_closer : (box : Aabb) (p q a b : Point) → IsBinary64 a → IsBinary64 b → Fitting box → Inside box b → T (le (squared (between_of p q).d) (mul binary64 (least_squared_gap (box_of_point a) box) one_minus_slack)) → lt (between_of a b).d (between_of p q).d ≡ false
unfolding axis_x axis_y axis_z box_of_point least_gap least_squared_gap between_of witness_of squared_distance dot_of difference_of
box_no_closer box p q a b u v f i h =
    let c : IsNumber (between_of p q).d = square_number (between_of p q).d (le_number_left (squared (between_of p q).d) (mul binary64 (least_squared_gap (box_of_point a) box) one_minus_slack) h) in
    let j = point_inside a u in
    closest_skip a.x a.y a.z b.x b.y b.z a.x a.y a.z a.x a.y a.z box.lo.x box.lo.y box.lo.z box.hi.x box.hi.y box.hi.z (squared_distance p q)
    u.fit_x u.fit_y u.fit_z v.fit_x v.fit_y v.fit_z u.fit_x u.fit_y u.fit_z u.fit_x u.fit_y u.fit_z
    f.ends_x.0 f.ends_y.0 f.ends_z.0 f.ends_x.1 f.ends_y.1 f.ends_z.1 (squares_fit p q) (squares_sign_clear p q c) j.on_x j.on_y j.on_z i.on_x i.on_y i.on_z h

-- A box holds the corners of least and of greatest ordinates (document 01, Witness and boxes). Definitions only.
use Rattle.std.specs.Prelude.{Float}
use Rattle.std.specs.Float.{binary64}
use Rattle.std.specs.Float.Ieee.{sub, mul}
use Rattle.ieee754.specs.MinMax.{maximum_of, absolute_of, positive_zero}
use Rattle.primitives.specs.declared.Point.{Point}
use Rattle.primitives.specs.declared.Aabb.{Aabb}
use Rattle.primitives.specs.Vectors.{summed, least_of, greatest_of}

-- the box of one point
unfoldable pub box_of_point : Point → Aabb
box_of_point p = record { lo = p; hi = p }

-- the box with one more point in it
unfoldable pub add_point : Aabb → Point → Aabb
add_point b p = record { lo = least_of b.lo p; hi = greatest_of b.hi p }

-- the box with another's two corners added (Rust: union)
unfoldable pub union_of : Aabb → Aabb → Aabb
union_of b other = add_point (add_point b other.lo) other.hi

-- the least gap on one axis: max(lo - other hi, other lo - hi, 0)
unfoldable pub least_gap : Float → Float → Float → Float → Float
least_gap lo hi other_lo other_hi = maximum_of (maximum_of (sub binary64 lo other_hi) (sub binary64 other_lo hi)) positive_zero

-- the greatest gap on one axis: max(|hi - other lo|, |other hi - lo|)
unfoldable pub greatest_gap : Float → Float → Float → Float → Float
greatest_gap lo hi other_lo other_hi = maximum_of (absolute_of (sub binary64 hi other_lo)) (absolute_of (sub binary64 other_hi lo))

-- the square
abbrev pub squared : Float → Float
squared x = mul binary64 x x

-- the least squared gap, summed over x, y, z
unfoldable pub least_squared_gap : Aabb → Aabb → Float
least_squared_gap b other =
    summed (squared (least_gap b.lo.x b.hi.x other.lo.x other.hi.x))
    (squared (least_gap b.lo.y b.hi.y other.lo.y other.hi.y))
    (squared (least_gap b.lo.z b.hi.z other.lo.z other.hi.z))

-- the greatest squared gap, summed over x, y, z
unfoldable pub greatest_squared_gap : Aabb → Aabb → Float
greatest_squared_gap b other =
    summed (squared (greatest_gap b.lo.x b.hi.x other.lo.x other.hi.x))
    (squared (greatest_gap b.lo.y b.hi.y other.lo.y other.hi.y))
    (squared (greatest_gap b.lo.z b.hi.z other.lo.z other.hi.z))

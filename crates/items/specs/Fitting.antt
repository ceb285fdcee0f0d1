-- What is known of a box beside its value. Serves inner contracts. Definitions only.
use Rattle.std.specs.Prelude.{T}
use Rattle.std.specs.Float.{binary64}
use Rattle.std.specs.Float.Ieee.{fits}
use Rattle.primitives.specs.declared.Point.{Point}
use Rattle.primitives.specs.declared.Aabb.{Aabb}

-- each ordinate is a value of binary64
abbrev pub CornerFits : Point → Type 0
CornerFits p = T (fits binary64 p.x) × T (fits binary64 p.y) × T (fits binary64 p.z)

abbrev pub BoxFits : Aabb → Type 0
BoxFits b = CornerFits b.lo × CornerFits b.hi

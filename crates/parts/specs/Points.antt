-- The point of a coordinate. Definitions only.
use Rattle.std.specs.Float.{binary64}
use Rattle.std.specs.Float.Ieee.{of_bits}
use Rattle.coords.specs.Walk.{Coordinate}
use Rattle.primitives.specs.declared.Point.{Point}

-- x, y and z are the floats of the patterns (document 01, Walk: ordinates lie x, y, then z; missing z is 0)
unfoldable pub point_of : Coordinate → Point
point_of c = record { x = of_bits binary64 c.x; y = of_bits binary64 c.y; z = of_bits binary64 c.z }

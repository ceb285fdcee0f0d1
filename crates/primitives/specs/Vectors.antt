-- The vector operations on points, each IEEE 754 operation rounded once, in the Rust's order. Definitions only.
use Rattle.std.specs.Prelude.{Float}
use Rattle.std.specs.Float.{binary64}
use Rattle.std.specs.Float.Ieee.{add, sub, mul}
use Rattle.ieee754.specs.MinMax.{minimum_of, maximum_of}
use Rattle.ieee754.specs.Root.{root_of}
use Rattle.primitives.specs.declared.Point.{Point}

-- summed over x, y, z, left to right (document 01, Witness and boxes)
abbrev pub summed : Float → Float → Float → Float
summed x y z = add binary64 (add binary64 x y) z

-- a - b, per axis (Rust: sub)
unfoldable pub difference_of : Point → Point → Point
difference_of a b =
    record {
      x = sub binary64 a.x b.x;
      y = sub binary64 a.y b.y;
      z = sub binary64 a.z b.z;
    }

-- the scalar product (Rust: dot)
unfoldable pub dot_of : Point → Point → Float
dot_of a b = summed (mul binary64 a.x b.x) (mul binary64 a.y b.y) (mul binary64 a.z b.z)

-- the vector product (Rust: cross)
unfoldable pub cross_of : Point → Point → Point
cross_of a b =
    record {
      x = sub binary64 (mul binary64 a.y b.z) (mul binary64 a.z b.y);
      y = sub binary64 (mul binary64 a.z b.x) (mul binary64 a.x b.z);
      z = sub binary64 (mul binary64 a.x b.y) (mul binary64 a.y b.x);
    }

-- start + t × (end - start) on one axis (document 01, Interpolation)
abbrev pub interpolated_on : Float → Float → Float → Float
interpolated_on start end t = add binary64 start (mul binary64 t (sub binary64 end start))

-- the same per axis (Rust: lerp)
unfoldable pub interpolated_of : Point → Point → Float → Point
interpolated_of a b t =
    record {
      x = interpolated_on a.x b.x t;
      y = interpolated_on a.y b.y t;
      z = interpolated_on a.z b.z t;
    }

-- the length of a vector (Rust: norm)
unfoldable pub norm_of : Point → Float
norm_of v = root_of (dot_of v v)

-- differences, squares, sum left to right (document 01, Witness and boxes)
unfoldable pub squared_distance : Point → Point → Float
squared_distance a b = dot_of (difference_of a b) (difference_of a b)

-- the lesser ordinate on each axis
abbrev pub least_of : Point → Point → Point
least_of a b = record { x = minimum_of a.x b.x; y = minimum_of a.y b.y; z = minimum_of a.z b.z }

-- the greater ordinate on each axis
abbrev pub greatest_of : Point → Point → Point
greatest_of a b = record { x = maximum_of a.x b.x; y = maximum_of a.y b.y; z = maximum_of a.z b.z }

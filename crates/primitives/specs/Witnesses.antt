-- A witness is a distance with its two points (document 01, Witness and boxes). Definitions only.
use Rattle.std.specs.Prelude.{Bool, cond, Float}
use Rattle.std.specs.Float.Ieee.{lt}
use Rattle.ieee754.specs.Root.{root_of}
use Rattle.primitives.specs.declared.Point.{Point}
use Rattle.primitives.specs.declared.Witness.{Witness}
use Rattle.primitives.specs.Vectors.{squared_distance}

-- a distance d with the points a and b
unfoldable pub witness_of : Float → Point → Point → Witness
witness_of d a b = record { d = d; a = a; b = b }

-- the witness of a and b, with their distance: differences, squares, sum left to right, root
unfoldable pub between_of : Point → Point → Witness
between_of a b = witness_of (root_of (squared_distance a b)) a b

-- what beats a distance: for the longer one what is strictly greater (document 01, Farthest sweep)
abbrev pub longer : Float → Float → Bool
longer best new = lt best new

-- for the shorter one what is strictly less
abbrev pub shorter : Float → Float → Bool
shorter best new = lt new best

-- the second of two only if its distance beats the first's
abbrev pub better_of : (Float → Float → Bool) → Witness → Witness → Witness
better_of beats w other = cond (beats w.d other.d) other w

-- the smaller of two
unfoldable pub smaller_of : Witness → Witness → Witness
smaller_of w other = better_of shorter w other

-- the same distance, its points exchanged
unfoldable pub flipped_of : Witness → Witness
flipped_of w = witness_of w.d w.b w.a

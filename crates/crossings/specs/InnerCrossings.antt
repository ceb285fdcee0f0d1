-- The crossings of two items, and the first of them as the code gives it. Serves inner contracts. Definitions only.
use Rattle.std.specs.Prelude.{cond, ◌&&◌, List, [], ◌∷◌, Float, None, Some}
use Rattle.std.specs.declared.option.Option.{Option}
use Rattle.std.specs.Float.{binary64}
use Rattle.std.specs.Float.Ieee.{sub, div}
use Rattle.primitives.specs.declared.Point.{Point}
use Rattle.primitives.specs.declared.Witness.{Witness}
use Rattle.primitives.specs.Vectors.{interpolated_of}
use Rattle.primitives.specs.Witnesses.{between_of}
use Rattle.measures.specs.declared.Triangle.{Triangle}
use Rattle.items.specs.declared.Item.{Item}
use Rattle.items.specs.declared.Item.TheVariants.{Point as point, Segment as segment, Triangle as triangle}
use Rattle.crossings.specs.Crossings.{opposite_sides, counts_as_crossing, crossing, triangle_crossings}

-- the point of the segment s e whose ends have these sides
abbrev pub point_by : Point → Point → Float → Float → Point
point_by s e start end = interpolated_of s e (div binary64 start (sub binary64 start end))

-- the crossing of the segment s e with the triangle t, by the sides of its ends and the normal n of t
unfoldable pub crossing_by : Point → Point → Float → Float → Triangle → Point → Option Point
crossing_by s e start end t n = cond (opposite_sides start end && counts_as_crossing t n (point_by s e start end)) (Some (point_by s e start end)) None

-- what a crossing offers: its point as both points
unfoldable pub offered_by : Option Point → List Witness
offered_by (Some x) = between_of x x ∷ []
offered_by None = []

-- the first of some witnesses, or none
unfoldable pub first_only : List Witness → List Witness
first_only [] = []
first_only (w ∷ ws) = w ∷ []

-- the crossings of an item of A with an item of B, in order
unfoldable pub crossings_of : Item → Item → List Witness
crossings_of (point p) i = []
crossings_of (segment s e) (point q) = []
crossings_of (segment s e) (segment u v) = []
crossings_of (segment s e) (triangle u) = crossing s e u
crossings_of (triangle t) (point q) = []
crossings_of (triangle t) (segment s e) = crossing s e t
crossings_of (triangle t) (triangle u) = triangle_crossings t u

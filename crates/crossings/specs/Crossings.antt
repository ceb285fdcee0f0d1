-- Pair rule 2, where a segment against a triangle first tries a crossing, and two triangles the crossings of each one's edges with the other (document 02, 3/13). Definitions only.
use Rattle.std.specs.Prelude.{Bool, cond, ◌&&◌, ◌||◌, Float}
use mathlib.Core.List.{List, [], ◌∷◌, ◌++◌, foldl}
use Rattle.std.specs.Float.{binary64}
use Rattle.std.specs.Float.Ieee.{sub, div, lt, eq}
use Rattle.ieee754.specs.MinMax.{positive_zero}
use Rattle.primitives.specs.declared.Point.{Point}
use Rattle.primitives.specs.declared.Witness.{Witness}
use Rattle.primitives.specs.Vectors.{difference_of, dot_of, interpolated_of}
use Rattle.primitives.specs.Witnesses.{between_of}
use Rattle.measures.specs.declared.Triangle.{Triangle}
use Rattle.measures.specs.Measures.{normal_of, inside_triangle, closer_of, segment_edges, infinitely_far, first_vertices, second_vertices}
use Rattle.items.specs.declared.Item.{Item}
use Rattle.items.specs.declared.Item.TheVariants.{Point as point, Segment as segment, Triangle as triangle}
use Rattle.items.specs.Candidates.{candidates_of}

-- ---- the crossing of the segment s e with the triangle t, whose normal is n

-- the side of an end: the dot product of (end minus first vertex) with n
unfoldable pub side_of : Point → Point → Point → Float
side_of end a n = dot_of (difference_of end a) n

-- one side is above 0 and the other below
unfoldable pub opposite_sides : Float → Float → Bool
opposite_sides start end = (lt positive_zero start && lt end positive_zero) || (lt start positive_zero && lt positive_zero end)

-- the interpolation at side of start / (side of start - side of end), not clamped
unfoldable pub crossing_point : Point → Point → Point → Point → Point
crossing_point s e a n = interpolated_of s e (div binary64 (side_of s a n) (sub binary64 (side_of s a n) (side_of e a n)))

-- n squared is above 0, the point itself passes `pt_tri`'s inside test, and its distance to itself is 0
unfoldable pub counts_as_crossing : Triangle → Point → Point → Bool
counts_as_crossing t n x = lt positive_zero (dot_of n n) && (inside_triangle t x n && eq (between_of x x).d positive_zero)

-- whether there is a crossing
unfoldable pub crosses : Point → Point → Triangle → Point → Bool
crosses s e t n = opposite_sides (side_of s t.a n) (side_of e t.a n) && counts_as_crossing t n (crossing_point s e t.a n)

-- what the crossing offers: itself as both points; nothing where there is none
unfoldable pub crossing : Point → Point → Triangle → List Witness
crossing s e t =
    cond (crosses s e t (normal_of t))
    (between_of (crossing_point s e t.a (normal_of t)) (crossing_point s e t.a (normal_of t)) ∷ [])
    []

-- ---- two triangles

-- each edge of t against u
unfoldable pub edge_crossings : Triangle → Triangle → List Witness
edge_crossings t u = crossing t.a t.b u ++ (crossing t.b t.c u ++ crossing t.c t.a u)

-- the first triangle's edges against the second, then the second's against the first
unfoldable pub triangle_crossings : Triangle → Triangle → List Witness
triangle_crossings t u = edge_crossings t u ++ edge_crossings u t

-- `tri_tri` from a best so far: edge pairs, then vertices unless the distance is 0 already
unfoldable pub triangle_triangle_from : Witness → Triangle → Triangle → Witness
triangle_triangle_from best t u =
    cond (eq edges.d positive_zero) edges (second_vertices (first_vertices edges t u) t u)
  where
    edges : Witness
    edges = segment_edges (segment_edges (segment_edges best t.a t.b u) t.b t.c u) t.c t.a u

-- `tri_tri`, with the crossings tried before its edge pairs
unfoldable pub triangle_triangle_by_rule2 : Triangle → Triangle → Witness
triangle_triangle_by_rule2 t u = triangle_triangle_from (foldl closer_of (infinitely_far t.a u.a) (triangle_crossings t u)) t u

-- ---- what an item of A offers with an item of B, in order

-- as by rule 1, but where a segment meets a triangle the crossing comes first, from the segment's own start to its end on either side, and two triangles are measured by `triangle_triangle_by_rule2`
unfoldable pub candidates_by_rule2 : Item → Item → List Witness
candidates_by_rule2 (point p) (point q) = candidates_of (point p) (point q)
candidates_by_rule2 (point p) (segment s e) = candidates_of (point p) (segment s e)
candidates_by_rule2 (point p) (triangle u) = candidates_of (point p) (triangle u)
candidates_by_rule2 (segment s e) (point q) = candidates_of (segment s e) (point q)
candidates_by_rule2 (segment s e) (segment u v) = candidates_of (segment s e) (segment u v)
candidates_by_rule2 (segment s e) (triangle u) = crossing s e u ++ candidates_of (segment s e) (triangle u)
candidates_by_rule2 (triangle t) (point q) = candidates_of (triangle t) (point q)
candidates_by_rule2 (triangle t) (segment s e) = crossing s e t ++ candidates_of (triangle t) (segment s e)
candidates_by_rule2 (triangle t) (triangle u) = triangle_triangle_by_rule2 t u ∷ []

-- The pair measures, operation by operation as in the Rust (document 01, Pair measures). Definitions only.
use Rattle.std.specs.Prelude.{Bool, false, cond, ◌&&◌, negsuc, Float, None, Some}
use Rattle.std.specs.declared.option.Option.{Option}
use Rattle.std.specs.Float.{inf, fin, binary64}
use Rattle.std.specs.Float.Ieee.{add, sub, mul, div, neg, lt, le, eq, ne}
use Rattle.ieee754.specs.MinMax.{clamp_of, positive_zero, one}
use Rattle.primitives.specs.declared.Point.{Point}
use Rattle.primitives.specs.declared.Witness.{Witness}
use Rattle.primitives.specs.Vectors.{difference_of, dot_of, cross_of, interpolated_of, squared_distance}
use Rattle.primitives.specs.Witnesses.{witness_of, between_of, smaller_of, flipped_of}
use Rattle.measures.specs.declared.Parameters.{Parameters}
use Rattle.measures.specs.declared.Triangle.{Triangle}

-- ---- a point and a segment (Rust: pt_seg)

-- where the foot of the perpendicular from p lies on the segment a b, clamped to 0..1; 0 where the squared length is exactly 0
unfoldable pub foot_parameter : Point → Point → Point → Float
foot_parameter p a b =
    cond (eq (squared_distance b a) positive_zero) positive_zero
    (clamp_of (div binary64 (dot_of (difference_of p a) (difference_of b a)) (squared_distance b a)))

-- the point, and the point of the segment at that parameter
unfoldable pub point_segment : Point → Point → Point → Witness
point_segment p a b = between_of p (interpolated_of a b (foot_parameter p a b))

-- ---- two segments, p1 q1 and p2 q2 (Rust: seg_seg), with d1 = q1 - p1, d2 = q2 - p2, r = p1 - p2 and
-- ---- a = d1·d1, b = d1·d2, c = d1·r, e = d2·d2, f = d2·r

-- 2^-52
abbrev pub epsilon : Float
epsilon = fin false 1 (negsuc 51)

-- a × e - b × b
abbrev pub determinant : Float → Float → Float → Float
determinant a b e = sub binary64 (mul binary64 a e) (mul binary64 b b)

-- the parameter s of the first segment, clamped; 0 where the determinant is 0
unfoldable pub first_parameter : Float → Float → Float → Float → Float → Float
first_parameter a b c e f =
    cond (ne (determinant a b e) positive_zero)
    (clamp_of (div binary64 (sub binary64 (mul binary64 b f) (mul binary64 c e)) (determinant a b e)))
    positive_zero

-- the parameter t of the second segment that goes with s
abbrev pub second_parameter : Float → Float → Float → Float → Float
second_parameter b e f s = div binary64 (add binary64 (mul binary64 b s) f) e

-- a t outside 0..1 becomes 0 or 1, and s is solved again for it
unfoldable pub within_second : Float → Float → Float → Float → Float → Parameters
within_second a b c s t =
    cond (lt t positive_zero) (record { s = clamp_of (div binary64 (neg c) a); t = positive_zero })
    (cond (lt one t) (record { s = clamp_of (div binary64 (sub binary64 b c) a); t = one })
    (record { s = s; t = t }))

-- both parameters, s first
unfoldable pub parameters_of : Float → Float → Float → Float → Float → Parameters
parameters_of a b c e f = within_second a b c (first_parameter a b c e f) (second_parameter b e f (first_parameter a b c e f))

-- the parameters of two segments by d1, d2, r
unfoldable pub nearest_parameters : Point → Point → Point → Parameters
nearest_parameters d1 d2 r = parameters_of (dot_of d1 d1) (dot_of d1 d2) (dot_of d1 r) (dot_of d2 d2) (dot_of d2 r)

-- the witness of the points at two parameters
unfoldable pub at_parameters : Point → Point → Point → Point → Parameters → Witness
at_parameters p1 q1 p2 q2 k = between_of (interpolated_of p1 q1 k.s) (interpolated_of p2 q2 k.t)

-- two segments, neither of which is taken as a point
unfoldable pub long_segments : Point → Point → Point → Point → Witness
long_segments p1 q1 p2 q2 =
    at_parameters p1 q1 p2 q2 (nearest_parameters (difference_of q1 p1) (difference_of q2 p2) (difference_of p1 p2))

-- a squared length of at most 2^-52 is taken as a point
unfoldable pub segment_segment : Point → Point → Point → Point → Witness
segment_segment p1 q1 p2 q2 =
    cond (le (squared_distance q1 p1) epsilon)
    (cond (le (squared_distance q2 p2) epsilon) (between_of p1 p2) (point_segment p1 p2 q2))
    (cond (le (squared_distance q2 p2) epsilon) (flipped_of (point_segment p2 p1 q1)) (long_segments p1 q1 p2 q2))

-- ---- a point and a filled triangle (Rust: pt_tri)

-- the normal of a triangle
unfoldable pub normal_of : Triangle → Point
normal_of t = cross_of (difference_of t.b t.a) (difference_of t.c t.a)

-- p - k × n, per axis
unfoldable pub back_along : Point → Point → Float → Point
back_along p n k =
    record {
      x = sub binary64 p.x (mul binary64 k n.x);
      y = sub binary64 p.y (mul binary64 k n.y);
      z = sub binary64 p.z (mul binary64 k n.z);
    }

-- the foot of the perpendicular from p to the plane through a with the normal n
unfoldable pub foot_of : Point → Point → Point → Point
foot_of p a n = back_along p n (div binary64 (dot_of (difference_of p a) n) (dot_of n n))

-- the foot lies on the inner side of the edge from u to v, or on it
unfoldable pub inner_side : Point → Point → Point → Point → Bool
inner_side u v foot n = le positive_zero (dot_of (cross_of (difference_of v u) (difference_of foot u)) n)

-- on the inner side of all three edges
unfoldable pub inside_triangle : Triangle → Point → Point → Bool
inside_triangle t foot n = inner_side t.a t.b foot n && (inner_side t.b t.c foot n && inner_side t.c t.a foot n)

-- the nearest of the three edges, the first of equals; a first one of distance NaN stays
unfoldable pub point_edges : Point → Triangle → Witness
point_edges p t = smaller_of (smaller_of (point_segment p t.a t.b) (point_segment p t.b t.c)) (point_segment p t.c t.a)

-- the squared length of the normal is above 0, and the foot lies inside
unfoldable pub foot_inside : Point → Triangle → Point → Bool
foot_inside p t n = lt positive_zero (dot_of n n) && inside_triangle t (foot_of p t.a n) n

-- that foot; none where it does not lie inside
unfoldable pub inner_foot : Point → Triangle → Option Point
inner_foot p t = cond (foot_inside p t (normal_of t)) (Some (foot_of p t.a (normal_of t))) None

-- the foot where it lies inside, else the nearest edge
unfoldable pub point_triangle : Point → Triangle → Witness
point_triangle p t = cond (foot_inside p t (normal_of t)) (between_of p (foot_of p t.a (normal_of t))) (point_edges p t)

-- ---- two filled triangles (Rust: tri_tri)

-- best, or the smaller of it and the next; a best of distance 0 is kept
unfoldable pub closer_of : Witness → Witness → Witness
closer_of best next = cond (eq best.d positive_zero) best (smaller_of best next)

-- the segment p q against the edges of t
unfoldable pub segment_edges : Witness → Point → Point → Triangle → Witness
segment_edges best p q t =
    closer_of (closer_of (closer_of best (segment_segment p q t.a t.b)) (segment_segment p q t.b t.c)) (segment_segment p q t.c t.a)

-- +infinity, with the first vertices as its points
unfoldable pub infinitely_far : Point → Point → Witness
infinitely_far a d = witness_of (inf false) a d

-- each edge of t against each of u
unfoldable pub edge_pairs : Triangle → Triangle → Witness
edge_pairs t u =
    segment_edges (segment_edges (segment_edges (infinitely_far t.a u.a) t.a t.b u) t.b t.c u) t.c t.a u

-- each vertex of t against u
unfoldable pub first_vertices : Witness → Triangle → Triangle → Witness
first_vertices best t u =
    smaller_of (smaller_of (smaller_of best (point_triangle t.a u)) (point_triangle t.b u)) (point_triangle t.c u)

-- each vertex of u against t, points in the order of the sides
unfoldable pub second_vertices : Witness → Triangle → Triangle → Witness
second_vertices best t u =
    smaller_of
    (smaller_of (smaller_of best (flipped_of (point_triangle u.a t))) (flipped_of (point_triangle u.b t)))
    (flipped_of (point_triangle u.c t))

-- edge pairs first, then vertices unless the distance is 0 already. Where every candidate's distance is NaN or +infinity,
-- it stays +infinity at the first vertices
unfoldable pub triangle_triangle : Triangle → Triangle → Witness
triangle_triangle t u =
    cond (eq (edge_pairs t u).d positive_zero) (edge_pairs t u) (second_vertices (first_vertices (edge_pairs t u) t u) t u)

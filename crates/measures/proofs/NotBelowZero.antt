-- The distance of a candidate is a root or +infinity: a value of binary64 that is never below 0. Assumes nothing.
use mathlib.Core.Bool.{Bool, true, false, cond}
use lib.Dec.{T}
use lib.Ieee.{inf, binary64, lt, le, eq, fits}
use Rattle.ieee754.specs.MinMax.{positive_zero}
use Rattle.ieee754.proofs.RootLaws.{root_fits}
use Rattle.ieee754.proofs.NotBelowZero.{NotBelow, clear_not_below, root_not_below}
use Rattle.ieee754.proofs.SumsAndSquares.{sum_of_squares_fits}
use Rattle.primitives.specs.declared.Point.{Point}
use Rattle.primitives.specs.declared.Witness.{Witness}
use Rattle.measures.specs.declared.Triangle.{Triangle}
use Rattle.primitives.specs.Vectors.{squared_distance, dot_of}
use Rattle.primitives.specs.Witnesses.{witness_of, between_of, smaller_of, flipped_of}
use Rattle.measures.specs.Measures.{epsilon, point_segment, at_parameters, long_segments, segment_segment, normal_of, foot_of, foot_inside, point_edges, point_triangle, closer_of, segment_edges, infinitely_far, edge_pairs, first_vertices, second_vertices, triangle_triangle}

-- ---- witnesses
-- a witness whose distance is a value of binary64 and not below 0
pub record Distant (w : Witness) : Type 0 where
  pub distance : NotBelow w.d
  pub fit : T (fits binary64 w.d)

either : (b : Bool) (w v : Witness) → Distant w → Distant v → Distant (cond b w v)
either true w v p q = p
either false w v p q = q

smaller : (w v : Witness) → Distant w → Distant v → Distant (smaller_of w v)
unfolding smaller_of
smaller w v p q = either (lt v.d w.d) v w q p

closer : (w v : Witness) → Distant w → Distant v → Distant (closer_of w v)
unfolding closer_of
closer w v p q = either (eq w.d positive_zero) w (smaller_of w v) p (smaller w v p q)

pub flipped : (w : Witness) → Distant w → Distant (flipped_of w)
unfolding flipped_of witness_of
flipped w p = record { distance = p.distance; fit = p.fit }

pub between : (a b : Point) → Distant (between_of a b)
unfolding between_of witness_of
between a b =
    let f : T (fits binary64 (squared_distance a b)) = unfold squared_distance dot_of in sum_of_squares_fits _ _ _ in
    record { distance = root_not_below (squared_distance a b) f; fit = root_fits (squared_distance a b) f }

pub infinite : (a b : Point) → Distant (infinitely_far a b)
unfolding infinitely_far witness_of
infinite a b = record { distance = clear_not_below (inf false) tt; fit = unfold fits in tt }

-- ---- measures
pub point_segment_lem : (p a b : Point) → Distant (point_segment p a b)
unfolding point_segment
point_segment_lem p a b = between _ _

long_segments_lem : (p q u v : Point) → Distant (long_segments p q u v)
unfolding long_segments at_parameters
long_segments_lem p q u v = between _ _

pub segment_segment_lem : (p q u v : Point) → Distant (segment_segment p q u v)
unfolding segment_segment
segment_segment_lem p q u v =
    either (le (squared_distance q p) epsilon) _ _
    (either (le (squared_distance v u) epsilon) _ _ (between p u) (point_segment_lem p u v))
    (either (le (squared_distance v u) epsilon) _ _ (flipped _ (point_segment_lem u p q)) (long_segments_lem p q u v))

pub point_triangle_lem : (p : Point) (t : Triangle) → Distant (point_triangle p t)
unfolding point_triangle point_edges
point_triangle_lem p t =
    either (foot_inside p t (normal_of t)) _ _ (between p (foot_of p t.a (normal_of t)))
    (smaller _ _ (smaller _ _ (point_segment_lem p t.a t.b) (point_segment_lem p t.b t.c)) (point_segment_lem p t.c t.a))

segment_edges_lem : (w : Witness) (p q : Point) (t : Triangle) → Distant w → Distant (segment_edges w p q t)
unfolding segment_edges
segment_edges_lem w p q t h =
    closer _ _ (closer _ _ (closer _ _ h (segment_segment_lem p q t.a t.b)) (segment_segment_lem p q t.b t.c)) (segment_segment_lem p q t.c t.a)

edge_pairs_lem : (t u : Triangle) → Distant (edge_pairs t u)
unfolding edge_pairs
edge_pairs_lem t u =
    segment_edges_lem _ t.c t.a u (segment_edges_lem _ t.b t.c u (segment_edges_lem _ t.a t.b u (infinite t.a u.a)))

first_vertices_lem : (w : Witness) (t u : Triangle) → Distant w → Distant (first_vertices w t u)
unfolding first_vertices
first_vertices_lem w t u h =
    smaller _ _ (smaller _ _ (smaller _ _ h (point_triangle_lem t.a u)) (point_triangle_lem t.b u)) (point_triangle_lem t.c u)

second_vertices_lem : (w : Witness) (t u : Triangle) → Distant w → Distant (second_vertices w t u)
unfolding second_vertices
second_vertices_lem w t u h =
    smaller _ _
    (smaller _ _ (smaller _ _ h (flipped _ (point_triangle_lem u.a t))) (flipped _ (point_triangle_lem u.b t)))
    (flipped _ (point_triangle_lem u.c t))

pub triangle_triangle_lem : (t u : Triangle) → Distant (triangle_triangle t u)
unfolding triangle_triangle
triangle_triangle_lem t u =
    either (eq (edge_pairs t u).d positive_zero) _ _ (edge_pairs_lem t u)
    (second_vertices_lem _ t u (first_vertices_lem _ t u (edge_pairs_lem t u)))

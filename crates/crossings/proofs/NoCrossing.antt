-- Where there is no crossing, rule 2 is rule 1. Assumes nothing.
use mathlib.Core.Path.{◌≡◌, refl, ap}
use mathlib.Core.List.{[], ◌∷◌}
use Rattle.primitives.specs.declared.Point.{Point}
use Rattle.primitives.specs.declared.Witness.{Witness}
use Rattle.measures.specs.declared.Triangle.{Triangle}
use Rattle.measures.specs.Measures.{infinitely_far, edge_pairs, triangle_triangle}
use Rattle.items.specs.declared.Item.{Item}
use Rattle.items.specs.declared.Item.TheVariants.{Point as point, Segment as segment, Triangle as triangle}
use Rattle.items.specs.Candidates.{candidates_of}
use Rattle.items.proofs.WithoutTriangles.{NoTriangle}
use Rattle.crossings.specs.Crossings.{triangle_crossings, triangle_triangle_from, triangle_triangle_by_rule2, candidates_by_rule2}
use Rattle.crossings.specs.InnerCrossings.{crossings_of}

-- ---- two triangles

pub rule_1_from_infinity : (t u : Triangle) → triangle_triangle_from (infinitely_far t.a u.a) t u ≡ triangle_triangle t u
unfolding triangle_triangle_from triangle_triangle edge_pairs
rule_1_from_infinity t u = refl

pub triangles_without_crossing : (t u : Triangle) → triangle_crossings t u ≡ [] → triangle_triangle_by_rule2 t u ≡ triangle_triangle t u
unfolding triangle_triangle_by_rule2
triangles_without_crossing t u h = rw h (rule_1_from_infinity t u)

-- ---- two items

pub no_crossing_rule_1 : (o i : Item) → crossings_of o i ≡ [] → candidates_by_rule2 o i ≡ candidates_of o i
unfolding crossings_of candidates_by_rule2
no_crossing_rule_1 (point p) (point q) h = refl
no_crossing_rule_1 (point p) (segment s e) h = refl
no_crossing_rule_1 (point p) (triangle t) h = refl
no_crossing_rule_1 (segment s e) (point q) h = refl
no_crossing_rule_1 (segment s e) (segment u v) h = refl
no_crossing_rule_1 (segment s e) (triangle t) h = rw h
no_crossing_rule_1 (triangle t) (point q) h = refl
no_crossing_rule_1 (triangle t) (segment s e) h = rw h
no_crossing_rule_1 (triangle t) (triangle u) h = unfold candidates_of in ap (λ (w : Witness). w ∷ []) (triangles_without_crossing t u h)

-- a crossing needs a triangle
pub no_triangle_no_crossing : (o i : Item) → NoTriangle o → NoTriangle i → candidates_by_rule2 o i ≡ candidates_of o i
unfolding crossings_of
no_triangle_no_crossing (point p) i g h = no_crossing_rule_1 (point p) i refl
no_triangle_no_crossing (segment s e) (point q) g h = no_crossing_rule_1 (segment s e) (point q) refl
no_triangle_no_crossing (segment s e) (segment u v) g h = no_crossing_rule_1 (segment s e) (segment u v) refl
no_triangle_no_crossing (segment s e) (triangle t) g h = absurd h
no_triangle_no_crossing (triangle t) i g h = absurd g

-- and a point crosses nothing, on either side
pub point_crosses_nothing : (p : Point) (i : Item) → candidates_by_rule2 (point p) i ≡ candidates_of (point p) i
unfolding crossings_of
point_crosses_nothing p i = no_crossing_rule_1 (point p) i refl

pub nothing_crosses_a_point : (o : Item) (q : Point) → candidates_by_rule2 o (point q) ≡ candidates_of o (point q)
unfolding crossings_of
nothing_crosses_a_point (point p) q = no_crossing_rule_1 (point p) (point q) refl
nothing_crosses_a_point (segment s e) q = no_crossing_rule_1 (segment s e) (point q) refl
nothing_crosses_a_point (triangle t) q = no_crossing_rule_1 (triangle t) (point q) refl

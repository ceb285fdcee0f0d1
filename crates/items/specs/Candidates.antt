-- The witnesses that an item of A offers with an item of B, in order (document 01, Closest sweep; Rust: closest_inner). Definitions only.
use Rattle.std.specs.Prelude.{List, [], ◌∷◌}
use Rattle.primitives.specs.declared.Witness.{Witness}
use Rattle.primitives.specs.Witnesses.{between_of, flipped_of}
use Rattle.measures.specs.Measures.{point_segment, segment_segment, point_triangle, triangle_triangle}
use Rattle.items.specs.declared.Item.{Item}
use Rattle.items.specs.declared.Item.TheVariants.{Point as point, Segment as segment, Triangle as triangle}

-- a segment against a triangle: its two ends, then the three edges
unfoldable pub candidates_of : Item → Item → List Witness
candidates_of (point p) (point q) = between_of p q ∷ []
candidates_of (point p) (segment s e) = point_segment p s e ∷ []
candidates_of (point p) (triangle t) = point_triangle p t ∷ []
candidates_of (segment s e) (point q) = flipped_of (point_segment q s e) ∷ []
candidates_of (segment s e) (segment u v) = segment_segment s e u v ∷ []
candidates_of (segment s e) (triangle t) =
    point_triangle s t
    ∷ point_triangle e t
    ∷ segment_segment s e t.a t.b
    ∷ segment_segment s e t.b t.c
    ∷ segment_segment s e t.c t.a
    ∷ []
candidates_of (triangle t) (point q) = flipped_of (point_triangle q t) ∷ []
candidates_of (triangle t) (segment s e) =
    flipped_of (point_triangle s t)
    ∷ flipped_of (point_triangle e t)
    ∷ segment_segment t.a t.b s e
    ∷ segment_segment t.b t.c s e
    ∷ segment_segment t.c t.a s e
    ∷ []
candidates_of (triangle t) (triangle u) = triangle_triangle t u ∷ []

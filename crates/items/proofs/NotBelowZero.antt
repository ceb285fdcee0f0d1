-- The distance of a candidate is a value of binary64 that is never below 0. Assumes nothing.
use Rattle.extremes.proofs.Lists.{Each}
use Rattle.measures.proofs.NotBelowZero.{Distant, between, flipped, point_segment_lem, segment_segment_lem, point_triangle_lem, triangle_triangle_lem}
use Rattle.items.specs.declared.Item.{Item}
use Rattle.items.specs.declared.Item.TheVariants.{Point as point, Segment as segment, Triangle as triangle}
use Rattle.items.specs.Candidates.{candidates_of}

pub candidates_not_below : (i j : Item) → Each Distant (candidates_of i j)
unfolding candidates_of
candidates_not_below (point p) (point q) = (between p q, tt)
candidates_not_below (point p) (segment s e) = (point_segment_lem p s e, tt)
candidates_not_below (point p) (triangle t) = (point_triangle_lem p t, tt)
candidates_not_below (segment s e) (point q) = (flipped _ (point_segment_lem q s e), tt)
candidates_not_below (segment s e) (segment u v) = (segment_segment_lem s e u v, tt)
candidates_not_below (segment s e) (triangle t) = (
  point_triangle_lem s t,
  (point_triangle_lem e t, (segment_segment_lem s e t.a t.b, (segment_segment_lem s e t.b t.c, (segment_segment_lem s e t.c t.a, tt)))),
)
candidates_not_below (triangle t) (point q) = (flipped _ (point_triangle_lem q t), tt)
candidates_not_below (triangle t) (segment s e) = (
  flipped _ (point_triangle_lem s t),
  (
    flipped _ (point_triangle_lem e t),
    (segment_segment_lem t.a t.b s e, (segment_segment_lem t.b t.c s e, (segment_segment_lem t.c t.a s e, tt))),
  ),
)
candidates_not_below (triangle t) (triangle u) = (triangle_triangle_lem t u, tt)

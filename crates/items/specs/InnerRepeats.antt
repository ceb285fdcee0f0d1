-- Witnesses that an item of a run hands on to the next: where it was measured with an item of the other side, not skipped, they are settled there. Serves inner contracts. Definitions only.
use Rattle.std.specs.Prelude.{ℕ, ◌+◌, ◌<◌, ◌≡◌, true, List, [], ◌∷◌, length, get_or}
use Rattle.std.specs.declared.option.Option.{Option}
use Rattle.primitives.specs.declared.Point.{Point}
use Rattle.primitives.specs.declared.Witness.{Witness}
use Rattle.primitives.specs.Witnesses.{flipped_of}
use Rattle.measures.specs.declared.Follows.{Follows}
use Rattle.measures.specs.Measures.{point_triangle}
use Rattle.measures.specs.InnerOffers.{AllSettled, shared_by_first, shared_by_second}
use Rattle.parts.specs.declared.Class.{Class}
use Rattle.items.specs.declared.Item.{Item}
use Rattle.items.specs.declared.Item.TheVariants.{Point as point, Segment as segment, Triangle as triangle}
use Rattle.items.specs.Inner.{items_by}

-- what an item of A leaves to the next of its run: the witness of a segment's end; those of a fan's first and last vertex, and of the edge from the last to the first, which the next has too only if it closes the ring
unfoldable pub first_after : Item → Item → List Witness
first_after (point p) i = []
first_after (segment s e) (point q) = []
first_after (segment s e) (segment u v) = []
first_after (segment s e) (triangle u) = point_triangle e u ∷ []
first_after (triangle t) (point q) = []
first_after (triangle t) (segment s e) = []
first_after (triangle t) (triangle u) = shared_by_first t.a t.c u

-- the same of the item before: of a segment's start; of a triangle's first two vertices, and of the edge b a, which is its own edge b c where c is a
unfoldable pub first_before : Item → Item → List Witness
first_before (point p) i = []
first_before (segment s e) (point q) = []
first_before (segment s e) (segment u v) = []
first_before (segment s e) (triangle u) = point_triangle s u ∷ []
first_before (triangle t) (point q) = []
first_before (triangle t) (segment s e) = []
first_before (triangle t) (triangle u) = shared_by_first t.a t.b u

-- what an item of B leaves to the next of its run
unfoldable pub second_after : Item → Item → List Witness
second_after (point p) i = []
second_after (segment s e) i = []
second_after (triangle t) (point q) = []
second_after (triangle t) (segment s e) = flipped_of (point_triangle e t) ∷ []
second_after (triangle t) (triangle u) = shared_by_second t u.a u.c

-- the same of the item before
unfoldable pub second_before : Item → Item → List Witness
second_before (point p) i = []
second_before (segment s e) i = []
second_before (triangle t) (point q) = []
second_before (triangle t) (segment s e) = flipped_of (point_triangle s t) ∷ []
second_before (triangle t) (triangle u) = shared_by_second t u.a u.b

-- of the items of a class that a run's points give, one comes right after the other
pub record NextOfRun (before next : Item) : Type 0 where
  pub class : Class
  pub points : List Point
  pub at : ℕ
  pub within : at + 1 < length (items_by class points)
  pub here : get_or (items_by class points) at before ≡ before
  pub after : get_or (items_by class points) (at + 1) next ≡ next

-- at that best, what a, or b, has of the item before it changes nothing, where it follows a measured one
pub record HandsOn (a b : Item) (follows : Follows) (best : Option Witness) : Type 0 where
  pub first : follows.first ≡ true → AllSettled best (first_before a b)
  pub second : follows.second ≡ true → AllSettled best (second_before a b)

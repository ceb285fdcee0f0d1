-- What the closest sweep pairs off: points, segments and triangles (document 01, Parts, Pair measures, Closest sweep). Definitions only.
use mathlib.Core.List.{List, [], ◌∷◌, ◌++◌, map, foldl}
use Rattle.std.specs.declared.option.Option.{Option}
use Rattle.std.specs.Prelude.{None, Some}
use Rattle.coords.specs.Parts.{Run, is_point, is_line, is_face, segments_by}
use Rattle.primitives.specs.declared.Point.{Point}
use Rattle.primitives.specs.declared.Aabb.{Aabb}
use Rattle.primitives.specs.Boxes.{box_of_point, union_of}
-- the items of the runs of a kind: what these runs come to
unfoldable pub use Rattle.coords.specs.Parts.{of_kind as items_of_kind}
use Rattle.items.specs.declared.Item.{Item}
use Rattle.items.specs.declared.Item.TheVariants.{Point as point, Segment as segment, Triangle as triangle}

-- a triangle by its corners
abbrev pub fan : Point → Point → Point → Item
fan a b c = triangle (record { a = a; b = b; c = c })

-- ---- the items of a run (document 01, Parts)

-- a point run gives points
unfoldable pub point_items : List Point → List Item
point_items ps = map point ps

-- a line run gives its segments
unfoldable pub segment_items : List Point → List Item
segment_items ps = segments_by segment ps

-- a face fans from its first vertex, a triangle for each segment of the others; under 3 vertices there is none (document 01, Pair measures)
unfoldable pub triangle_items : List Point → List Item
triangle_items [] = []
triangle_items (a ∷ ps) = segments_by (fan a) ps

-- ---- the items of all runs (document 01, Closest sweep)

-- points, segments, triangles
unfoldable pub items_of : List (Run Point) → List Item
items_of rs = items_of_kind is_point point_items rs ++ (items_of_kind is_line segment_items rs ++ items_of_kind is_face triangle_items rs)

-- ---- boxes

-- the box of an item (Rust: Boxed::new)
unfoldable pub box_of_item : Item → Aabb
box_of_item (point p) = box_of_point p
box_of_item (segment a b) = union_of (box_of_point a) (box_of_point b)
box_of_item (triangle t) = union_of (union_of (box_of_point t.a) (box_of_point t.b)) (box_of_point t.c)

-- the box of the items so far, with one more in it
unfoldable pub unite_item : Option Aabb → Item → Option Aabb
unite_item None i = Some (box_of_item i)
unite_item (Some box) i = Some (union_of box (box_of_item i))

-- the box of all items; none if there is no item (document 01, Closest sweep: all of B)
unfoldable pub box_of_items : List Item → Option Aabb
box_of_items is = foldl unite_item None is

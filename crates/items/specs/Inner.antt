-- The items of a class, and what a walk over items has left. Serves inner contracts. Definitions only.
use Rattle.std.specs.Prelude.{List, [], ◌++◌}
use Rattle.primitives.specs.declared.Point.{Point}
use Rattle.coords.specs.Parts.{Run, segments_by}
use Rattle.parts.specs.Stored.{stored_runs}
use Rattle.parts.specs.Slices.{points_in}
use Rattle.parts.specs.Classes.{is_of}
use Rattle.parts.specs.declared.Class.{Class}
use Rattle.parts.specs.declared.Class.TheVariants.{Points, Lines, Faces}
use Rattle.items.specs.declared.walk.ClassItems.{ClassItems}
use Rattle.items.specs.declared.walk.Items.{Items}
use Rattle.items.specs.declared.walk.LaterRuns.{LaterRuns}
use Rattle.items.specs.declared.Item.{Item}
use Rattle.items.specs.Items.{fan, point_items, segment_items, triangle_items, items_of_kind}

-- the items of a class that a run of it gives
abbrev pub items_by : Class → List Point → List Item
items_by Points ps = point_items ps
items_by Lines ps = segment_items ps
items_by Faces ps = triangle_items ps

-- the items of a class in all runs
abbrev pub class_items : Class → List (Run Point) → List Item
class_items class rs = items_of_kind (is_of class) (items_by class) rs

-- ---- what a walk has left

-- of a run of the class, from its first point that is left on; a face's triangles fan from its hub
unfoldable pub run_items_left : Class → Point → List Point → List Item
run_items_left Points hub ps = point_items ps
run_items_left Lines hub ps = segment_items ps
run_items_left Faces hub ps = segments_by (fan hub) ps

abbrev pub run_left : ClassItems → List Item
run_left s = run_items_left s.class s.hub (points_in s.points.now)

-- the runs after it, and their items of the class
abbrev pub runs_left : ClassItems → List (Run Point)
runs_left s = stored_runs s.table.now s.floats.now

abbrev pub later_run_items : ClassItems → List Item
later_run_items s = class_items s.class (runs_left s)

-- of a class
unfoldable pub class_items_left : ClassItems → List Item
class_items_left s = run_left s ++ later_run_items s

-- the runs of a side from its first of a class on
abbrev pub runs_from : LaterRuns → List (Run Point)
runs_from s = stored_runs s.table.now s.floats.now

-- of the classes after a class, by the runs that have the lines and those that have the faces
unfoldable pub later_class_items : Class → List (Run Point) → List (Run Point) → List Item
later_class_items Points ls fs = class_items Lines ls ++ class_items Faces fs
later_class_items Lines ls fs = class_items Faces fs
later_class_items Faces ls fs = []

-- of all classes
unfoldable pub items_left : Items → List Item
items_left s = class_items_left s.left ++ later_class_items s.left.class (runs_from s.lines) (runs_from s.faces)

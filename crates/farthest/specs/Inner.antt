-- The vertices in the order in which they are walked, and the sweep over them. Serves inner contracts. Definitions only.
use Rattle.std.specs.Prelude.{ℕ, Bool, cond, ◌&&◌, leb, length}
use mathlib.Core.List.{List, [], ◌∷◌, ◌++◌, foldl}
use Rattle.std.specs.declared.option.Option.{Option}
use Rattle.std.specs.Float.{nan}
use Rattle.coords.specs.Parts.{Run, run, is_point, is_line, is_face}
use Rattle.parts.specs.declared.Class.{Class}
use Rattle.parts.specs.declared.Class.TheVariants.{Points, Lines, Faces}
use Rattle.primitives.specs.declared.Point.{Point}
use Rattle.primitives.specs.declared.Witness.{Witness}
use Rattle.primitives.specs.declared.Aabb.{Aabb}
use Rattle.primitives.specs.Boxes.{add_point}
use Rattle.extremes.specs.Sweeps.{skipping}
use Rattle.extremes.specs.Farthest.{no_farther, farthest_from}

-- ---- vertices, each once

-- whether a run's coordinates are vertices of a class; a line of one coordinate has none
unfoldable pub has_vertices : Class → ℕ → ℕ → Bool
has_vertices Points kind count = is_point kind
has_vertices Lines kind count = is_line kind && leb 2 count
has_vertices Faces kind count = is_face kind

-- the vertices of one class, those of a line once each
unfoldable pub class_vertices : {A : Type 0} → Class → List (Run A) → List A
class_vertices class [] = []
class_vertices class (run kind cs ∷ rs) = cond (has_vertices class kind (length cs)) cs [] ++ class_vertices class rs

-- points, then lines, then faces
unfoldable pub vertices_once : {A : Type 0} → List (Run A) → List A
vertices_once rs = class_vertices Points rs ++ (class_vertices Lines rs ++ class_vertices Faces rs)

-- the same run by run: the runs of one class
unfoldable pub class_runs : {A : Type 0} → Class → List (Run A) → List (List A)
class_runs class [] = []
class_runs class (run kind cs ∷ rs) = cond (has_vertices class kind (length cs)) (cs ∷ class_runs class rs) (class_runs class rs)

-- and those of points, then lines, then faces
unfoldable pub runs_once : {A : Type 0} → List (Run A) → List (List A)
runs_once rs = class_runs Points rs ++ (class_runs Lines rs ++ class_runs Faces rs)

-- ---- boxes

-- the box of no point: a NaN is dropped by minimum and maximum
unfoldable pub empty_box : Aabb
empty_box = let p : Point = record { x = nan; y = nan; z = nan } in record { lo = p; hi = p }

-- a box with points added in order (document 01, Witness and boxes)
unfoldable pub box_with : Aabb → List Point → Aabb
box_with box ps = foldl add_point box ps

-- ---- the sweep

-- vertices of side 1 in order against those of side 2, from a pair on (document 01, Farthest sweep)
unfoldable pub swept : Aabb → List Point → Option Witness → List Point → Option Witness
swept box rs pair ls = skipping (no_farther box) (farthest_from rs) pair ls

-- the whole sweep from a pair on, each vertex once, the box of no point being the box of NaNs
unfoldable pub swept_once : Option Witness → List (Run Point) → List (Run Point) → Option Witness
swept_once start ls rs = swept (box_with empty_box (vertices_once rs)) (vertices_once rs) start (vertices_once ls)

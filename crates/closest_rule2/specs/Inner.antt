-- An item against a side by rule 2, and whether a side has a face. Serves inner contracts. Definitions only.
use Rattle.std.specs.Prelude.{ℕ, Bool, false, ◌||◌, cond, List, [], ◌∷◌}
use Rattle.std.specs.declared.option.Option.{Option}
use Rattle.primitives.specs.declared.Point.{Point}
use Rattle.primitives.specs.declared.Witness.{Witness}
use Rattle.primitives.specs.declared.Aabb.{Aabb}
use Rattle.primitives.specs.Boxes.{least_squared_gap}
use Rattle.extremes.specs.ClosestSweep.{no_closer}
use Rattle.coords.specs.Parts.{Run, run, is_face}
use Rattle.items.specs.declared.Item.{Item}
use Rattle.items.specs.Items.{box_of_item}
use Rattle.crossings.specs.Closest.{with_each_by_rule2}

-- the best after an item of side 1 has met all of side 2, whose box is given
abbrev pub met_by_rule2 : Aabb → List Item → Option Witness → Item → Option Witness
met_by_rule2 all rs best a = cond (no_closer best (least_squared_gap (box_of_item a) all)) best (with_each_by_rule2 a best rs)

-- whether one of the runs is a face
unfoldable pub has_face : List (Run Point) → Bool
has_face [] = false
has_face (run kind ps ∷ rs) = is_face kind || has_face rs

-- the same of a table of runs, kind and count for each, whatever points they have
unfoldable pub table_has_face : List ℕ → Bool
table_has_face [] = false
table_has_face (kind ∷ []) = false
table_has_face (kind ∷ count ∷ table) = is_face kind || table_has_face table

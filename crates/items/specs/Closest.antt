-- The closest sweep over points, segments and triangles (document 01, Closest sweep; Rust: closest_inner). Definitions only.
use Rattle.std.specs.Prelude.{List}
use Rattle.std.specs.declared.option.Option.{Option}
use Rattle.std.specs.Prelude.{None, Some}
use Rattle.primitives.specs.declared.Witness.{Witness}
use Rattle.primitives.specs.declared.Aabb.{Aabb}
use Rattle.extremes.specs.ClosestSweep.{offering, with_each_by, sweep_by}
use Rattle.items.specs.declared.Item.{Item}
use Rattle.items.specs.Items.{box_of_item, box_of_items}
use Rattle.items.specs.Candidates.{candidates_of}

-- two items: their candidates in order
unfoldable pub with_item : Item → Option Witness → Item → Option Witness
with_item = offering candidates_of

-- an item of A with each item of B
unfoldable pub with_each : Item → Option Witness → List Item → Option Witness
with_each = with_each_by box_of_item with_item

-- each item of A with all of B, whose box is given
unfoldable pub sweep_of : Aabb → List Item → Option Witness → List Item → Option Witness
sweep_of = sweep_by box_of_item with_each

-- the same, with the box of all of B; none where B has no item
unfoldable pub closest_within : Option Aabb → List Item → List Item → Option Witness
closest_within None ls rs = None
closest_within (Some all) ls rs = sweep_of all rs None ls

-- the closest pair of A's items with B's, as the sweep finds it; none where a side has no item
unfoldable pub closest_of : List Item → List Item → Option Witness
closest_of ls rs = closest_within (box_of_items rs) ls rs

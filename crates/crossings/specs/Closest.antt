-- The closest sweep by pair rule 2 (document 02, 3/13; document 01, Closest sweep). Definitions only.
use Rattle.std.specs.Prelude.{List}
use Rattle.std.specs.declared.option.Option.{Option}
use Rattle.std.specs.Prelude.{None, Some}
use Rattle.primitives.specs.declared.Witness.{Witness}
use Rattle.primitives.specs.declared.Aabb.{Aabb}
use Rattle.extremes.specs.ClosestSweep.{offering, with_each_by, sweep_by}
use Rattle.items.specs.declared.Item.{Item}
use Rattle.items.specs.Items.{box_of_item, box_of_items}
use Rattle.crossings.specs.Crossings.{candidates_by_rule2}

-- two items: their candidates in order
unfoldable pub with_item_by_rule2 : Item → Option Witness → Item → Option Witness
with_item_by_rule2 = offering candidates_by_rule2

-- an item of A with each item of B, unless it is skipped
unfoldable pub with_each_by_rule2 : Item → Option Witness → List Item → Option Witness
with_each_by_rule2 = with_each_by box_of_item with_item_by_rule2

-- each item of A, unless it is skipped, with all of B, whose box is given
unfoldable pub sweep_by_rule2 : Aabb → List Item → Option Witness → List Item → Option Witness
sweep_by_rule2 = sweep_by box_of_item with_each_by_rule2

-- the same, with the box of all of B; none where B has no item
unfoldable pub closest_within_by_rule2 : Option Aabb → List Item → List Item → Option Witness
closest_within_by_rule2 None ls rs = None
closest_within_by_rule2 (Some all) ls rs = sweep_by_rule2 all rs None ls

-- the closest pair of A's items with B's by rule 2, as the sweep finds it; none where a side has no item
unfoldable pub closest_by_rule2 : List Item → List Item → Option Witness
closest_by_rule2 ls rs = closest_within_by_rule2 (box_of_items rs) ls rs

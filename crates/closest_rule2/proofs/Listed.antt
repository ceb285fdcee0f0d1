-- The sweep by rule 2, by the box of side 2's items. Assumes nothing.
use mathlib.Core.Path.{◌≡◌}
use mathlib.Core.List.{List}
use Rattle.std.specs.Prelude.{None, Some}
use Rattle.primitives.specs.declared.Aabb.{Aabb}
use Rattle.items.specs.declared.Item.{Item}
use Rattle.items.specs.Items.{box_of_items}
use Rattle.crossings.specs.Closest.{sweep_by_rule2, closest_within_by_rule2, closest_by_rule2}

pub listed_some : (rs ls : List Item) (all : Aabb) → box_of_items rs ≡ Some all → closest_by_rule2 ls rs ≡ sweep_by_rule2 all rs None ls
unfolding closest_by_rule2 closest_within_by_rule2
listed_some rs ls all e = rw e

pub listed_nothing : (rs ls : List Item) → box_of_items rs ≡ None → closest_by_rule2 ls rs ≡ None
unfolding closest_by_rule2 closest_within_by_rule2
listed_nothing rs ls e = rw e

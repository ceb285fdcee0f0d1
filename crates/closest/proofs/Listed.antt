-- The sweep by the box of a listing. Assumes nothing.
use mathlib.Core.Path.{◌≡◌}
use mathlib.Core.List.{List}
use Rattle.std.specs.Prelude.{None, Some}
use Rattle.primitives.specs.declared.Aabb.{Aabb}
use Rattle.items.specs.declared.Item.{Item}
use Rattle.items.specs.Items.{box_of_items}
use Rattle.items.specs.Closest.{sweep_of, closest_within, closest_of}

pub listed_some : (rs ls : List Item) (all : Aabb) → box_of_items rs ≡ Some all → closest_of ls rs ≡ sweep_of all rs None ls
unfolding closest_of closest_within
listed_some rs ls all e = rw e

pub listed_nothing : (rs ls : List Item) → box_of_items rs ≡ None → closest_of ls rs ≡ None
unfolding closest_of closest_within
listed_nothing rs ls e = rw e

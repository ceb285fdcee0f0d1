-- `sweep_all` meets its contract. The loop's invariant: the items of side 1 that are left, from the present best pair on, give what all give. Assumes nothing.
use mathlib.Core.Path.{◌≡◌}
use Rattle.std.specs.Prelude.{None}
use Rattle.items.specs.Items.{items_of}
use Rattle.items.specs.Inner.{items_left}
use Rattle.crossings.specs.Closest.{sweep_by_rule2}
use Rattle.closest_rule2.proofs.sweep_all.Given as goal

abbrev pub invariant-loop-item : goal.invariant-loop-item
invariant-loop-item l = sweep_by_rule2 l.reach.all (items_left l.reach.items) l.best (items_left l.item-iterator) ≡ sweep_by_rule2 l.reach.all (items_left l.reach.items) None (items_of l.side)

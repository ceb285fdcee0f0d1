-- `visit` meets its contract. The loop's invariant: the items that are left, from the present best pair on, give what all give. Assumes nothing.
use mathlib.Core.Path.{◌≡◌}
use Rattle.items.specs.Inner.{items_left}
use Rattle.crossings.specs.Closest.{with_each_by_rule2}
use Rattle.closest_rule2.proofs.visit.Given as goal

abbrev pub invariant-loop-b : goal.invariant-loop-b
invariant-loop-b l = with_each_by_rule2 l.item l.best (items_left l.b-iterator) ≡ with_each_by_rule2 l.item l.initial.best (items_left l.reach.items)

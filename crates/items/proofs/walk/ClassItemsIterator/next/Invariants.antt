-- `next` meets its contract. The loop's invariant: what is left has the same items of the same class. Assumes nothing.
use mathlib.Core.Path.{◌≡◌}
use lib.ListN.{length}
use Rattle.items.specs.Inner.{runs_left, class_items_left}
use Rattle.items.proofs.walk.ClassItemsIterator.next.Given as goal

abbrev pub invariant-loop-item : goal.invariant-loop-item
invariant-loop-item l = (class_items_left l.self ≡ class_items_left l.initial.self) × (l.self.class ≡ l.initial.self.class)

abbrev pub decreases-loop-item : goal.decreases-loop-item
decreases-loop-item l = length (runs_left l.self)

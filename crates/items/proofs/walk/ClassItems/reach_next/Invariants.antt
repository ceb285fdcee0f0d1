-- `reach_next` meets its contract. The loop's invariant: what is left has the same items of the same class. Its measure: how many runs are left. Assumes nothing.
use mathlib.Core.Path.{◌≡◌}
use lib.ListN.{length}
use Rattle.items.specs.Inner.{runs_left, class_items_left}
use Rattle.items.proofs.walk.ClassItems.reach_next.Given as goal

abbrev pub invariant-loop-self : goal.invariant-loop-self
invariant-loop-self l = (class_items_left l.self ≡ class_items_left l.initial.self) × (l.self.class ≡ l.initial.self.class)

abbrev pub decreases-loop-self : goal.decreases-loop-self
decreases-loop-self l = length (runs_left l.self)

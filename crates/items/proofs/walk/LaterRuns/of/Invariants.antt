-- `of` meets its contract. The loop's invariant: the runs from here on have the items of the class. Assumes nothing.
use mathlib.Core.Path.{◌≡◌}
use Rattle.items.specs.Inner.{class_items}
use Rattle.items.proofs.walk.LaterRuns.of.Given as goal

abbrev pub invariant-loop-run : goal.invariant-loop-run
invariant-loop-run l = (class_items l.class l.runs ≡ class_items l.class l.side) × (l.left ≡ l.runs)

-- `of` meets its contract. The loop's invariant: the runs from here on have those of the class. Assumes nothing.
use mathlib.Core.Path.{◌≡◌}
use Rattle.farthest.specs.Inner.{class_runs}
use Rattle.farthest.proofs.ClassRuns.of.Given as goal

abbrev pub invariant-loop-run : goal.invariant-loop-run
invariant-loop-run l = (class_runs l.class l.runs ≡ class_runs l.class l.stored) × (l.left ≡ l.runs)

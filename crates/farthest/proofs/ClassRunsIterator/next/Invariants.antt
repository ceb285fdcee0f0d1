-- `next` meets its contract. The loop's invariant: what is left has the same runs of the class. Assumes nothing.
use mathlib.Core.Path.{◌≡◌}
use lib.ListN.{length}
use Rattle.farthest.specs.Inner.{class_runs}
use Rattle.farthest.proofs.ClassRunsIterator.next.Given as goal

abbrev pub invariant-loop-run : goal.invariant-loop-run
invariant-loop-run l = class_runs l.self-inside.class l.self-inside.runs ≡ class_runs l.initial.self-inside.class l.initial.self-inside.runs

abbrev pub decreases-loop-run : goal.decreases-loop-run
decreases-loop-run l = length l.self-inside.runs

-- `next_points` meets its contract. The loop's invariant: the runs that were taken, and those that are left, are those of the table. Assumes nothing.
use lib.ListN.{length}
use Rattle.parts.specs.Stretches.{is_with}
use Rattle.parts.proofs.Stretches.{Taken}
use Rattle.parts.proofs.Runs.next_points.Given as goal

abbrev pub invariant-loop-table : goal.invariant-loop-table
invariant-loop-table l = Taken (is_with l.class l.least) l.self-inside.table.now l.self-inside.floats.now l.table l.count

abbrev pub decreases-loop-table : goal.decreases-loop-table
decreases-loop-table l = length l.table

-- `next_points` meets its contract: what a turn of the loop takes. Assumes nothing.
use Rattle.std.proofs.Common.{rules, arith}
use Rattle.parts.proofs.Stretches.{run_taken}
use Rattle.parts.proofs.Runs.next_points.Goals as goal

pub loop-table-preserved : goal.loop-table-preserved
loop-table-preserved c = run_taken _ _ _ _ _ _ c.loop-table.invariant (omega arith) (search rules) (omega arith)

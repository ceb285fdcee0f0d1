-- `viskorrel::viskorrel_read` meets its contract. Assumes nothing.
use mathlib.Core.List.{[]}
use native.Mathlib.Omega.{arith}
use Rattle.operands.specs.Operands.{workspaces}
use Rattle.replies.proofs.ReadReply.{as_read, read_counts_fit}
use Rattle.viskorrel.proofs.viskorrel_read.Goals as goal

pub overflow_mul-read : goal.overflow_mul-read
overflow_mul-read c = let fits = read_counts_fit c.args.blob.now (workspaces c.args.floats.now c.args.table.now [] []) _ _ _ c.read_blob.ensures _ c.in-Ok.is in omega (arith, fits.0, fits.1)

pub overflow_mul-read-in-Ok : goal.overflow_mul-read-in-Ok
overflow_mul-read-in-Ok c = let fits = read_counts_fit c.args.blob.now (workspaces c.args.floats.now c.args.table.now [] []) _ _ _ c.read_blob.ensures _ c.in-Ok.is in omega (arith, fits.0, fits.1)

pub returns-in-Ok : goal.returns-in-Ok
returns-in-Ok c = record { whole_outcome = as_read c.args.blob.now (workspaces c.args.floats.now c.args.table.now [] []) _ _ _ c.read_blob.ensures _ (rw c.in-Ok.is c.answered.ensures) }

pub returns-in-Err : goal.returns-in-Err
returns-in-Err c = record { whole_outcome = as_read c.args.blob.now (workspaces c.args.floats.now c.args.table.now [] []) _ _ _ c.read_blob.ensures _ (rw c.in-Err.is c.into.ensures) }

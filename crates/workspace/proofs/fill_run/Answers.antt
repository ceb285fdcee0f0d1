-- `workspace::fill_run` writes its second number in the table. Assumes nothing.
use lib.ListN.{length, length-set}
use native.Mathlib.Omega.{arith}
use Rattle.workspace.proofs.Runs.{run_room}
use Rattle.workspace.proofs.fill_run.Goals as goal

pub bounds-table-k-2 : goal.bounds-table-k-2
bounds-table-k-2 c =
    let room = run_room c.args.h c.args.s.now c.args.n c.args.p.next c.args.p (length c.args.floats.now) (length c.args.table.now) c.if-count-eq0.false c.requires in
    simp length-set (omega (arith, room.1))

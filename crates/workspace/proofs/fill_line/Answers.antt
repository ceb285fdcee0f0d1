-- `workspace::fill_line` writes the run of its coordinates. Assumes nothing.
use Rattle.workspace.proofs.Runs.{line_filled}
use Rattle.workspace.proofs.fill_line.Goals as goal

pub returns : goal.returns
returns c = line_filled c.args.h c.args.s.now _ c.args.p _ _ _ _ _ c.u32_at-n.ensures c.requires c.fill_run.ensures

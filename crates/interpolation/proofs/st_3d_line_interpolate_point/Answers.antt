-- `st_3d_line_interpolate_point` meets its contract. Assumes nothing.
use mathlib.Core.Path.{sym, ◌∙◌}
use mathlib.Core.List.{[]}
use Rattle.std.proofs.lemmas.Result.{err_from_is_err_and}
use Rattle.operands.specs.Operands.{workspaces}
use Rattle.interpolation.proofs.Order.{is_accepted}
use Rattle.interpolation.proofs.Outcome.{outcome_refused, outcome_written}
use Rattle.interpolation.proofs.st_3d_line_interpolate_point.Goals as goal

pub returns-in_err-o : goal.returns-in_err-o
returns-in_err-o c =
    let p = err_from_is_err_and c.from_residual.result c.from_residual.ensures.1 in
    rw (p.1, p.2) (record { whole_outcome = outcome_refused c.args.s.now c.args.fraction (workspaces c.args.floats.now c.args.table.now [] []) _ _ (sym c.check.ensures ∙ c.in_err-o.was) })

pub read_point-p-requires : goal.read_point-p-requires
read_point-p-requires c = (is_accepted c.args.s.now c.args.fraction _ _ _ _ (sym c.check.ensures ∙ c.in_ok-o.was)).ready

pub write_point-requires : goal.write_point-requires
write_point-requires c = (is_accepted c.args.s.now c.args.fraction _ _ _ _ (sym c.check.ensures ∙ c.in_ok-o.was)).room_for_point

pub returns : goal.returns
returns c = record { whole_outcome = outcome_written c.args.s.now c.args.fraction (workspaces c.args.floats.now c.args.table.now [] []) _ _ (is_accepted c.args.s.now c.args.fraction _ _ _ _ (sym c.check.ensures ∙ c.in_ok-o.was)) _ _ _ c.read_point-p.ensures _ c.write_point.ensures }

-- `only_point` meets its contract. Assumes nothing.
use mathlib.Core.Path.{sym, ◌∙◌}
use Rattle.closest.proofs.OnePoint.{only_item}
use Rattle.closest.proofs.only_point.Goals as goal

pub returns-in-None : goal.returns-in-None
returns-in-None c =
    only_item _ _ _ _ _ (sym c.runs-runs.ensures ∙ c.in_ok-run.ensures.steps) c.in-None.ensures.steps.0 (sym c.is_of.ensures ∙ c.if-is_of.true) (sym c.len.ensures ∙ c.if-len-eq1.true) c.first.ensures

-- `threed_farthest::st_3d_dfully_within` meets its contract. Assumes nothing.
use mathlib.Core.Path.{ap, ◌∙◌}
use Rattle.outcomes.specs.Operations.{within_value, fully_within}
use Rattle.outcomes.specs.Inner.{decided_report}
use Rattle.outcomes.proofs.Answered.{told, swept_within}
use Rattle.threed_farthest.proofs.st_3d_dfully_within.Goals as goal

pub returns : goal.returns
unfolding fully_within
returns c = record { whole_outcome = told c.farthest_pair.ensures (within_value _) (c.within.ensures ∙ ap (decided_report _) c.from-answer.ensures ∙ swept_within _ _) }

-- `threed_closest::st_3d_dwithin` meets its contract. Assumes nothing.
use mathlib.Core.Path.{ap, ◌∙◌}
use Rattle.outcomes.specs.Operations.{within_value, within}
use Rattle.outcomes.specs.Inner.{decided_report}
use Rattle.outcomes.proofs.Answered.{told, swept_within}
use Rattle.threed_closest.proofs.st_3d_dwithin.Goals as goal

pub returns : goal.returns
unfolding within
returns c = record { whole_outcome = told c.closest_pair.ensures (within_value _) (c.within.ensures ∙ ap (decided_report _) c.from-answer.ensures ∙ swept_within _ _) }

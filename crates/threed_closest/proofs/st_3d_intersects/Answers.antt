-- `threed_closest::st_3d_intersects` meets its contract. Assumes nothing.
use mathlib.Core.Path.{ap, ◌∙◌}
use Rattle.outcomes.specs.Operations.{touching_value, intersects}
use Rattle.outcomes.specs.Inner.{decided_report}
use Rattle.outcomes.proofs.Answered.{told, swept_touching}
use Rattle.threed_closest.proofs.st_3d_intersects.Goals as goal

pub returns : goal.returns
unfolding intersects
returns c = record { whole_outcome = told c.closest_pair.ensures touching_value (c.touching.ensures ∙ ap (decided_report _) c.from-answer.ensures ∙ swept_touching _) }

-- `threed_closest::st_3d_distance` meets its contract. Assumes nothing.
use mathlib.Core.Path.{ap, ◌∙◌}
use Rattle.outcomes.specs.Answers.{answer_report}
use Rattle.outcomes.specs.Operations.{distance_value, distance}
use Rattle.outcomes.proofs.Answered.{told, swept_measured}
use Rattle.threed_closest.proofs.st_3d_distance.Goals as goal

pub returns : goal.returns
unfolding distance
returns c = record { whole_outcome = told c.closest_pair.ensures distance_value (ap answer_report c.from.ensures ∙ swept_measured _) }

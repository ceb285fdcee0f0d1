-- `threed_farthest::st_3d_max_distance` meets its contract. Assumes nothing.
use mathlib.Core.Path.{ap, ◌∙◌}
use Rattle.outcomes.specs.Answers.{answer_report}
use Rattle.outcomes.specs.Operations.{distance_value, max_distance}
use Rattle.outcomes.proofs.Answered.{told, swept_measured}
use Rattle.threed_farthest.proofs.st_3d_max_distance.Goals as goal

pub returns : goal.returns
unfolding max_distance
returns c = record { whole_outcome = told c.farthest_pair.ensures distance_value (ap answer_report c.from.ensures ∙ swept_measured _) }

-- `threed_closest::st_3d_closest_point` meets its contract. Assumes nothing.
use mathlib.Core.Path.{refl}
use Rattle.outcomes.specs.Operations.{rule_checks, output_checks, point_after, closest_point}
use Rattle.outcomes.proofs.Answered.{room_of_found, written}
use Rattle.reading.proofs.Steps.{room}
use Rattle.threed_closest.proofs.st_3d_closest_point.Goals as goal

pub write_point-requires : goal.write_point-requires
write_point-requires c = room_of_found _ (λ s found. room _ _ _ _ _ c.closest_pair-pair.ensures.answer found)

pub returns : goal.returns
unfolding closest_point rule_checks output_checks
returns c = record { whole_outcome = written c.closest_pair-pair.ensures point_after (λ srid l. refl) c.write_point.ensures.told _ c.write_point.ensures.left }

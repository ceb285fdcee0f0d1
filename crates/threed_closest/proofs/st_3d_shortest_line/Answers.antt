-- `threed_closest::st_3d_shortest_line` meets its contract. Assumes nothing.
use mathlib.Core.Path.{refl}
use Rattle.operands.specs.Operands.{workspaces}
use Rattle.outcomes.specs.Operations.{rule_checks, line_checks, output_checks, line_after, shortest_line}
use Rattle.outcomes.proofs.Answered.{room_of_found, written}
use Rattle.reading.proofs.Steps.{room}
use Rattle.threed_closest.proofs.ShortestLine.{shortest_of_outcome}
use Rattle.threed_closest.proofs.st_3d_shortest_line.Goals as goal

pub write_line-requires : goal.write_line-requires
write_line-requires c = room_of_found _ (λ s found. room _ _ _ _ _ c.closest_pair-pair.ensures.answer found)

pub returns : goal.returns
unfolding shortest_line rule_checks line_checks output_checks
returns c =
    let w = workspaces c.args.floats1.now c.args.table1.now c.args.floats2.now c.args.table2.now in
    let r = written c.closest_pair-pair.ensures line_after (λ srid l. refl) c.write_line.ensures.told _ c.write_line.ensures.left in
    record { whole_outcome = r; shortest_of_points = shortest_of_outcome c.args.a.now c.args.b.now c.args.rule w c.args.output.now (λ i. (c.type_inv.a i).fits) (λ i. (c.type_inv.b i).fits) _ r }

-- `keep_hits` meets its contract. Assumes nothing.
use mathlib.Core.Path.{◌≡◌}
use mathlib.Core.List.{List}
use lib.ListN.{length, take}
use Rattle.operands.specs.Operands.{workspaces}
use Rattle.outcomes.proofs.Lengths.{SameLengths}
use Rattle.dig_matcher.specs.Inner.{placed}
use Rattle.dig_matcher.specs.declared.Hit.{Hit}
use Rattle.dig_matcher.proofs.Turns.{HitsSoFar}
use Rattle.dig_matcher.proofs.keep_hits.Given as goal

abbrev pub invariant-loop-hit : goal.invariant-loop-hit
invariant-loop-hit l =
    (so_far : List Hit) × HitsSoFar (workspaces l.initial.floats1 l.initial.table1 l.initial.floats2 l.initial.table2) l.tape l.run l.hits so_far
    × SameLengths (workspaces l.initial.floats1 l.initial.table1 l.initial.floats2 l.initial.table2) (workspaces l.floats1 l.table1 l.floats2 l.table2)
    × (l.kept ≡ placed (take (length l.initial.kept) so_far) l.initial.kept)

abbrev pub decreases-loop-hit : goal.decreases-loop-hit
decreases-loop-hit l = length l.run.rest.now

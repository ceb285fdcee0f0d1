-- `Run::next_hit` meets its contract: what is left of the tape, from the present state on, gives what was left where the call began. Assumes nothing.
use lib.ListN.{length}
use Rattle.operands.specs.Operands.{workspaces}
use Rattle.outcomes.proofs.Lengths.{SameLengths}
use Rattle.dig_matcher.proofs.Turns.{Turn}
use Rattle.dig_matcher.proofs.Run.next_hit.Given as goal

abbrev pub invariant-loop-step : goal.invariant-loop-step
invariant-loop-step l =
    Turn (workspaces l.initial.floats1 l.initial.table1 l.initial.floats2 l.initial.table2) l.initial.self l.self
    × SameLengths (workspaces l.initial.floats1 l.initial.table1 l.initial.floats2 l.initial.table2) (workspaces l.floats1 l.table1 l.floats2 l.table2)

abbrev pub decreases-loop-step : goal.decreases-loop-step
decreases-loop-step l = length l.self.rest.now

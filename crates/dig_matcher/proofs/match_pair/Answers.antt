-- `dig_matcher::match_pair` meets its contract. Assumes nothing.
use mathlib.Core.Path.{sym}
use lib.Ieee.{of_bits}
use Rattle.operands.specs.Operands.{workspaces}
use Rattle.dig_matcher.specs.Inner.{blob_of}
use Rattle.dig_matcher.proofs.Matches.{first_missing, second_missing, below_zero, by_answer}
use Rattle.dig_matcher.proofs.match_pair.Goals as goal
use Rattle.dig_matcher.proofs.match_pair.Goals.{in_default-via-in-Some+in_default, in_default-via-in_default}

pub returns-in-Some-Some : goal.returns-in-Some-Some
unfolding of_bits blob_of
returns-in-Some-Some c = rw (c.in-Some-Some.is-0, c.in-Some-Some.is-1, c.of.ensures) (sym (below_zero _ _ _ _ c.if-limit.true))

pub returns-in-Some-Some-2 : goal.returns-in-Some-Some-2
unfolding of_bits blob_of
returns-in-Some-Some-2 c = rw (c.in-Some-Some.is-0, c.in-Some-Some.is-1) (by_answer (workspaces c.args.floats1.now c.args.table1.now c.args.floats2.now c.args.table2.now) _ _ _ c.if-limit.false _ _ _ c.st_3d_distance-answer.ensures.whole_outcome c.match_by.ensures)

pub returns-in_default : goal.returns-in_default
returns-in_default c = rw c.of-in_default.ensures (elim c.in_default.branch [
  | in_default-via-in-Some+in_default w ↦ second_missing _ _ _ _ w.in_default.is-1
  | in_default-via-in_default w ↦ first_missing _ _ _ _ w.in_default.is-0
])

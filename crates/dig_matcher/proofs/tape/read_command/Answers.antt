-- `dig_matcher::tape::read_command` meets its contract. Assumes nothing.
use native.Mathlib.Omega.{arith}
use Rattle.dig_matcher.specs.Inner.{Reads}
use Rattle.dig_matcher.proofs.TapeLaws.{end_first, unknown_first}
use Rattle.dig_matcher.proofs.tape.read_command.Goals as goal

pub returns-in-4 : goal.returns-in-4
unfolding Reads
returns-in-4 c = end_first _ _ (rw c.in-4.is at c.in_ok-command.ensures.cases.0)

pub returns-in_default : goal.returns-in_default
unfolding Reads
returns-in_default c = unknown_first _ _ _ c.in_ok-command.ensures.cases.0 (λ e. omega arith) (λ e. omega arith) (λ e. omega arith) (λ e. omega arith)

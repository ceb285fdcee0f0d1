-- `dig_matcher::tape::read_load` meets its contract. Assumes nothing.
use native.Mathlib.Omega.{arith}
use Rattle.dig_matcher.specs.Inner.{Reads}
use Rattle.dig_matcher.proofs.TapeLaws.{length_short}
use Rattle.dig_matcher.proofs.tape.read_load.Goals as goal

pub returns-in_default : goal.returns-in_default
unfolding Reads
returns-in_default c = length_short _ (omega arith)

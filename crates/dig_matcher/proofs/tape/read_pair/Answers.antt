-- `dig_matcher::tape::read_pair` meets its contract. Assumes nothing.
use native.Mathlib.Omega.{arith}
use Rattle.dig_matcher.specs.Inner.{Reads}
use Rattle.dig_matcher.proofs.TapeLaws.{pair_short}
use Rattle.dig_matcher.proofs.tape.read_pair.Goals as goal

pub returns-in_default : goal.returns-in_default
unfolding Reads
returns-in_default c = pair_short _ (omega arith)

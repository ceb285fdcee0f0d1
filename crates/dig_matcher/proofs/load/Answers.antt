-- `dig_matcher::load` meets its contract. Assumes nothing.
use native.Mathlib.Omega.{arith}
use Rattle.dig_matcher.proofs.Runs.{blob_stored}
use Rattle.dig_matcher.proofs.load.Goals as goal

pub returns : goal.returns
returns c = blob_stored _ _ _ (omega arith)

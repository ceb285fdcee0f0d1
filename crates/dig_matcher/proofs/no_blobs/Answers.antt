-- `no_blobs` meets its contract. Assumes nothing.
use Rattle.dig_matcher.proofs.Runs.{none_loaded}
use Rattle.dig_matcher.proofs.no_blobs.Goals as goal

pub returns : goal.returns
returns c = none_loaded 256

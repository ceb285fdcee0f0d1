-- `bounds` meets its contract: the loop starts from the box of NaNs. Assumes nothing.
use lib.Ieee.{of_bits}
use Rattle.std.proofs.Common.{rules}
use Rattle.farthest.specs.Inner.{empty_box}
use Rattle.farthest.proofs.VertexRuns.bounds.Goals as goal

pub loop-points-init : goal.loop-points-init
unfolding empty_box of_bits
loop-points-init c = search rules

-- `extremes::Best::no_closer` meets its contract. Assumes nothing.
use lib.Ieee.{of_bits}
use Rattle.extremes.specs.ClosestSweep.{no_closer}
use Rattle.extremes.proofs.Best.no_closer.Goals as goal

pub returns : goal.returns
unfolding no_closer of_bits
returns c = rw c.if-d.false

-- `extremes::Best::no_farther` meets its contract. Assumes nothing.
use lib.Ieee.{of_bits}
use Rattle.extremes.proofs.Best.no_farther.Goals as goal

pub returns : goal.returns
unfolding of_bits
returns c = rw c.if-d.false

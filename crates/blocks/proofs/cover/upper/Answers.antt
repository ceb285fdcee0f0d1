-- `blocks::cover::upper` meets its contract. Assumes nothing.
use lib.Ieee.{of_bits}
use Rattle.blocks.proofs.cover.upper.Goals as goal

pub returns-then-m-k : goal.returns-then-m-k
returns-then-m-k c = rw c.if-m-k.true

pub returns-then-k-m : goal.returns-then-k-m
returns-then-k-m c = rw (c.if-m-k.false, c.if-k-m.true)

pub returns-else-k-m : goal.returns-else-k-m
unfolding of_bits
returns-else-k-m c = rw (c.if-m-k.false, c.if-k-m.false)

-- `blocks::cover::lower` meets its contract. Assumes nothing.
use lib.Ieee.{of_bits}
use Rattle.blocks.proofs.cover.lower.Goals as goal

pub returns-then-k-m : goal.returns-then-k-m
returns-then-k-m c = rw c.if-k-m.true

pub returns-then-m-k : goal.returns-then-m-k
returns-then-m-k c = rw (c.if-k-m.false, c.if-m-k.true)

pub returns-else-m-k : goal.returns-else-m-k
unfolding of_bits
returns-else-m-k c = rw (c.if-k-m.false, c.if-m-k.false)

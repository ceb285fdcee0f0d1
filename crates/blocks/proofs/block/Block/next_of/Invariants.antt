-- `next_of` meets its contract. The loop's invariant: so many items are passed and counted, and the box covers them. Assumes nothing.
use mathlib.Core.Path.{◌≡◌}
use Rattle.items.specs.Inner.{items_left}
use Rattle.blocks.proofs.Passing.{Passed}
use Rattle.blocks.proofs.block.Block.next_of.Given as goal

abbrev pub invariant-loop : goal.invariant-loop
invariant-loop l = record {
  passed : Passed (items_left l.initial.items) l.counter (items_left l.items) l.bounds;
  counted : l.count ≡ l.counter;
}

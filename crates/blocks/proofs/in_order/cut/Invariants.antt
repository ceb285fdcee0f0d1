-- `cut` meets its contract. The loop's invariant: the blocks so far and the items that are left are all, and all blocks
-- are of one size. Assumes nothing.
use mathlib.Core.Path.{◌≡◌}
use mathlib.Core.List.{◌++◌}
use Prim.Native.Nat.{◌*◌}
use lib.ListN.{take, drop}
use Rattle.std.specs.List.{flat_map, All}
use Rattle.items.specs.Items.{items_of}
use Rattle.items.specs.Inner.{items_left}
use Rattle.blocks.specs.Blocks.{block_items}
use Rattle.blocks.proofs.in_order.cut.Given as goal

abbrev pub invariant-loop-row : goal.invariant-loop-row
invariant-loop-row l = record {
  all : flat_map block_items (take l.row-index l.row-items) ++ items_left l.items ≡ items_of l.side;
  sizes : All (λ b. b.size ≡ l.size) (take l.row-index l.row-items);
  left : items_left l.items ≡ drop (l.row-index * l.size) (items_of l.side);
}

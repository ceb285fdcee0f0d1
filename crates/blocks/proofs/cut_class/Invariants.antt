-- `cut_class` meets its contract. The loop's invariant: the blocks so far are of one size, and have, with the items
-- that are left, those of the class; while an item is left, they are all full. Its measure: how many items are left.
-- Assumes nothing.
use mathlib.Core.Path.{◌≡◌}
use mathlib.Core.List.{◌++◌}
use Prim.Native.Nat.{◌+◌, ◌*◌, ◌<◌, ◌≤◌}
use lib.ListN.{length, take}
use Rattle.std.specs.List.{flat_map, All}
use Rattle.items.specs.Inner.{class_items, items_left}
use Rattle.blocks.specs.Blocks.{block_items}
use Rattle.blocks.proofs.cut_class.Given as goal

abbrev pub invariant-loop-items : goal.invariant-loop-items
invariant-loop-items l = record {
  within : l.count ≤ length l.rows;
  sizes : All (λ b. b.size ≡ l.size) (take l.count l.rows);
  few : l.count * l.size < l.start * l.size + length (class_items l.fn.class l.side) + l.size;
  full : 0 < length (items_left l.items) → l.count * l.size + length (items_left l.items) ≡ l.start * l.size + length (class_items l.fn.class l.side);
  all : flat_map block_items (take l.count l.rows) ++ items_left l.items ≡ flat_map block_items (take l.start l.initial.rows) ++ class_items l.fn.class l.side;
}

abbrev pub decreases-loop-items : goal.decreases-loop-items
decreases-loop-items l = length (items_left l.items)

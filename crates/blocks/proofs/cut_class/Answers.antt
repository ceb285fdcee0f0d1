-- `cut_class` meets its contract: a row is free while an item is left. Assumes nothing.
use Prim.Native.Nat.{◌<◌}
use mathlib.Core.Path.{ap}
use native.Mathlib.Omega.{arith}
use lib.ListN.{length, length-drop, length-set}
use Rattle.items.specs.Inner.{items_left}
use Rattle.items.specs.declared.Item.{Item}
use Rattle.blocks.specs.declared.block.Block.{Block}
use Rattle.blocks.proofs.Cutting.{blocks_more, sizes_more}
use Rattle.blocks.proofs.Room.{row_left}
use Rattle.blocks.proofs.cut_class.Goals as goal

-- an item is left
some : (c : goal.After-next_of) → 0 < length (items_left c.loop-items.items)
some c = rw c.reach_next.ensures.left at (c.reach_next.ensures.some c.loop-items-test.true)

-- and so is a row
free : (c : goal.After-next_of) → c.loop-items.count < length c.loop-items.rows
free c = rw c.loop-items.auto.rows (row_left _ c.args.size _ _ _ (some c) (c.loop-items.invariant.full (some c)) c.requires.room)

pub bounds-rows-count : goal.bounds-rows-count
bounds-rows-count = free

pub loop-items-preserved : goal.loop-items-preserved
loop-items-preserved c =
    let left = rw c.reach_next.ensures.left at c.next_of.ensures.left in
    let counts = ap length left in
    let full = c.loop-items.invariant.full (some c) in
    let next = rw c.reach_next.ensures.left at c.next_of.ensures.items in
    record {
      within = omega (arith, free c, length-set {A = Block});
      sizes = sizes_more c.loop-items.rows c.loop-items.count c.next_of.result c.args.size (free c) c.loop-items.invariant.sizes c.next_of.ensures.size;
      few = omega (arith, some c);
      full = λ more. omega (arith, some c, length-drop {A = Item});
      all = blocks_more c.loop-items.rows c.loop-items.count _ _ _ _ _ (free c) left c.loop-items.invariant.all next;
    }

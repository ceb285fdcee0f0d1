-- Items in blocks. Serves inner contracts. Definitions only.
use Rattle.std.specs.Prelude.{ℕ, List, take}
use Rattle.items.specs.declared.Item.{Item}
use Rattle.items.specs.Inner.{items_left}
use Rattle.blocks.specs.declared.block.Block.{Block}

-- so many full blocks hold more than all items of a side
abbrev pub most_full : ℕ
most_full = 128

-- there is room for so many blocks
abbrev pub most_rows : ℕ
most_rows = 128

-- and for so many where each class is cut by itself: each but the last may end with one that is not full
abbrev pub most_rows_by_class : ℕ
most_rows_by_class = 130

-- the items of a block: the next so many, or all that are left
abbrev pub block_items : Block → List Item
block_items b = take b.size (items_left b.first)

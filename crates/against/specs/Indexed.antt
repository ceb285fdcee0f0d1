-- The index of a side: its items in rows, or in blocks. Serves inner contracts. Definitions only.
use Rattle.std.specs.Prelude.{List, []}
use Rattle.std.specs.List.{flat_map}
use mathlib.Core.List.{map}
use Rattle.items.specs.declared.Item.{Item}
use Rattle.items.specs.declared.boxed.Boxed.{Boxed}
use Rattle.blocks.specs.Blocks.{block_items}
use Rattle.against.specs.declared.Index.{Index}
use Rattle.against.specs.declared.Index.TheVariants.{Listed, Blocks}

-- the items of rows
abbrev pub items_in : List Boxed → List Item
items_in rows = map (λ (r : Boxed). r.item) rows

-- the items of an index
abbrev pub indexed_items : Index → List Item
indexed_items (Listed rows) = items_in rows.now
indexed_items (Blocks rows) = flat_map block_items rows.now

-- its rows of single items
abbrev pub listed_rows : Index → List Boxed
listed_rows (Listed rows) = rows.now
listed_rows (Blocks rows) = []

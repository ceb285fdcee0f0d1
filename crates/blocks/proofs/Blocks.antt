-- A block whose box is no closer changes nothing. Assumes nothing.
use mathlib.Core.Path.{◌≡◌, sym}
use mathlib.Core.Bool.{true}
use mathlib.Core.List.{List, [], ◌∷◌, ◌++◌}
use Prim.Native.Nat.{ℕ, suc, ◌+◌, ◌<◌}
use native.Mathlib.Omega.{arith}
use lib.ListN.{length, get_or, drop}
use Rattle.std.specs.List.{All, flat_map}
use Rattle.std.proofs.lemmas.List.{at_drop_more}
use Rattle.std.specs.declared.option.Option.{Option}
use Rattle.primitives.specs.declared.Aabb.{Aabb}
use Rattle.primitives.specs.declared.Witness.{Witness}
use Rattle.primitives.specs.Boxes.{least_squared_gap}
use Rattle.extremes.specs.ClosestSweep.{no_closer}
use Rattle.extremes.proofs.Lists.{Each}
use Rattle.extremes.proofs.BoxOfAll.{Fitting, axis_x, axis_y, axis_z}
use Rattle.items.specs.declared.Item.{Item}
use Rattle.items.specs.declared.boxed.Boxed.{Boxed}
use Rattle.items.specs.Items.{box_of_item}
use Rattle.items.specs.Fitting.{BoxFits}
use Rattle.items.specs.Closest.{with_each}
use Rattle.blocks.specs.declared.block.Block.{Block}
use Rattle.blocks.specs.Cover.{cover_of_items}
use Rattle.blocks.specs.Blocks.{block_items}
use Rattle.blocks.proofs.Covering.{items_fitting, items_covered, block_skipped}

-- axis by axis, from corner by corner
fitting_by : (b : Aabb) → BoxFits b → Fitting b
unfolding axis_x axis_y axis_z
fitting_by b f = record { ends_x = (f.0.0, f.1.0); ends_y = (f.0.1, f.1.1); ends_z = (f.0.2, f.1.2) }

each_fitting : (l : List Item) → All (λ i. BoxFits (box_of_item i)) l → Each (λ (i : Item). Fitting (box_of_item i)) l
each_fitting [] f = tt
each_fitting (i ∷ l) f = (fitting_by (box_of_item i) (f 0 i (omega arith)), each_fitting l (λ k d h. f (suc k) d (omega (arith, h))))

-- the items of a block whose box is no closer are each skipped
pub block_passed : (probe : Boxed) (b : Block) (s : Option Witness) → no_closer s (least_squared_gap probe.bounds b.bounds) ≡ true → s ≡ with_each probe.item s (block_items b)
block_passed probe b s h =
    let l = block_items b in
    let e = each_fitting l b.fitting in
    let f = rw probe.boxed at (fitting_by probe.bounds probe.fitting) in
    sym (block_skipped probe.item (cover_of_items l) f (items_fitting l e) l e (items_covered l e) s (rw (probe.boxed, b.cover) at h))

-- of the blocks' items, those of the k-th block and on: the k-th block's, and those of the blocks after it
pub blocks_next : (rows : List Block) (k : ℕ) (d : Block) → k < length rows → flat_map block_items (drop k rows) ≡ block_items (get_or rows k d) ++ flat_map block_items (drop (k + 1) rows)
blocks_next rows k d h = at_drop_more (flat_map block_items) rows k d h

-- `with_blocks` meets its contract. The loop's invariant: the blocks that are left, from the present best on, give what all give. Assumes nothing.
use mathlib.Core.Path.{◌≡◌}
use lib.ListN.{drop}
use Rattle.std.specs.List.{flat_map}
use Rattle.items.specs.Closest.{with_each}
use Rattle.blocks.specs.Blocks.{block_items}
use Rattle.against.proofs.with_blocks.Given as goal

abbrev pub invariant-loop-block : goal.invariant-loop-block
invariant-loop-block l = with_each l.a.item l.best (flat_map block_items (drop l.block-index l.blocks)) ≡ with_each l.a.item l.initial.best (flat_map block_items l.blocks)

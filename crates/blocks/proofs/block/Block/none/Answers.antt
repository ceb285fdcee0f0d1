-- `none` meets its contract. Assumes nothing.
use mathlib.Core.Path.{refl}
use mathlib.Core.List.{[]}
use Rattle.blocks.proofs.Passing.{passed_none}
use Rattle.blocks.proofs.block.Block.none.Goals as goal

pub invariant_of-result : goal.invariant_of-result
invariant_of-result c = let p = passed_none [] _ c.empty_cover.ensures in record { counted = refl; cover = p.cover; fitting = p.fitting }

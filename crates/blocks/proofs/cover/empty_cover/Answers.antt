-- `blocks::cover::empty_cover` meets its contract. Assumes nothing.
use mathlib.Core.Path.{refl}
use lib.Ieee.{of_bits}
use Rattle.blocks.specs.Cover.{empty_cover}
use Rattle.blocks.proofs.cover.empty_cover.Goals as goal

pub returns : goal.returns
unfolding empty_cover of_bits
returns c = refl

-- `segment_length` meets its contract. Assumes nothing.
use Rattle.interpolation.specs.Interpolation.{length_of}
use Rattle.interpolation.proofs.segment_length.Goals as goal

pub returns : goal.returns
unfolding length_of
returns c = rw (← c.sub.ensures, ← c.norm.ensures)

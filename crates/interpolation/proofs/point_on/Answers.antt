-- `point_on` meets its contract. Assumes nothing.
use Rattle.interpolation.specs.Interpolation.{point_on}
use Rattle.interpolation.proofs.point_on.Goals as goal

pub returns : goal.returns
unfolding point_on
returns c = rw (← c.segment_length.ensures, ← c.parameter.ensures, ← c.interpolated.ensures)

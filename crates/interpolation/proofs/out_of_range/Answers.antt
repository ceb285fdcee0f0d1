-- `out_of_range` meets its contract. Assumes nothing.
use Rattle.interpolation.proofs.Cases.{below_range, within_range}
use Rattle.interpolation.proofs.out_of_range.Goals as goal
use Rattle.interpolation.proofs.out_of_range.Goals.{then-fraction, else-fraction}

pub returns : goal.returns
returns c = elim c.if-fraction.branch [ then-fraction w ↦ rw w.result-is (within_range c.args.fraction w.if-fraction.true) | else-fraction w ↦ rw (w.result-is, w.if-fraction.false) (below_range c.args.fraction w.if-fraction.false) ]

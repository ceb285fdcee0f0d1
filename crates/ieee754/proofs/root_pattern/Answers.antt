-- `root_pattern` meets its contract. Assumes nothing.
use Rattle.ieee754.proofs.Normalization.{root_rounds}
use Rattle.ieee754.proofs.root_pattern.Goals as goal

pub returns : goal.returns
returns c = rw c.rounded.ensures (root_rounds _ _ _ _ _ c.radicand_of-n.ensures c.integer_root.ensures)

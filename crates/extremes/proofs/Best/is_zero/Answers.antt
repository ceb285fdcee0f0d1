-- `extremes::Best::is_zero` meets its contract. Assumes nothing.
use mathlib.Core.Path.{sym}
use lib.Ieee.{of_bits}
use Rattle.extremes.proofs.KeptWitness.{zero_found}
use Rattle.extremes.proofs.Best.is_zero.Goals as goal

pub returns : goal.returns
unfolding of_bits
returns c = sym (zero_found c.args.self.now.witness)

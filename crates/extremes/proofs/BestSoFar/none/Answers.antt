-- `extremes::BestSoFar::none` meets its contract. Assumes nothing.
use mathlib.Core.Path.{refl}
use lib.Ieee.{of_bits, neg, lt, fits}
use Rattle.extremes.proofs.BestSoFar.none.Goals as goal

pub invariant_of-result : goal.invariant_of-result
unfolding of_bits neg lt fits
invariant_of-result g c = record { kept = refl; fitting = tt }

pub returns : goal.returns
unfolding of_bits neg lt
returns g c = refl

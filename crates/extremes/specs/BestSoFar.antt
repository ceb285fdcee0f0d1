-- The best so far: what its code keeps beside it, and what may be asked of it. Definitions only.
use Rattle.std.specs.Prelude.{◌≡◌, ◌⊎◌, Bool, true, false, cond, T, Float, Some, None}
use Rattle.std.specs.declared.option.Option.{Option}
use Rattle.std.specs.Float.{nan, binary64}
use Rattle.std.specs.Float.Ieee.{lt, eq, is_nan, fits}
use Rattle.ieee754.specs.MinMax.{positive_zero}
use Rattle.ieee754.specs.Root.{root_of}
use Rattle.primitives.specs.declared.Witness.{Witness}

-- the witness that is kept; a distance below 0 stands for none
abbrev pub found_of : Witness → Option Witness
found_of w = cond (lt w.d positive_zero) None (Some w)

-- a sum is NaN while there is no witness, and else what its distance is the root of
abbrev pub SumOf : Option Witness → Float → Type 0
SumOf None sum = sum ≡ nan
SumOf (Some best) sum = best.d ≡ root_of sum

-- that sum stands beside the best
pub record Sound (sum : Float) (found : Option Witness) : Type 0 where
  pub kept : SumOf found sum
  pub fitting : T (fits binary64 sum)

-- the best's distance is a value of binary64
abbrev pub BestFits : Option Witness → Type 0
BestFits None = Unit {0}
BestFits (Some best) = T (fits binary64 best.d)

-- a best of distance 0
unfoldable pub at_zero : Option Witness → Bool
at_zero None = false
at_zero (Some best) = eq best.d positive_zero

-- a best whose distance is NaN
unfoldable pub at_nan : Option Witness → Bool
at_nan None = false
at_nan (Some best) = is_nan best.d

-- the best's distance is NaN or 0: no distance is strictly less, since none is below 0 and nothing is less than NaN
abbrev pub Lasts : Option Witness → Type 0
Lasts best = (at_nan best ≡ true) ⊎ (at_zero best ≡ true)

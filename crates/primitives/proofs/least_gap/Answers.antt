-- `primitives::least_gap` meets its contract: both of its answers are one law of the two tests. Assumes nothing.
use mathlib.Core.Path.{◌≡◌}
use mathlib.Core.Bool.{Bool, true, false, cond}
use native.Mathlib.Omega.{arith}
use lib.Ieee.{Float, binary64, sub, lt, of_bits}
use lib.Ieee.Fits.{sub-fits}
use Rattle.ieee754.specs.MinMax.{positive_zero}
use Rattle.ieee754.proofs.GapTests.{square_by_tests}
use Rattle.primitives.specs.Boxes.{squared, least_gap}
use Rattle.primitives.proofs.least_gap.Goals as goal

by_tests : (lo hi other_lo other_hi : Float) (p q : Bool) → lt positive_zero (sub binary64 lo other_hi) ≡ p → lt (cond p (sub binary64 lo other_hi) positive_zero) (sub binary64 other_lo hi) ≡ q
    → squared (cond q (sub binary64 other_lo hi) (cond p (sub binary64 lo other_hi) positive_zero)) ≡ squared (least_gap lo hi other_lo other_hi)
unfolding least_gap
by_tests lo hi other_lo other_hi p q h k =
    square_by_tests (sub binary64 lo other_hi) (sub binary64 other_lo hi) (sub-fits binary64 lo other_hi) (sub-fits binary64 other_lo hi) p q h k

pub returns-then-above-least : goal.returns-then-above-least
unfolding of_bits
returns-then-above-least c =
    let a = c.args in
    let tested = by_tests a.lo a.hi a.other_lo a.other_hi in
    grind (arith, tested true true, tested false true)

pub returns-else-above-least : goal.returns-else-above-least
unfolding of_bits
returns-else-above-least c =
    let a = c.args in
    let tested = by_tests a.lo a.hi a.other_lo a.other_hi in
    grind (arith, tested true false, tested false false)

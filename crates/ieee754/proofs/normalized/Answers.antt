-- `normalized` meets its contract. Assumes nothing.
use native.Mathlib.Omega.{arith}
use lib.Count.{count_leading_zeros}
use Rattle.ieee754.proofs.Normalization.{subnormal_shift}
use Rattle.ieee754.proofs.normalized.Goals as goal

pub overflow_sub-shift : goal.overflow_sub-shift
unfolding count_leading_zeros
overflow_sub-shift c = (subnormal_shift c.args.b.bits c.args.b.finite c.if-x-eq0.true).at_least

pub overflow_sub-result : goal.overflow_sub-result
unfolding count_leading_zeros
overflow_sub-result c = (subnormal_shift c.args.b.bits c.args.b.finite c.if-x-eq0.true).at_most

pub returns-then-x-eq0 : goal.returns-then-x-eq0
unfolding count_leading_zeros
returns-then-x-eq0 c = (subnormal_shift c.args.b.bits c.args.b.finite c.if-x-eq0.true).normalized

pub invariant_of-result : goal.invariant_of-result
unfolding count_leading_zeros
invariant_of-result c = let m = (subnormal_shift c.args.b.bits c.args.b.finite c.if-x-eq0.true).normalized in record { few = omega arith }

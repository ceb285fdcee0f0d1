-- `joining::check_together` meets its contract. Assumes nothing.
use native.Mathlib.Omega.{arith}
use Rattle.joining.specs.Joined.{srids_differ}
use Rattle.joining.proofs.Answers.{both_lie}
use Rattle.joining.proofs.Order.{together}
use Rattle.joining.proofs.check_together.Goals as goal

pub overflow_sub-first : goal.overflow_sub-first
overflow_sub-first c = (both_lie c.args.both.now.a.now c.args.both.now.b.now c.args.both.now.operands c.args.both.now.read).forward1

pub overflow_sub-second : goal.overflow_sub-second
overflow_sub-second c = (both_lie c.args.both.now.a.now c.args.both.now.b.now c.args.both.now.operands c.args.both.now.read).forward2

pub returns-then-too_short : goal.returns-then-too_short
unfolding srids_differ
returns-then-too_short c = let size = (both_lie c.args.both.now.a.now c.args.both.now.b.now c.args.both.now.operands c.args.both.now.read).size in grind (arith, together, size)

pub returns : goal.returns
unfolding srids_differ
returns c = let size = (both_lie c.args.both.now.a.now c.args.both.now.b.now c.args.both.now.operands c.args.both.now.read).size in grind (arith, together, size)

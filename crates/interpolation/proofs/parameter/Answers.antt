-- `parameter` meets its contract. Assumes nothing.
use borrow.Author.Rules.{rules}
use Rattle.interpolation.proofs.Cases.{parameter_of_none, parameter_of_some}
use Rattle.interpolation.proofs.parameter.Goals as goal

pub returns-then-whole : goal.returns-then-whole
returns-then-whole c = parameter_of_none c.args.rest c.args.whole c.if-whole.true

pub returns-else-whole : goal.returns-else-whole
returns-else-whole c = parameter_of_some c.args.rest c.args.whole _ c.if-whole.false (search rules)

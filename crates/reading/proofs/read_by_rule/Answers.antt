-- `reading::read_by_rule` meets its contract. Assumes nothing.
use Rattle.reading.proofs.Steps.{ready_by_rule}
use Rattle.reading.proofs.read_by_rule.Goals as goal

pub store-requires-clause-ready : goal.store-requires-clause-ready
store-requires-clause-ready c = ready_by_rule c.args.a.now c.args.b.now c.lengths-lent1.ensures c.lengths-lent2.ensures c.args.question.asked c.args.question.rule c.check_by_rule.ensures c.in_ok-o.was

-- `reading::read_both` meets its contract. Assumes nothing.
use Rattle.reading.proofs.Steps.{ready}
use Rattle.reading.proofs.read_both.Goals as goal

pub store-requires-clause-ready : goal.store-requires-clause-ready
store-requires-clause-ready c = ready c.args.a.now c.args.b.now c.lengths-lent1.ensures c.lengths-lent2.ensures c.args.asked c.check.ensures c.in_ok-o.was

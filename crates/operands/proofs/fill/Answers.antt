-- `operands::fill` meets its contract. Assumes nothing.
use mathlib.Core.Path.{ap}
use Rattle.operands.specs.declared.Operands.{Operands}
use Rattle.operands.proofs.Meaning.{room_at, both_filled}
use Rattle.operands.proofs.fill.Goals as goal

pub fill-requires : goal.fill-requires
fill-requires c = room_at c.args.a.now _ _ _ (ap (λ (o : Operands). o.first.at) c.requires.o_value) c.requires.ready.first

pub fill-requires-2 : goal.fill-requires-2
fill-requires-2 c = room_at c.args.b.now _ _ _ (ap (λ (o : Operands). o.second.at) c.requires.o_value) c.requires.ready.second

pub returns : goal.returns
returns c = both_filled c.args.a.now c.args.b.now _ _ _ _ _ _ _ _ _ _ (ap (λ (o : Operands). o.first.at) c.requires.o_value) (ap (λ (o : Operands). o.second.at) c.requires.o_value) c.fill.ensures c.fill-2.ensures

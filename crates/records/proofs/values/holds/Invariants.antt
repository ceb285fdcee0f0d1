-- What is left of memory holds what is left of the bytes, if memory holds all of them.
use Rattle.std.proofs.Common.{◌≡◌, drop}
use Rattle.records.specs.Lent.{holds_of}
use Rattle.records.proofs.values.holds.Given as goal

abbrev pub invariant-loop-x : goal.invariant-loop-x
invariant-loop-x g l =
    holds_of g.T.Lent.is g.T.Lent.MARK g.T.Number.SIZE g.T.Number.value l.memory l.held
    ≡ holds_of g.T.Lent.is g.T.Lent.MARK g.T.Number.SIZE g.T.Number.value (drop l.x-index l.memory) l.left

-- What is left of memory holds what is left of the bytes, if memory holds all of them.
use Rattle.std.proofs.Common.{◌≡◌, drop}
use Rattle.records.specs.Lent.{holds_by_pattern}
use Rattle.records.proofs.lent.holds_by_pattern.Given as goal

abbrev pub invariant-loop-x : goal.invariant-loop-x
invariant-loop-x g l =
    holds_by_pattern g.T.Lent.is g.T.ByPattern.is_at g.T.Lent.MARK g.T.Number.SIZE l.memory l.held
    ≡ holds_by_pattern g.T.Lent.is g.T.ByPattern.is_at g.T.Lent.MARK g.T.Number.SIZE (drop l.x-index l.memory) l.left

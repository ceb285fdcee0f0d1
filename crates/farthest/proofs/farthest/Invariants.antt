-- `farthest` meets its contract: the code's sweep is the definition's. The loops' invariants: the vertices that are left, from the present best pair on,
-- give what all give. Assumes nothing.
use mathlib.Core.Path.{◌≡◌}
use mathlib.Core.List.{flatten}
use Rattle.farthest.specs.Inner.{runs_once, swept}
use Rattle.farthest.proofs.farthest.Given as goal

abbrev pub invariant-loop-points : goal.invariant-loop-points
invariant-loop-points l = swept l.around (flatten l.others) l.best (flatten l.points-iterator) ≡ swept l.around (flatten l.others) l.initial.best (flatten (runs_once l.a))

abbrev pub invariant-loop-p : goal.invariant-loop-p
invariant-loop-p l = swept l.around (flatten l.others) l.best l.p-iterator ≡ swept l.around (flatten l.others) l.initial.best l.initial.p-iterator

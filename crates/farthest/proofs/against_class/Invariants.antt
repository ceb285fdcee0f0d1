-- `against_class` meets its contract. The loop's invariant: the runs that are left, from the present best pair on, give what all give. Assumes nothing.
use mathlib.Core.Path.{◌≡◌}
use mathlib.Core.List.{flatten}
use Rattle.extremes.specs.Farthest.{farthest_from}
use Rattle.farthest.proofs.against_class.Given as goal

abbrev pub invariant-loop-points : goal.invariant-loop-points
invariant-loop-points l = farthest_from (flatten l.points-iterator) l.best l.p ≡ farthest_from (flatten l.fn.runs) l.initial.best l.p

abbrev pub invariant-loop-q : goal.invariant-loop-q
invariant-loop-q l = farthest_from l.q-iterator l.best l.p ≡ farthest_from l.initial.q-iterator l.initial.best l.p

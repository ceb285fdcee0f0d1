-- `bounds` meets its contract. The loops' invariants: the box with what is left added is the box with all added. Assumes nothing.
use mathlib.Core.Path.{◌≡◌}
use mathlib.Core.List.{flatten}
use Rattle.farthest.specs.Inner.{empty_box, box_with}
use Rattle.farthest.proofs.VertexRuns.bounds.Given as goal

abbrev pub invariant-loop-points : goal.invariant-loop-points
invariant-loop-points l = box_with l.bounds (flatten l.points-iterator) ≡ box_with empty_box (flatten l.self)

abbrev pub invariant-loop-p : goal.invariant-loop-p
invariant-loop-p l = box_with l.bounds l.p-iterator ≡ box_with l.initial.bounds l.initial.p-iterator

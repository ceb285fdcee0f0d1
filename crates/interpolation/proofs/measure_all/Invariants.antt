-- `measure_all` meets its contract. The loops' invariants: the segments that are left, from the present state on, give what all give. Assumes nothing.
use mathlib.Core.Path.{◌≡◌}
use mathlib.Core.List.{foldl}
use Rattle.std.specs.Prelude.{None}
use Rattle.interpolation.specs.Interpolation.{segments_of}
use Rattle.interpolation.specs.Inner.{measuring}
use Rattle.interpolation.proofs.Turns.{as_segments}
use Rattle.interpolation.proofs.measure_all.Given as goal

abbrev pub invariant-loop-run : goal.invariant-loop-run
invariant-loop-run l = foldl measuring l.measured (segments_of l.run-iterator) ≡ foldl measuring None (segments_of l.line)

abbrev pub invariant-loop-a : goal.invariant-loop-a
invariant-loop-a l = foldl measuring l.measured (as_segments l.a-iterator) ≡ foldl measuring l.initial.measured (as_segments l.initial.a-iterator)

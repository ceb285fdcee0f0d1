-- `search_all` meets its contract. The loops' invariants: the segments that are left, from the present state on, give what all give. Assumes nothing.
use mathlib.Core.Path.{◌≡◌}
use mathlib.Core.List.{◌++◌}
use Rattle.std.specs.Prelude.{None}
use Rattle.ieee754.specs.MinMax.{positive_zero}
use Rattle.interpolation.specs.Interpolation.{segments_of}
use Rattle.interpolation.specs.Inner.{stop_from}
use Rattle.interpolation.proofs.Turns.{as_segments}
use Rattle.interpolation.proofs.search_all.Given as goal

abbrev pub invariant-loop-run : goal.invariant-loop-run
invariant-loop-run l = stop_from l.target l.reached l.last (segments_of l.run-iterator) ≡ stop_from l.target positive_zero None (segments_of l.line)

abbrev pub invariant-loop-start : goal.invariant-loop-start
invariant-loop-start l = stop_from l.target l.reached l.last (as_segments l.start-iterator ++ segments_of l.run-iterator) ≡ stop_from l.target positive_zero None (segments_of l.line)

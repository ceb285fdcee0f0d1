-- `has_face` meets its contract. The loop's invariant: what is left of the table has a face if all has one. Assumes nothing.
use mathlib.Core.Path.{◌≡◌}
use lib.ListN.{length}
use Rattle.closest_rule2.specs.Inner.{table_has_face}
use Rattle.closest_rule2.proofs.has_face.Given as goal

abbrev pub invariant-loop-left : goal.invariant-loop-left
invariant-loop-left l = table_has_face l.left ≡ table_has_face l.table

abbrev pub decreases-loop-left : goal.decreases-loop-left
decreases-loop-left l = length l.left

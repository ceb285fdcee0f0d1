-- `next_run` meets its contract. The loop's invariant: the runs that are left have the same items of the class. Assumes nothing.
use mathlib.Core.Path.{◌≡◌}
use Prim.Native.Nat.{◌≤◌}
use lib.ListN.{length}
use Rattle.items.specs.Inner.{class_items, runs_left}
use Rattle.items.proofs.walk.ClassItems.next_run.Given as goal

abbrev pub invariant-loop-run : goal.invariant-loop-run
invariant-loop-run l = record {
  same : class_items l.class (runs_left l.self) ≡ class_items l.class l.runs;
  fewer : length l.runs ≤ length (runs_left l.self);
}

-- An entry for each patch that the cursor has passed, after those that were there.
use Rattle.std.proofs.Common.{◌≡◌, ◌+◌, length, take}
use Rattle.replay.proofs.patches.compare.Given as goal

abbrev pub invariant-loop-n : goal.invariant-loop-n
invariant-loop-n l = record {
  kept : take (length l.initial.same.items) l.same.items ≡ l.initial.same.items;
  added : length l.same.items ≡ length l.initial.same.items + l.n;
}

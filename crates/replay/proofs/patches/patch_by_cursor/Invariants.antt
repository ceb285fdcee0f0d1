-- The cursor stands before the patch of that number.
use Rattle.std.proofs.Common.{◌≡◌}
use Rattle.surface.specs.Cursors.{StandsBefore}
use Rattle.replay.proofs.patches.patch_by_cursor.Given as goal

abbrev pub invariant-loop-k : goal.invariant-loop-k
invariant-loop-k l = record { same_blob : l.cursor.blob.now ≡ l.blob; stands : StandsBefore l.cursor l.k }

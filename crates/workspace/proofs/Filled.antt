-- What the filling pass needs and leaves where it starts at nothing written. Assumes nothing.
use mathlib.Core.Path.{sym, ◌∙◌}
use mathlib.Core.Bool.{true≢false}
use mathlib.Core.List.{List}
use Prim.Native.Nat.{ℕ}
use native.Mathlib.Omega.{arith}
use lib.ListN.{length}
use lib.Ieee.{Float}
use Rattle.fields.proofs.Stores.{sets_front}
use Rattle.coords.specs.Walk.{Geometry, Parsed, ok, refused, map_parsed}
use Rattle.coords.specs.Parts.{runs_of, walked_runs}
use Rattle.coords.specs.Refusals.{is_accepted}
use Rattle.workspace.specs.Workspace.{floats_of, table_of, floats_needed, numbers_needed, floats_with, table_with, Room, RunsWritten}
use Rattle.workspace.specs.Inner.{floats_after, table_after, ReadyToFill, Filled}
use Rattle.workspace.specs.declared.Progress.{Progress}
use Rattle.workspace.proofs.Contents.{length_floats, length_table}

-- nothing is written yet
abbrev pub at_start : ℕ → Progress
at_start at = record { coords = 0; runs = 0; next = at }

pub room_is_ready : (w : Parsed Geometry) (at floats numbers : ℕ) → Room w floats numbers → ReadyToFill (map_parsed runs_of w) (at_start at) floats numbers
unfolding map_parsed ReadyToFill is_accepted walked_runs
room_is_ready (refused k) at floats numbers r = absurd (true≢false (sym r.accepted))
room_is_ready (ok g end) at floats numbers r = (omega (arith, r.for_floats), omega (arith, r.for_numbers))

pub filled_is_written : (w : Parsed Geometry) (at : ℕ) (fs fs' : List Float) (ts ts' : List ℕ) (r : Progress) → Room w (length fs) (length ts) → Filled (map_parsed runs_of w) (at_start at) fs ts fs' ts' r → RunsWritten (walked_runs w) fs ts fs' ts'
unfolding map_parsed is_accepted walked_runs floats_after table_after floats_with table_with
filled_is_written (refused k) at fs fs' ts ts' r room f = absurd (true≢false (sym room.accepted))
filled_is_written (ok g end) at fs fs' ts ts' r room f =
    let rs = runs_of g in
    record {
      ordinates = f.ordinates ∙ sets_front (floats_needed rs) (floats_of rs) fs (length_floats rs) room.for_floats;
      rows = f.rows ∙ sets_front (numbers_needed rs) (table_of rs) ts (length_table rs) room.for_numbers;
    }

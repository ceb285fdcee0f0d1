-- What a sweep is handed of both workspaces is the part that was written, and its vertices and items are those of the blobs. Assumes nothing.
use mathlib.Core.Path.{◌≡◌, ap}
use mathlib.Core.List.{List, [], append-nil}
use Prim.Native.Nat.{ℕ, ◌*◌, ◌≤◌}
use native.Mathlib.Omega.{arith}
use lib.ListN.{length, take, drop, length-append, length-take}
use lib.Seq.{take-append_seam}
use lib.Ieee.{Float}
use Rattle.coords.specs.Walk.{Coordinate}
use Rattle.coords.specs.Parts.{Run, map_runs, coordinate_count, vertices_of}
use Rattle.workspace.specs.Workspace.{floats_per_coordinate, numbers_per_run, floats_needed, numbers_needed, floats_of, table_of, floats_with, table_with}
use Rattle.workspace.proofs.Contents.{length_floats, length_table}
use Rattle.parts.specs.Points.{point_of}
use Rattle.parts.specs.Stored.{stored_runs, Laid}
use Rattle.parts.proofs.Filled.{laid_written, stored_written, vertices_written}
use Rattle.items.specs.Items.{items_of}
use Rattle.blob.specs.Blob.{runs_of_blob}
use Rattle.outcomes.specs.Operations.{vertex_points, items_of_blob}

-- ---- one side

module _ (rs : List (Run Coordinate)) (floats : List Float) (table : List ℕ) where
  first_floats : take (floats_needed rs) (floats_with rs floats) ≡ floats_of rs
  unfolding floats_with
  first_floats = rw (← length_floats rs) (take-append_seam (floats_of rs) (drop (length (floats_of rs)) floats))

  first_numbers : take (numbers_needed rs) (table_with rs table) ≡ table_of rs
  unfolding table_with
  first_numbers = rw (← length_table rs) (take-append_seam (table_of rs) (drop (length (table_of rs)) table))

  enough_floats : floats_needed rs ≤ length (floats_with rs floats)
  unfolding floats_with
  enough_floats = simp length-append (omega (arith, length_floats rs))

  enough_numbers : numbers_needed rs ≤ length (table_with rs table)
  unfolding table_with
  enough_numbers = simp length-append (omega (arith, length_table rs))

-- of the workspace of s, which holds so many coordinates and runs, the first floats and numbers
pub record Handed (s : List ℕ) (coords runs : ℕ) (floats : List Float) (table : List ℕ) : Type 0 where
  pub for_floats : floats_per_coordinate * coords ≤ length floats
  pub for_numbers : numbers_per_run * runs ≤ length table
  pub laid : Laid (take (numbers_per_run * runs) table) (take (floats_per_coordinate * coords) floats)
  pub runs_stored : stored_runs (take (numbers_per_run * runs) table) (take (floats_per_coordinate * coords) floats) ≡ map_runs point_of (runs_of_blob s)

pub handed : (s : List ℕ) (floats : List Float) (table : List ℕ) → Handed s (coordinate_count (runs_of_blob s)) (length (runs_of_blob s)) (floats_with (runs_of_blob s) floats) (table_with (runs_of_blob s) table)
handed s floats table =
    let rs = runs_of_blob s in
    let f = first_floats rs floats table in
    let n = first_numbers rs floats table in
    record {
      for_floats = enough_floats rs floats table;
      for_numbers = enough_numbers rs floats table;
      laid = rw (f, n, ← append-nil (floats_of rs)) (laid_written rs []);
      runs_stored = rw (f, n, ← append-nil (floats_of rs)) (stored_written rs []);
    }

-- the same with all floats: those that follow are not read
pub record Side (s : List ℕ) (numbers : ℕ) (floats : List Float) (table : List ℕ) : Type 0 where
  pub fits : numbers ≤ length table
  pub long : numbers ≡ length (take numbers table)
  pub laid : Laid (take numbers table) floats
  pub items : items_of (stored_runs (take numbers table) floats) ≡ items_of_blob s
  pub vertices : vertices_of (stored_runs (take numbers table) floats) ≡ vertex_points s

pub side : (s : List ℕ) (floats : List Float) (table : List ℕ) → Side s (numbers_needed (runs_of_blob s)) (floats_with (runs_of_blob s) floats) (table_with (runs_of_blob s) table)
unfolding floats_with
side s floats table =
    let rs = runs_of_blob s in
    let rest = drop (floats_needed rs) floats in
    let n = first_numbers rs floats table in
    record {
      fits = enough_numbers rs floats table;
      long = simp length-take (omega (arith, enough_numbers rs floats table));
      laid = rw n (laid_written rs rest);
      items = rw n (ap items_of (stored_written rs rest));
      vertices = rw n (vertices_written rs rest);
    }

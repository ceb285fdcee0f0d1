-- One blob, read whole: its checks in document 01's order, what it must be lent, and what is then read. Definitions only.
use Rattle.std.specs.Prelude.{ℕ, ◌≡◌, List, [], ◌∷◌, ◌++◌, length, Float, Option, None, Some, Result}
use Rattle.refusals.specs.Checks.{Check, check, first_of, refused_or, on_side}
use Rattle.refusals.specs.declared.Reason.{Reason}
use Rattle.refusals.specs.declared.Reason.TheVariants.{WorkspaceTooSmall}
use Rattle.refusals.specs.declared.Side.TheVariants.{First}
use Rattle.refusals.specs.declared.Refusal.{Refusal}
use Rattle.gpb.specs.Header.{geometry_start, srid_of, header_checks}
use Rattle.coords.specs.Walk.{Coordinate, Geometry, Parsed, ok, refused, walk_of, all_levels}
use Rattle.coords.specs.Parts.{Run, walked_runs, coordinate_count}
use Rattle.coords.specs.Refusals.{walk_checks}
use Rattle.workspace.specs.Workspace.{floats_needed, numbers_needed, too_small, floats_with, table_with}
use Rattle.blob.specs.declared.Lent.{Lent}
use Rattle.blob.specs.declared.BlobRead.{BlobRead}

-- the walk of a blob's geometry
abbrev pub walk_of_blob : List ℕ → Parsed Geometry
walk_of_blob s = walk_of all_levels s (geometry_start s)

-- the position after the geometry that was read
unfoldable pub walk_end : Parsed Geometry → ℕ
walk_end (ok g end) = end
walk_end (refused k) = 0

-- the runs of a blob
abbrev pub runs_of_blob : List ℕ → List (Run Coordinate)
runs_of_blob s = walked_runs (walk_of_blob s)

-- what the bytes alone can break, in order: the header, 3 to 10, then the walk (no Z test)
unfoldable pub bytes_checks : List ℕ → List (Check Reason)
bytes_checks s = header_checks s ++ walk_checks s (geometry_start s)

-- then 15: lent memory of so many floats and numbers is too small
unfoldable pub blob_checks : List ℕ → ℕ → ℕ → List (Check Reason)
blob_checks s floats numbers = bytes_checks s ++ (check WorkspaceTooSmall (too_small (runs_of_blob s) floats numbers) ∷ [])

-- ---- what to lend: an entry for callers, beside document 01's operations

-- 4N floats and 2R numbers
abbrev pub needed_for : List (Run Coordinate) → Lent
needed_for rs = record { floats = floats_needed rs; numbers = numbers_needed rs }

-- or the refusal of the one blob there is: side 1
unfoldable pub sizes_of : List ℕ → Result Lent Refusal
sizes_of s = refused_or (first_of (on_side First (bytes_checks s))) (needed_for (runs_of_blob s))

-- ---- what is read

-- N, R and the SRID's bits
abbrev pub blob_read : List ℕ → BlobRead
blob_read s = record { coords = coordinate_count (runs_of_blob s); runs = length (runs_of_blob s); srid = srid_of s }

-- or the first refusal
unfoldable pub answer_of : List ℕ → ℕ → ℕ → Result BlobRead Refusal
answer_of s floats numbers = refused_or (first_of (on_side First (blob_checks s floats numbers))) (blob_read s)

-- refused: unchanged
unfoldable pub floats_by : Option Reason → List ℕ → List Float → List Float
floats_by (Some k) s floats = floats
floats_by None s floats = floats_with (runs_of_blob s) floats

unfoldable pub table_by : Option Reason → List ℕ → List ℕ → List ℕ
table_by (Some k) s table = table
table_by None s table = table_with (runs_of_blob s) table

-- the answer, and floats and table after the call, from those before it
pub record BlobOutcome (s : List ℕ) (floats : List Float) (table : List ℕ) (floats' : List Float) (table' : List ℕ) (r : Result BlobRead Refusal) : Type 0 where
  pub answer : r ≡ answer_of s (length floats) (length table)
  pub ordinates : floats' ≡ floats_by (first_of (blob_checks s (length floats) (length table))) s floats
  pub rows : table' ≡ table_by (first_of (blob_checks s (length floats) (length table))) s table

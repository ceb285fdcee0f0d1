-- What the filling pass leaves in the lent floats and numbers, from a given progress on: for the contracts of inner functions only. Definitions only.
use Rattle.std.specs.Prelude.{ℕ, ◌+◌, ◌*◌, ◌≤◌, List, ◌≡◌, length, Float}
use Rattle.std.proofs.lemmas.List.Edits.{sets}
use Rattle.coords.specs.Walk.{ok, refused}
use Rattle.coords.specs.Parts.{coordinate_count}
use Rattle.coords.specs.Inner.{ParsedRuns}
use Rattle.workspace.specs.Workspace.{floats_per_coordinate, numbers_per_run, floats_of, table_of}
use Rattle.workspace.specs.declared.Progress.{Progress}

-- the floats once the runs of w are written after p
unfoldable pub floats_after : ParsedRuns → Progress → List Float → List Float
floats_after (ok rs end) p l = sets l (floats_per_coordinate * p.coords) (floats_of rs)
floats_after (refused k) p l = l

-- the table then
unfoldable pub table_after : ParsedRuns → Progress → List ℕ → List ℕ
table_after (ok rs end) p l = sets l (numbers_per_run * p.runs) (table_of rs)
table_after (refused k) p l = l

-- the progress then
unfoldable pub progress_after : ParsedRuns → Progress → Progress
progress_after (ok rs end) p = record { coords = p.coords + coordinate_count rs; runs = p.runs + length rs; next = end }
progress_after (refused k) p = record { coords = p.coords; runs = p.runs; next = 0 }

-- the walk refuses nothing, and there is room for what it reads
unfoldable pub ReadyToFill : ParsedRuns → Progress → ℕ → ℕ → Type 0
ReadyToFill (ok rs end) p floats table = (floats_per_coordinate * (p.coords + coordinate_count rs) ≤ floats) × (numbers_per_run * (p.runs + length rs) ≤ table)
ReadyToFill (refused k) p floats table = ⊥

-- the runs of w are written after p: floats and table before and after, and the progress after
pub record Filled (w : ParsedRuns) (p : Progress) (floats : List Float) (table : List ℕ) (floats' : List Float) (table' : List ℕ) (r : Progress) : Type 0 where
  pub progress : r ≡ progress_after w p
  pub ordinates : floats' ≡ floats_after w p floats
  pub rows : table' ≡ table_after w p table

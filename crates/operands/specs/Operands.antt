-- The two blobs of an operation, the memory lent for them, and their refusals in order (document 01, Parts and "Order"). Definitions only.
use Rattle.std.specs.Prelude.{ℕ, List, [], ◌∷◌, ◌++◌, length, Float}
use Rattle.refusals.specs.Checks.{Check, check, on_side}
use Rattle.refusals.specs.declared.Reason.{Reason}
use Rattle.refusals.specs.declared.Reason.TheVariants.{WorkspaceTooSmall}
use Rattle.refusals.specs.declared.Side.TheVariants.{First, Second}
use Rattle.refusals.specs.declared.Refusal.{Refusal}
use Rattle.gpb.specs.Header.{geometry_start, header_checks_3d}
use Rattle.coords.specs.Refusals.{walk_checks}
use Rattle.workspace.specs.Workspace.{too_small, floats_with, table_with}
use Rattle.blob.specs.Blob.{runs_of_blob}
use Rattle.blob.specs.declared.Lent.{Lent}

-- the workspaces of both sides: floats, and the table of runs
pub record Workspaces : Type 0 where
  pub floats1 : List Float
  pub table1 : List ℕ
  pub floats2 : List Float
  pub table2 : List ℕ

abbrev pub workspaces : List Float → List ℕ → List Float → List ℕ → Workspaces
workspaces f t g u = record { floats1 = f; table1 = t; floats2 = g; table2 = u }

-- the lengths lent for a side
abbrev pub lengths : List Float → List ℕ → Lent
lengths floats table = record { floats = length floats; numbers = length table }

-- what the bytes of either blob can break: headers of side 1, side 2, both with 13; walks of side 1, side 2
unfoldable pub both_checks : List ℕ → List ℕ → List (Check Refusal)
both_checks a b =
    on_side First (header_checks_3d a)
    ++ (on_side Second (header_checks_3d b)
    ++ (on_side First (walk_checks a (geometry_start a))
    ++ on_side Second (walk_checks b (geometry_start b))))

-- 15: a side's workspace of so many floats and numbers is under 4N or 2R
unfoldable pub workspace_checks : List ℕ → Lent → List (Check Reason)
workspace_checks s lent = check WorkspaceTooSmall (too_small (runs_of_blob s) lent.floats lent.numbers) ∷ []

-- then 15 by side, of the lengths lent
unfoldable pub operand_checks : List ℕ → List ℕ → Lent → Lent → List (Check Refusal)
operand_checks a b l m = both_checks a b ++ (on_side First (workspace_checks a l) ++ on_side Second (workspace_checks b m))

-- the same, of the workspaces themselves: their lengths alone matter
abbrev pub lent_checks : List ℕ → List ℕ → Workspaces → List (Check Refusal)
lent_checks a b w = operand_checks a b (lengths w.floats1 w.table1) (lengths w.floats2 w.table2)

-- both workspaces once the blobs are read into them
unfoldable pub filled : List ℕ → List ℕ → Workspaces → Workspaces
filled a b w =
    workspaces (floats_with (runs_of_blob a) w.floats1) (table_with (runs_of_blob a) w.table1)
    (floats_with (runs_of_blob b) w.floats2) (table_with (runs_of_blob b) w.table2)

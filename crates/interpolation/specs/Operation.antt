-- The outcome of st_3d_line_interpolate_point for every input: report, workspace, output (document 01, Interpolation, the table and "Order").
-- Undecided is only the payload, sign included, of a NaN in the workspace: the model of floats has one NaN. Definitions only.
use Rattle.std.specs.Prelude.{ℕ, Bool, ◌&&◌, ◌||◌, not, List, [], ◌∷◌, ◌++◌, ltb, eqb, length, drop, Float, Option, None, Some, Result, Ok, Err}
use Rattle.std.specs.Float.Ieee.{le}
use Rattle.ieee754.specs.MinMax.{positive_zero, one}
use Rattle.refusals.specs.Checks.{Check, check, first_of, on_side}
use Rattle.refusals.specs.declared.Reason.TheVariants.{FractionOutOfRange, NoLine, WorkspaceTooSmall, OutputTooShort}
use Rattle.refusals.specs.declared.Side.TheVariants.{First}
use Rattle.refusals.specs.declared.Refusal.{Refusal}
use Rattle.gpb.specs.Header.{geometry_start, srid_of, header_checks}
use Rattle.gpb.specs.Written.{point_bytes, point_blob}
use Rattle.coords.specs.Parts.{Run, map_runs, other_count}
use Rattle.coords.specs.Refusals.{walk_checks}
use Rattle.workspace.specs.Workspace.{too_small, floats_with, table_with}
use Rattle.blob.specs.Blob.{runs_of_blob}
use Rattle.parts.specs.Points.{point_of}
use Rattle.operands.specs.Operands.{Workspaces, workspaces}
use Rattle.outcomes.specs.Answers.{blob, Report, refusing, answering}
use Rattle.outcomes.specs.Operations.{Outcome, outcome, no_side, unless}
use Rattle.primitives.specs.declared.Point.{Point}
use Rattle.interpolation.specs.Interpolation.{segments_of, interpolated_point}

-- ---- the table's rows

-- 2: fraction not within 0..1, or NaN
unfoldable pub out_of_range : Float → Bool
out_of_range fraction = not (le positive_zero fraction && le fraction one)

-- 14: a point or face, or no segment
unfoldable pub is_no_line : {A : Type 0} → List (Run A) → Bool
is_no_line rs = ltb 0 (other_count rs) || eqb (length (segments_of rs)) 0

-- ---- the order: 2; the header, 3 to 10, with no Z test; the walk; 14; 15; 16

-- `floats`, `numbers` and `output` are the lengths lent
unfoldable pub interpolation_checks : List ℕ → Float → ℕ → ℕ → ℕ → List (Check Refusal)
interpolation_checks s fraction floats numbers output =
    (check (no_side FractionOutOfRange) (out_of_range fraction) ∷ [])
    ++ (on_side First (header_checks s)
    ++ (on_side First (walk_checks s (geometry_start s))
    ++ (on_side First (check NoLine (is_no_line (runs_of_blob s)) ∷ [])
    ++ (on_side First (check WorkspaceTooSmall (too_small (runs_of_blob s) floats numbers) ∷ [])
    ++ (check (no_side OutputTooShort) (ltb output point_bytes) ∷ [])))))

-- ---- the outcome

-- a point in the output, or a refusal
abbrev pub interpolated_report : Result Unit Refusal → Report
interpolated_report (Ok u) = answering blob
interpolated_report (Err r) = refusing r

-- the point of a blob's line runs; none where they have no segment, which 14 refuses
unfoldable pub point_of_blob : List ℕ → Float → Option Point
point_of_blob s fraction = interpolated_point fraction (segments_of (map_runs point_of (runs_of_blob s)))

-- the point in the output's first 37 bytes, rest unchanged
unfoldable pub output_with : ℕ → Option Point → List ℕ → List ℕ
output_with srid None output = output
output_with srid (Some p) output = point_blob srid p.x p.y p.z ++ drop point_bytes output

-- side 1's workspace once the blob is read into it
unfoldable pub filled_one : List ℕ → Workspaces → Workspaces
filled_one s w = workspaces (floats_with (runs_of_blob s) w.floats1) (table_with (runs_of_blob s) w.table1) w.floats2 w.table2

-- the checks, of the memory lent itself: its lengths alone matter
abbrev pub checks_of_lent : List ℕ → Float → Workspaces → List ℕ → List (Check Refusal)
checks_of_lent s fraction w output = interpolation_checks s fraction (length w.floats1) (length w.table1) (length output)

-- st_3d_line_interpolate_point; the SRID is the blob's
unfoldable pub line_interpolate_point : List ℕ → Float → Workspaces → List ℕ → Outcome
line_interpolate_point s fraction w output =
    unless (first_of (checks_of_lent s fraction w output))
    (outcome (answering blob) (filled_one s w) (output_with (srid_of s) (point_of_blob s fraction) output)) w output

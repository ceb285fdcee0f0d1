-- What the inner functions answer: for inner contracts only. Definitions only.
use Rattle.std.specs.Prelude.{ℕ, ◌≡◌, Bool, false, cond, ◌||◌, List, [], ◌∷◌, ltb, eqb, length, Float, Option, Some, None}
use mathlib.Core.List.{foldl}
use Rattle.std.specs.Float.Ieee.{le}
use Rattle.ieee754.specs.MinMax.{positive_zero}
use Rattle.gpb.specs.Header.{geometry_start}
use Rattle.coords.specs.Parts.{coordinate_count}
use Rattle.workspace.specs.Workspace.{Room, RunsWritten}
use Rattle.blob.specs.Blob.{walk_of_blob, runs_of_blob}
use Rattle.primitives.specs.declared.Point.{Point}
use Rattle.interpolation.specs.Interpolation.{Segment, with_length}
use Rattle.interpolation.specs.Operation.{is_no_line, point_of_blob}
use Rattle.interpolation.specs.declared.Measured.{Measured}
use Rattle.interpolation.specs.declared.Stop.{Stop}

-- ---- the checks

-- 14 by the numbers of coordinates, of runs, and of points and faces
abbrev pub no_line_by : ℕ → ℕ → ℕ → Bool
no_line_by coords runs others = eqb coords runs || ltb 0 others

-- ---- the two passes over the segments

-- the first segment's start, and the lengths added
unfoldable pub measuring : Option Measured → Segment Point → Option Measured
measuring None g = Some (record { start = g.start; total = with_length positive_zero g })
measuring (Some m) g = Some (record { start = m.start; total = with_length m.total g })

-- of all segments; none where there is no segment
unfoldable pub measured_of : List (Segment Point) → Option Measured
measured_of gs = foldl measuring None gs

-- the segment g, what is walked before it
abbrev pub stop_at : Float → Segment Point → Stop
stop_at walked g = record { walked = walked; start = g.start; end = g.end }

-- on the first segment where walked + length ≥ target, or on the last by position: `last` stands for those before
unfoldable pub stop_from : Float → Float → Option Stop → List (Segment Point) → Option Stop
stop_from target walked last [] = last
stop_from target walked last (g ∷ gs) = cond (le target (with_length walked g)) (Some (stop_at walked g)) (stop_from target (with_length walked g) (Some (stop_at walked g)) gs)

-- from the first segment on
unfoldable pub stop_of : Float → List (Segment Point) → Option Stop
stop_of target gs = stop_from target positive_zero None gs

-- ---- the blob, once it is read

-- every check has passed: the blob's numbers, and room for it
pub record ReadyToMeasure (s : List ℕ) (at coords runs floats numbers : ℕ) : Type 0 where
  pub start : at ≡ geometry_start s
  pub coordinates : coords ≡ coordinate_count (runs_of_blob s)
  pub number : runs ≡ length (runs_of_blob s)
  pub room : Room (walk_of_blob s) floats numbers
  pub line : is_no_line (runs_of_blob s) ≡ false

-- the point, and the workspace after the call, from that before it
pub record PointRead (s : List ℕ) (fraction : Float) (floats : List Float) (table : List ℕ) (floats' : List Float) (table' : List ℕ) (p : Point) : Type 0 where
  pub point : point_of_blob s fraction ≡ Some p
  pub memory : RunsWritten (runs_of_blob s) floats table floats' table'

-- What the call answers and leaves is the definition's outcome; and what the search is handed is the part of the workspace that was written. Assumes nothing.
use mathlib.Core.Path.{◌≡◌, ap, subst}
use mathlib.Core.List.{List, ◌++◌}
use Rattle.std.specs.Prelude.{Some, Err}
use Prim.Native.Nat.{ℕ, ◌*◌, ◌<◌}
use native.Mathlib.Omega.{arith}
use lib.ListN.{length, take, drop}
use lib.Ieee.{Float}
use Rattle.refusals.specs.declared.Refusal.{Refusal}
use Rattle.gpb.specs.Written.{point_bytes, point_blob}
use Rattle.coords.specs.Walk.{walk_of, all_levels}
use Rattle.coords.specs.Parts.{map_runs, walked_runs}
use Rattle.workspace.specs.Workspace.{floats_per_coordinate, numbers_per_run, Room, RunsWritten}
use Rattle.blob.specs.Blob.{runs_of_blob}
use Rattle.parts.specs.Points.{point_of}
use Rattle.parts.specs.Stored.{stored_runs}
use Rattle.primitives.specs.declared.Point.{Point}
use Rattle.operands.specs.Operands.{Workspaces, workspaces}
use Rattle.outcomes.specs.Answers.{blob, answering, refusing}
use Rattle.outcomes.specs.Operations.{outcome}
use Rattle.outcomes.proofs.Handed.{Handed}
use Rattle.outcomes.proofs.Handed as both
use Rattle.interpolation.specs.Interpolation.{segments_of, interpolated_point}
use Rattle.interpolation.specs.Operation.{interpolation_checks, point_of_blob, output_with, filled_one, line_interpolate_point}
use Rattle.interpolation.specs.Inner.{ReadyToMeasure, PointRead}
use Rattle.refusals.specs.Checks.{first_of, refused_or}
use Rattle.refusals.proofs.Checks.{refused_is}
use Rattle.blob.specs.Inner.{operand_of}
use Rattle.blob.specs.declared.Operand.{Operand}
use Rattle.interpolation.proofs.Lines.{segments_map, has_segment}
use Rattle.interpolation.proofs.Order.{IsAccepted}

-- ---- the blob, once it is read

module _ (s : List ℕ) (at coords runs : ℕ) (fs : List Float) (ts : List ℕ) (ready : ReadyToMeasure s at coords runs (length fs) (length ts)) where
  pub room_at : Room (walk_of all_levels s at) (length fs) (length ts)
  room_at = rw ready.start ready.room

  module _ (fs' : List Float) (ts' : List ℕ) (full : RunsWritten (walked_runs (walk_of all_levels s at)) fs ts fs' ts') where
    written_at : RunsWritten (runs_of_blob s) fs ts fs' ts'
    written_at = subst (λ (i : ℕ). RunsWritten (walked_runs (walk_of all_levels s i)) fs ts fs' ts') ready.start full

    pub handed : Handed s coords runs fs' ts'
    handed = rw (ready.coordinates, ready.number, written_at.ordinates, written_at.rows) (both.handed s fs ts)

    segments : segments_of (stored_runs (take (numbers_per_run * runs) ts') (take (floats_per_coordinate * coords) fs')) ≡ segments_of (map_runs point_of (runs_of_blob s))
    segments = ap segments_of handed.runs_stored

    pub some_segment : 0 < length (segments_of (stored_runs (take (numbers_per_run * runs) ts') (take (floats_per_coordinate * coords) fs')))
    some_segment = rw segments (omega (arith, segments_map point_of (runs_of_blob s), has_segment (runs_of_blob s) ready.line))

    pub point_read : (fraction : Float) (p : Point) → interpolated_point fraction (segments_of (stored_runs (take (numbers_per_run * runs) ts') (take (floats_per_coordinate * coords) fs'))) ≡ Some p → PointRead s fraction fs ts fs' ts' p
    unfolding point_of_blob
    point_read fraction p e = record { point = rw segments at e; memory = written_at }

-- ---- the outcome

module _ (s : List ℕ) (fraction : Float) (w : Workspaces) (out : List ℕ) where
  pub outcome_refused : (r : Refusal) → refused_or (first_of (interpolation_checks s fraction (length w.floats1) (length w.table1) (length out))) (operand_of s) ≡ Err r → outcome (refusing r) w out ≡ line_interpolate_point s fraction w out
  unfolding line_interpolate_point
  outcome_refused r p = rw (refused_is _ (operand_of s) r p)

  pub outcome_written : (o : Operand) → IsAccepted s fraction (length w.floats1) (length w.table1) (length out) o → (fs : List Float) (ts : List ℕ) (p : Point) → PointRead s fraction w.floats1 w.table1 fs ts p → (out' : List ℕ) → out' ≡ point_blob o.srid p.x p.y p.z ++ drop point_bytes out → outcome (answering blob) (workspaces fs ts w.floats2 w.table2) out' ≡ line_interpolate_point s fraction w out
  unfolding line_interpolate_point filled_one output_with
  outcome_written o a fs ts p read out' e = rw (a.none_first, read.memory.ordinates, read.memory.rows, e, a.own, read.point)

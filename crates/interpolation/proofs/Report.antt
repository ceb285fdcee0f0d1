-- What a call reports: by the blob, the fraction and the lengths lent alone, and each refusal exactly when the table gives it. Assumes nothing.
use mathlib.Core.Path.{◌≡◌, refl, ap}
use mathlib.Core.Logic.{◌↔◌}
use mathlib.Core.List.{List, [], ◌∷◌}
use Rattle.std.specs.Prelude.{None, Some}
use Prim.Native.Nat.{ℕ}
use native.Mathlib.Omega.{arith}
use lib.ListN.{length}
use lib.Ieee.{Float}
use Rattle.refusals.specs.Checks.{first_of}
use Rattle.refusals.specs.declared.Refusal.{Refusal}
use Rattle.coords.specs.Parts.{map_runs}
use Rattle.blob.specs.Blob.{runs_of_blob}
use Rattle.parts.specs.Points.{point_of}
use Rattle.primitives.specs.declared.Point.{Point}
use Rattle.operands.specs.Operands.{Workspaces}
use Rattle.outcomes.specs.Answers.{refusing}
use Rattle.outcomes.proofs.Lengths.{SameLengths, same_report}
use Rattle.outcomes.proofs.RefusedExactly.{First, exactly}
use Rattle.interpolation.specs.Interpolation.{Segment, segments_of, total_of, point_along, interpolated_point}
use Rattle.interpolation.specs.Operation.{interpolation_checks, point_of_blob, checks_of_lent, line_interpolate_point}
use Rattle.interpolation.proofs.Lines.{segments_map, has_segment}
use Rattle.interpolation.proofs.Order.{none_holds}

by_lengths : (s : List ℕ) (fraction : Float) (w v : Workspaces) (out out' : List ℕ) → SameLengths w v → length out ≡ length out' → checks_of_lent s fraction w out ≡ checks_of_lent s fraction v out'
by_lengths s fraction w v out out' same e = rw (same.floats1, same.table1, e)

-- End theorem: what the lent memory holds changes no report: its lengths alone matter
pub report_by_lengths : (s : List ℕ) (fraction : Float) (w v : Workspaces) (out out' : List ℕ) → SameLengths w v → length out ≡ length out' → (line_interpolate_point s fraction w out).report ≡ (line_interpolate_point s fraction v out').report
unfolding line_interpolate_point
report_by_lengths s fraction w v out out' same e = same_report _ _ _ _ _ _ _ _ _ _ _ (ap first_of (by_lengths s fraction w v out out' same e))

-- End theorem: a refusal is reported exactly when a check gives it whose condition holds, and no earlier one holds
pub refused_exactly : (s : List ℕ) (fraction : Float) (w : Workspaces) (out : List ℕ) (r : Refusal) → ((line_interpolate_point s fraction w out).report ≡ refusing r) ↔ First (checks_of_lent s fraction w out) r
unfolding line_interpolate_point
refused_exactly s fraction w out r = exactly (checks_of_lent s fraction w out) r _ _ w _ out

-- End theorem: a call that refuses nothing has a point
pub accepted_has_point : (s : List ℕ) (fraction : Float) (floats numbers output : ℕ) → first_of (interpolation_checks s fraction floats numbers output) ≡ None → (p : Point) × (point_of_blob s fraction ≡ Some p)
unfolding point_of_blob interpolated_point
accepted_has_point s fraction floats numbers output e = go (segments_of (map_runs point_of (runs_of_blob s))) refl
  where
    go : (gs : List (Segment Point)) → segments_of (map_runs point_of (runs_of_blob s)) ≡ gs → (p : Point) × (interpolated_point fraction gs ≡ Some p)
    go [] i = absurd (omega (arith, ap length i, segments_map point_of (runs_of_blob s), has_segment (runs_of_blob s) (none_holds s fraction floats numbers output e).line))
    go (g ∷ gs) i = (point_along fraction (total_of (g ∷ gs)) g gs, refl)

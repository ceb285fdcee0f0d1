-- Blobs that are measured alike get the same report and output: those that differ in what is ignored, and those whose m differs. Assumes nothing.
use Prim.Native.Nat.{ℕ, ◌+◌}
use mathlib.Core.Path.{◌≡◌, refl, sym, ap, ◌∙◌}
use mathlib.Core.List.{List, [], ◌∷◌}
use lib.Ieee.{Float}
use Rattle.refusals.specs.Checks.{check, first_of}
use Rattle.refusals.specs.declared.Reason.TheVariants.{FractionOutOfRange}
use Rattle.refusals.specs.declared.Side.TheVariants.{First}
use Rattle.coords.specs.Parts.{Run, run, map_runs, other_if, other_count}
use Rattle.blob.specs.Blob.{runs_of_blob}
use Rattle.blob.specs.Ignored.{SameButIgnored}
use Rattle.parts.specs.Points.{point_of}
use Rattle.operands.specs.Operands.{Workspaces}
use Rattle.outcomes.specs.Operations.{no_side}
use Rattle.outcomes.specs.Alike.{MeasuredAlike, AnswersAlike, SameButM}
use Rattle.outcomes.proofs.Alike.{ignored_measured_alike, coordinates_alike, runs_alike, two_alike, side_alike, alike}
use Rattle.outcomes.proofs.WithoutM.{same_but_m_measured_alike}
use Rattle.interpolation.specs.Operation.{out_of_range, is_no_line, interpolation_checks, checks_of_lent, point_of_blob, line_interpolate_point}
use Rattle.interpolation.proofs.Lines.{segments_map}

-- points and faces go by kinds alone
others_map : {A B : Type 0} (f : A → B) (rs : List (Run A)) → other_count (map_runs f rs) ≡ other_count rs
unfolding other_count map_runs
others_map f [] = refl
others_map f (run kind cs ∷ rs) = ap (λ (n : ℕ). other_if kind + n) (others_map f rs)

no_line_map : {A B : Type 0} (f : A → B) (rs : List (Run A)) → is_no_line (map_runs f rs) ≡ is_no_line rs
unfolding is_no_line
no_line_map f rs = rw (others_map f rs, segments_map f rs)

module _ (s t : List ℕ) (same : MeasuredAlike s t) where
  no_line_alike : is_no_line (runs_of_blob s) ≡ is_no_line (runs_of_blob t)
  no_line_alike = sym (no_line_map point_of (runs_of_blob s)) ∙ (ap is_no_line same.points ∙ no_line_map point_of (runs_of_blob t))

  checks_alike : (fraction : Float) (w : Workspaces) (lent : List ℕ) → first_of (checks_of_lent s fraction w lent) ≡ first_of (checks_of_lent t fraction w lent)
  unfolding interpolation_checks
  checks_alike fraction w lent =
      two_alike (check (no_side FractionOutOfRange) (out_of_range fraction) ∷ []) _ _ _ refl
      (two_alike _ _ _ _ (side_alike First _ _ same.header)
      (two_alike _ _ _ _ (side_alike First _ _ same.walk) (rw (no_line_alike, coordinates_alike s t same, runs_alike s t same))))

  pub line_interpolate_point_alike : (fraction : Float) (w : Workspaces) (lent : List ℕ) → AnswersAlike (line_interpolate_point s fraction w lent) (line_interpolate_point t fraction w lent)
  unfolding line_interpolate_point point_of_blob
  line_interpolate_point_alike fraction w lent = alike _ _ _ _ _ _ _ _ _ _ (checks_alike fraction w lent) refl (rw (same.srid, same.points))

-- End theorem: blobs that differ in what is ignored alone get the same report and output.
pub what_is_ignored_along : (s t : List ℕ) → SameButIgnored s t → (fraction : Float) (w : Workspaces) (lent : List ℕ) → AnswersAlike (line_interpolate_point s fraction w lent) (line_interpolate_point t fraction w lent)
what_is_ignored_along s t h = line_interpolate_point_alike s t (ignored_measured_alike s t h)

-- End theorem: where what is read of two blobs differs in m at most, the report and output are the same.
pub m_is_ignored_along : (s t : List ℕ) → SameButM s t → (fraction : Float) (w : Workspaces) (lent : List ℕ) → AnswersAlike (line_interpolate_point s fraction w lent) (line_interpolate_point t fraction w lent)
m_is_ignored_along s t h = line_interpolate_point_alike s t (same_but_m_measured_alike s t h)

-- The third property of the shortest line (mission, third property), for every call whose blobs hold point runs only: by both rules, since points have no
-- crossing. Assumes nothing.
use mathlib.Core.Path.{◌≡◌, sym, subst}
use mathlib.Core.List.{List, ◌++◌}
use Prim.Native.Nat.{ℕ, ◌<◌}
use lib.ListN.{get_or}
use Rattle.std.specs.Prelude.{None, Some}
use Rattle.refusals.specs.Checks.{first_of}
use Rattle.parts.specs.Points.{point_of}
use Rattle.extremes.specs.Extreme.{measured, distance_of, at_least, Holds}
use Rattle.blob.specs.Blob.{runs_of_blob}
use Rattle.coords.specs.Parts.{PointRunsOnly}
use Rattle.closest.proofs.PointsOnly.{shortest_line_of_runs}
use Rattle.operands.specs.Operands.{Workspaces, filled}
use Rattle.outcomes.specs.Answers.{nothing, blob, answering}
use Rattle.outcomes.specs.Operations.{Outcome, vertices_of_blob, closest_pair, rule_checks, line_checks, shortest_line}
use Rattle.outcomes.specs.ThirdProperty.{ShortestOfPoints}
use Rattle.outcomes.proofs.FirstExtremeLine.{point_binary64, accepted_line}
use Rattle.outcomes.proofs.Rules.{points_by_every_rule}

-- the closest pair of two blobs that hold point runs only
closest_holds : (rule : ℕ) (a b : List ℕ) → PointRunsOnly (runs_of_blob a) → PointRunsOnly (runs_of_blob b) → Holds (distance_of point_of) at_least (vertices_of_blob a) (vertices_of_blob b) (closest_pair rule a b ≡ None) (λ p. closest_pair rule a b ≡ Some (measured point_of p))
closest_holds rule a b p q = rw (points_by_every_rule rule a b p q) (shortest_line_of_runs point_of point_binary64 (runs_of_blob a) (runs_of_blob b) p q)

module _ (a b : List ℕ) (rule : ℕ) (w : Workspaces) (output : List ℕ) (bytes1 : (i : ℕ) → get_or a i 0 < 256) (bytes2 : (i : ℕ) → get_or b i 0 < 256) where
  pub shortest_of_points : ShortestOfPoints (answering nothing) (answering blob) a b rule w output (shortest_line a b rule w output).report (shortest_line a b rule w output).output
  unfolding shortest_line
  shortest_of_points =
      record {
        first_extreme_line = λ first p q. accepted_line a b bytes1 bytes2 (closest_pair rule a b) (closest_holds rule a b p q) output (first_of (rule_checks rule ++ line_checks a b w output)) (filled a b w) w first;
      }

  -- the same of an outcome that was shown to be the operation's
  pub shortest_of_outcome : (o : Outcome) → o ≡ shortest_line a b rule w output → ShortestOfPoints (answering nothing) (answering blob) a b rule w output o.report o.output
  shortest_of_outcome o e = subst (λ (o : Outcome). ShortestOfPoints (answering nothing) (answering blob) a b rule w output o.report o.output) (sym e) shortest_of_points

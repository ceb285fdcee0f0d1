-- What a rule changes and what not (document 02, 3/13): when 17 is given, and by which rule the outcomes are those of document 01, which knows no rule.
-- Definitions only.
use Rattle.std.specs.Prelude.{ℕ, ◌≡◌, ◌↔◌, false, List, [], ◌++◌, Float, Option}
use Rattle.std.specs.Float.Ieee.{lt}
use Rattle.ieee754.specs.MinMax.{positive_zero}
use Rattle.refusals.specs.Checks.{first_of}
use Rattle.refusals.specs.declared.Reason.TheVariants.{UnknownRule}
use Rattle.refusals.specs.declared.Side.TheVariants.{Neither}
use Rattle.gpb.specs.Header.{srid_of}
use Rattle.gpb.specs.Written.{point_bytes}
use Rattle.primitives.specs.declared.Witness.{Witness}
use Rattle.parts.specs.Points.{point_of}
use Rattle.coords.specs.Parts.{map_runs, is_face}
use Rattle.blob.specs.Blob.{runs_of_blob}
use Rattle.operands.specs.Operands.{Workspaces, lent_checks, filled}
use Rattle.items.specs.Items.{triangle_items, items_of_kind}
use Rattle.items.specs.Closest.{closest_of}
use Rattle.outcomes.specs.Answers.{answering, refused}
use Rattle.outcomes.specs.Operations.{outcome, unless, items_of_blob, tolerance_checks, output_checks, line_checks, distance_value, within_value, touching_value, blob_value, point_after, line_after, distance, within, intersects, closest_point, shortest_line}

-- ---- 17

-- a rule number other than 1 or 2
abbrev pub OtherRule : ℕ → Type 0
OtherRule rule = (rule ≡ 1 → ⊥) × (rule ≡ 2 → ⊥)

-- 17, of no side, is given exactly for a rule number other than 1 or 2, after 1, whatever the blobs and the memory lent
pub record RuleRefusedExactly (rule : ℕ) (a b : List ℕ) (w : Workspaces) : Type 0 where
  pub least_distance : ((distance a b rule w).report ≡ refused UnknownRule Neither) ↔ OtherRule rule
  pub is_within : (d : Float) → ((within a b d rule w).report ≡ refused UnknownRule Neither) ↔ ((lt d positive_zero ≡ false) × OtherRule rule)
  pub intersection : ((intersects a b rule w).report ≡ refused UnknownRule Neither) ↔ OtherRule rule
  pub closest_point : (output : List ℕ) → ((closest_point a b rule w output).report ≡ refused UnknownRule Neither) ↔ OtherRule rule
  pub shortest_line : (output : List ℕ) → ((shortest_line a b rule w output).report ≡ refused UnknownRule Neither) ↔ OtherRule rule

-- ---- document 01's outcomes

-- the closest pair without a rule
abbrev pub pair_without_rule : List ℕ → List ℕ → Option Witness
pair_without_rule a b = closest_of (items_of_blob a) (items_of_blob b)

-- by this rule each operation has document 01's outcome: report, workspaces and output by the checks and the pair without a rule
pub record AsWithoutRule (rule : ℕ) (a b : List ℕ) (w : Workspaces) : Type 0 where
  pub least_distance : distance a b rule w
      ≡ unless (first_of (lent_checks a b w)) (outcome (answering (distance_value (pair_without_rule a b))) (filled a b w) []) w []
  pub is_within : (d : Float) → within a b d rule w
      ≡ unless (first_of (tolerance_checks d ++ lent_checks a b w)) (outcome (answering (within_value d (pair_without_rule a b))) (filled a b w) []) w []
  pub intersection : intersects a b rule w
      ≡ unless (first_of (lent_checks a b w)) (outcome (answering (touching_value (pair_without_rule a b))) (filled a b w) []) w []
  pub closest_point : (output : List ℕ) → closest_point a b rule w output
      ≡ unless (first_of (lent_checks a b w ++ output_checks point_bytes output))
      (outcome (answering (blob_value (pair_without_rule a b))) (filled a b w) (point_after (srid_of a) (pair_without_rule a b) output)) w output
  pub shortest_line : (output : List ℕ) → shortest_line a b rule w output
      ≡ unless (first_of (line_checks a b w output))
      (outcome (answering (blob_value (pair_without_rule a b))) (filled a b w) (line_after (srid_of a) (pair_without_rule a b) output)) w output

-- a blob whose faces give no triangle, or that has no face
abbrev pub NoTriangles : List ℕ → Type 0
NoTriangles s = items_of_kind is_face triangle_items (map_runs point_of (runs_of_blob s)) ≡ []

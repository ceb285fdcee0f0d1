-- End theorems: blobs that are measured alike, with the same Z test, get the same report and output from every measuring operation on two blobs, on either
-- side. Assumes nothing.
use Prim.Native.Nat.{ℕ}
use mathlib.Core.Path.{◌≡◌, refl, sym, ap, ◌∙◌}
use mathlib.Core.List.{List, ◌++◌}
use Rattle.std.specs.Prelude.{Option, None, Some}
use lib.ListN.{length}
use lib.Ieee.{Float}
use Rattle.refusals.specs.Checks.{Check, first_of, on_side}
use Rattle.refusals.specs.declared.Reason.{Reason}
use Rattle.refusals.specs.declared.Side.{Side}
use Rattle.refusals.specs.declared.Side.TheVariants.{First, Second}
use Rattle.refusals.specs.declared.Refusal.{Refusal}
use Rattle.refusals.proofs.Sides.{first_on_side, first_of_two}
use Rattle.gpb.specs.Written.{point_bytes}
use Rattle.coords.specs.Walk.{Parsed, Geometry}
use Rattle.coords.specs.Parts.{map_runs, walked_runs, coordinate_count, vertices_of}
use Rattle.coords.specs.Refusals.{walk_checks}
use Rattle.coords.proofs.Parts.{vertices_map, count_map, runs_map}
use Rattle.blob.specs.Blob.{runs_of_blob}
use Rattle.blob.specs.Ignored.{SameButIgnored}
use Rattle.blob.proofs.Ignored.{ignored_changes_nothing}
use Rattle.parts.specs.Points.{point_of}
use Rattle.primitives.specs.declared.Witness.{Witness}
use Rattle.operands.specs.Operands.{Workspaces, both_checks, workspace_checks, operand_checks, lent_checks}
use Rattle.outcomes.specs.Answers.{Report, answering}
use Rattle.outcomes.specs.Operations.{outcome, tolerance_checks, rule_checks, output_checks, unless, vertex_points, farthest_pair, closest_pair, distance_value, within_value, touching_value, blob_value, max_distance, fully_within, line_checks, longest_line, distance, within, intersects, closest_point, shortest_line}
use Rattle.outcomes.specs.Alike.{MeasuredAlike, SameZTest, AnswersAlike, PairsAnsweredAlike}

-- ---- what is ignored of a blob

-- a blob that differs from another in what is ignored alone is measured alike
pub ignored_measured_alike : (s t : List ℕ) → SameButIgnored s t → MeasuredAlike s t
unfolding walk_checks
ignored_measured_alike s t h =
    let r = ignored_changes_nothing s t h in
    record {
      header = ap first_of r.header;
      walk = rw r.walk;
      srid = r.srid;
      points = ap (λ (w : Parsed Geometry). map_runs point_of (walked_runs w)) r.walk;
    }

pub ignored_same_z_test : (s t : List ℕ) → SameButIgnored s t → SameZTest s t
ignored_same_z_test s t h = ap first_of (ignored_changes_nothing s t h).header_3d

-- every blob is measured as itself: the law for one side is that for both
pub measured_as_itself : (s : List ℕ) → MeasuredAlike s s
measured_as_itself s = record { header = refl; walk = refl; srid = refl; points = refl }

-- ---- counts

module _ (s t : List ℕ) (same : MeasuredAlike s t) where
  pub coordinates_alike : coordinate_count (runs_of_blob s) ≡ coordinate_count (runs_of_blob t)
  coordinates_alike = sym (count_map point_of (runs_of_blob s)) ∙ (ap coordinate_count same.points ∙ count_map point_of (runs_of_blob t))

  pub runs_alike : length (runs_of_blob s) ≡ length (runs_of_blob t)
  runs_alike = sym (runs_map point_of (runs_of_blob s)) ∙ (ap length same.points ∙ runs_map point_of (runs_of_blob t))

-- ---- refusals

pub two_alike : {A : Type 0} (cs cs' ds ds' : List (Check A)) → first_of cs ≡ first_of cs' → first_of ds ≡ first_of ds' → first_of (cs ++ ds) ≡ first_of (cs' ++ ds')
two_alike cs cs' ds ds' p q = first_of_two cs ds ∙ (rw (p, q) (sym (first_of_two cs' ds')))

pub side_alike : (side : Side) (cs cs' : List (Check Reason)) → first_of cs ≡ first_of cs' → first_of (on_side side cs) ≡ first_of (on_side side cs')
side_alike side cs cs' p = first_on_side side cs ∙ (rw p (sym (first_on_side side cs')))

-- ---- outcomes

pub alike : (x y : Option Refusal) (r r' : Report) (m m' w : Workspaces) (o o' l : List ℕ) → x ≡ y → r ≡ r' → o ≡ o' → AnswersAlike (unless x (outcome r m o) w l) (unless y (outcome r' m' o') w l)
alike x y r r' m m' w o o' l e p q = rw e (go y)
  where
    go : (z : Option Refusal) → AnswersAlike (unless z (outcome r m o) w l) (unless z (outcome r' m' o') w l)
    go None = record { report = p; output = q }
    go (Some t) = record { report = refl; output = refl }

module _ (a a' b b' : List ℕ) (first : MeasuredAlike a a') (first_z : SameZTest a a') (second : MeasuredAlike b b') (second_z : SameZTest b b') where
  -- ---- the pairs

  vertices_alike : (s t : List ℕ) → MeasuredAlike s t → vertex_points s ≡ vertex_points t
  vertices_alike s t h = sym (vertices_map point_of (runs_of_blob s)) ∙ (ap vertices_of h.points ∙ vertices_map point_of (runs_of_blob t))

  farthest_alike : farthest_pair a b ≡ farthest_pair a' b'
  farthest_alike = rw (vertices_alike a a' first, vertices_alike b b' second)

  closest_alike : (rule : ℕ) → closest_pair rule a b ≡ closest_pair rule a' b'
  closest_alike rule = rw (first.points, second.points)

  module _ (w : Workspaces) where
    lent_alike : first_of (lent_checks a b w) ≡ first_of (lent_checks a' b' w)
    unfolding both_checks operand_checks workspace_checks
    lent_alike =
        two_alike _ _ _ _
        (two_alike _ _ _ _ (side_alike First _ _ first_z)
        (two_alike _ _ _ _ (side_alike Second _ _ second_z)
        (two_alike _ _ _ _ (side_alike First _ _ first.walk) (side_alike Second _ _ second.walk))))
        (rw (coordinates_alike a a' first, runs_alike a a' first, coordinates_alike b b' second, runs_alike b b' second))

    line_alike : (lent : List ℕ) → first_of (line_checks a b w lent) ≡ first_of (line_checks a' b' w lent)
    unfolding line_checks
    line_alike lent = two_alike _ _ _ _ lent_alike refl

    -- ---- the operations

    pub max_distance_alike : AnswersAlike (max_distance a b w) (max_distance a' b' w)
    unfolding max_distance
    max_distance_alike = alike _ _ _ _ _ _ _ _ _ _ lent_alike (ap (λ (p : Option Witness). answering (distance_value p)) farthest_alike) refl

    pub fully_within_alike : (d : Float) → AnswersAlike (fully_within a b d w) (fully_within a' b' d w)
    unfolding fully_within
    fully_within_alike d = alike _ _ _ _ _ _ _ _ _ _ (two_alike (tolerance_checks d) _ _ _ refl lent_alike) (ap (λ (p : Option Witness). answering (within_value d p)) farthest_alike) refl

    pub longest_line_alike : (lent : List ℕ) → AnswersAlike (longest_line a b w lent) (longest_line a' b' w lent)
    unfolding longest_line
    longest_line_alike lent = alike _ _ _ _ _ _ _ _ _ _ (line_alike lent) (ap (λ (p : Option Witness). answering (blob_value p)) farthest_alike) (rw (first.srid, farthest_alike))

    module _ (rule : ℕ) where
      -- with the rule's check before others
      rule_alike : (cs cs' : List (Check Refusal)) → first_of cs ≡ first_of cs' → first_of (rule_checks rule ++ cs) ≡ first_of (rule_checks rule ++ cs')
      rule_alike cs cs' e = two_alike (rule_checks rule) _ cs cs' refl e

      pub distance_alike : AnswersAlike (distance a b rule w) (distance a' b' rule w)
      unfolding distance
      distance_alike = alike _ _ _ _ _ _ _ _ _ _ (rule_alike _ _ lent_alike) (ap (λ (p : Option Witness). answering (distance_value p)) (closest_alike rule)) refl

      pub within_alike : (d : Float) → AnswersAlike (within a b d rule w) (within a' b' d rule w)
      unfolding within
      within_alike d = alike _ _ _ _ _ _ _ _ _ _ (two_alike (tolerance_checks d) _ _ _ refl (rule_alike _ _ lent_alike)) (ap (λ (p : Option Witness). answering (within_value d p)) (closest_alike rule)) refl

      pub intersects_alike : AnswersAlike (intersects a b rule w) (intersects a' b' rule w)
      unfolding intersects
      intersects_alike = alike _ _ _ _ _ _ _ _ _ _ (rule_alike _ _ lent_alike) (ap (λ (p : Option Witness). answering (touching_value p)) (closest_alike rule)) refl

      pub closest_point_alike : (lent : List ℕ) → AnswersAlike (closest_point a b rule w lent) (closest_point a' b' rule w lent)
      unfolding closest_point
      closest_point_alike lent = alike _ _ _ _ _ _ _ _ _ _ (rule_alike _ _ (two_alike _ _ (output_checks point_bytes lent) _ lent_alike refl)) (ap (λ (p : Option Witness). answering (blob_value p)) (closest_alike rule)) (rw (first.srid, closest_alike rule))

      pub shortest_line_alike : (lent : List ℕ) → AnswersAlike (shortest_line a b rule w lent) (shortest_line a' b' rule w lent)
      unfolding shortest_line
      shortest_line_alike lent = alike _ _ _ _ _ _ _ _ _ _ (rule_alike _ _ (line_alike lent)) (ap (λ (p : Option Witness). answering (blob_value p)) (closest_alike rule)) (rw (first.srid, closest_alike rule))

-- ---- all of them

pub pairs_answered_alike : (a a' b b' : List ℕ) → MeasuredAlike a a' → SameZTest a a' → MeasuredAlike b b' → SameZTest b b' → PairsAnsweredAlike a b a' b'
pairs_answered_alike a a' b b' p y q z =
    record {
      max_distance = max_distance_alike a a' b b' p y q z;
      fully_within = λ d w. fully_within_alike a a' b b' p y q z w d;
      longest_line = longest_line_alike a a' b b' p y q z;
      least_distance = λ rule w. distance_alike a a' b b' p y q z w rule;
      is_within = λ d rule w. within_alike a a' b b' p y q z w rule d;
      intersection = λ rule w. intersects_alike a a' b b' p y q z w rule;
      closest_point = λ rule w. closest_point_alike a a' b b' p y q z w rule;
      shortest_line = λ rule w. shortest_line_alike a a' b b' p y q z w rule;
    }

-- Blobs that differ on each side in what is ignored alone get the same report and output from every measuring operation on two blobs.
pub what_is_ignored : (a a' b b' : List ℕ) → SameButIgnored a a' → SameButIgnored b b' → PairsAnsweredAlike a b a' b'
what_is_ignored a a' b b' p q =
    pairs_answered_alike a a' b b' (ignored_measured_alike a a' p) (ignored_same_z_test a a' p) (ignored_measured_alike b b' q) (ignored_same_z_test b b' q)

-- End theorems: what an operation reports depends on the blobs, the numbers and the lengths of the memory lent, never on what stands in it. Assumes nothing.
use mathlib.Core.Path.{◌≡◌, refl, ap, ◌∙◌}
use mathlib.Core.List.{List, ◌++◌}
use Rattle.std.specs.Prelude.{Option, None, Some}
use Prim.Native.Nat.{ℕ}
use lib.ListN.{length}
use lib.Ieee.{Float}
use Rattle.refusals.specs.Checks.{first_of}
use Rattle.refusals.specs.declared.Refusal.{Refusal}
use Rattle.gpb.specs.Written.{point_bytes}
use Rattle.operands.specs.Operands.{Workspaces, lent_checks}
use Rattle.outcomes.specs.Answers.{Report}
use Rattle.outcomes.specs.Operations.{outcome, tolerance_checks, rule_checks, output_checks, unless, max_distance, fully_within, line_checks, longest_line, distance, within, intersects, closest_point, shortest_line}

pub record SameLengths (w v : Workspaces) : Type 0 where
  pub floats1 : length w.floats1 ≡ length v.floats1
  pub table1 : length w.table1 ≡ length v.table1
  pub floats2 : length w.floats2 ≡ length v.floats2
  pub table2 : length w.table2 ≡ length v.table2

-- by the refusal, or the value
pub same_report : (x y : Option Refusal) (r : Report) (m m' w v : Workspaces) (o o' l l' : List ℕ) → x ≡ y → (unless x (outcome r m o) w l).report ≡ (unless y (outcome r m' o') v l').report
same_report x y r m m' w v o o' l l' e = ap (λ (z : Option Refusal). (unless z (outcome r m o) w l).report) e ∙ go y
  where
    go : (z : Option Refusal) → (unless z (outcome r m o) w l).report ≡ (unless z (outcome r m' o') v l').report
    go None = refl
    go (Some t) = refl

module _ (a b : List ℕ) (w v : Workspaces) (same : SameLengths w v) where
  same_checks : lent_checks a b w ≡ lent_checks a b v
  same_checks = rw (same.floats1, same.table1, same.floats2, same.table2)

  same_lent : first_of (lent_checks a b w) ≡ first_of (lent_checks a b v)
  same_lent = rw same_checks

  same_tolerance : (d : Float) → first_of (tolerance_checks d ++ lent_checks a b w) ≡ first_of (tolerance_checks d ++ lent_checks a b v)
  same_tolerance d = rw same_checks

  same_line : (lent lent' : List ℕ) → length lent ≡ length lent' → line_checks a b w lent ≡ line_checks a b v lent'
  unfolding line_checks output_checks
  same_line lent lent' e = rw (same_checks, e)

  pub same_max_distance : (max_distance a b w).report ≡ (max_distance a b v).report
  unfolding max_distance
  same_max_distance = same_report _ _ _ _ _ _ _ _ _ _ _ same_lent

  pub same_fully_within : (d : Float) → (fully_within a b d w).report ≡ (fully_within a b d v).report
  unfolding fully_within
  same_fully_within d = same_report _ _ _ _ _ _ _ _ _ _ _ (same_tolerance d)

  pub same_longest_line : (lent lent' : List ℕ) → length lent ≡ length lent' → (longest_line a b w lent).report ≡ (longest_line a b v lent').report
  unfolding longest_line
  same_longest_line lent lent' long = same_report _ _ _ _ _ _ _ _ _ _ _ (ap first_of (same_line lent lent' long))

  module _ (rule : ℕ) where
    same_rule : first_of (rule_checks rule ++ lent_checks a b w) ≡ first_of (rule_checks rule ++ lent_checks a b v)
    same_rule = rw same_checks

    pub same_distance : (distance a b rule w).report ≡ (distance a b rule v).report
    unfolding distance
    same_distance = same_report _ _ _ _ _ _ _ _ _ _ _ same_rule

    pub same_intersects : (intersects a b rule w).report ≡ (intersects a b rule v).report
    unfolding intersects
    same_intersects = same_report _ _ _ _ _ _ _ _ _ _ _ same_rule

    pub same_within : (d : Float) → (within a b d rule w).report ≡ (within a b d rule v).report
    unfolding within
    same_within d = let same : first_of (tolerance_checks d ++ (rule_checks rule ++ lent_checks a b w)) ≡ first_of (tolerance_checks d ++ (rule_checks rule ++ lent_checks a b v)) = rw same_checks in
        same_report _ _ _ _ _ _ _ _ _ _ _ same

    pub same_shortest_line : (lent lent' : List ℕ) → length lent ≡ length lent' → (shortest_line a b rule w lent).report ≡ (shortest_line a b rule v lent').report
    unfolding shortest_line
    same_shortest_line lent lent' long = let same : first_of (rule_checks rule ++ line_checks a b w lent) ≡ first_of (rule_checks rule ++ line_checks a b v lent') = rw (same_line lent lent' long) in
        same_report _ _ _ _ _ _ _ _ _ _ _ same

    pub same_closest_point : (lent lent' : List ℕ) → length lent ≡ length lent' → (closest_point a b rule w lent).report ≡ (closest_point a b rule v lent').report
    unfolding closest_point output_checks
    same_closest_point lent lent' long =
        let same : first_of (rule_checks rule ++ (lent_checks a b w ++ output_checks point_bytes lent)) ≡ first_of (rule_checks rule ++ (lent_checks a b v ++ output_checks point_bytes lent')) = rw (same_checks, long) in
        same_report _ _ _ _ _ _ _ _ _ _ _ same

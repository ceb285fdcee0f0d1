-- End theorems: each operation refuses exactly where the table says, by the first of its checks that holds. Assumes nothing.
use mathlib.Core.Path.{◌≡◌, ap, ◌∙◌}
use mathlib.Core.Logic.{◌↔◌}
use mathlib.Core.Bool.{cond}
use mathlib.Core.List.{List, [], ◌++◌}
use Rattle.std.specs.Prelude.{Option, None, Some}
use Rattle.std.specs.Option.{option_or}
use Prim.Native.Nat.{ℕ}
use lib.Dec.{ltb}
use lib.ListN.{length}
use lib.Ieee.{Float}
use Rattle.refusals.specs.Checks.{Check, first_of, FirstCheckAt}
use Rattle.refusals.specs.declared.Reason.TheVariants.{OutputTooShort}
use Rattle.refusals.specs.declared.Refusal.{Refusal}
use Rattle.refusals.proofs.Checks.{given_exactly}
use Rattle.refusals.proofs.Sides.{first_of_two, first_of_one}
use Rattle.gpb.specs.Written.{point_bytes}
use Rattle.operands.specs.Operands.{Workspaces, lent_checks}
use Rattle.outcomes.specs.Answers.{Value, answering, refusing}
use Rattle.outcomes.specs.Operations.{outcome, no_side, tolerance_checks, rule_checks, output_checks, unless, max_distance, fully_within, line_checks, longest_line, distance, within, intersects, closest_point, shortest_line}

-- the check that gives r holds, and no earlier one does
abbrev pub First : List (Check Refusal) → Refusal → Type 0
First cs r = (i : ℕ) × (c : Check Refusal) × FirstCheckAt cs r i c

same_refusal : (t r : Refusal) → refusing t ≡ refusing r → t ≡ r
same_refusal t r e =
    let reason : t.reason ≡ r.reason = cc in
    let side : t.side ≡ r.side = cc in
    rw (reason, side)

-- a refusal is reported exactly where it is given
pub reported_exactly : (x : Option Refusal) (r : Refusal) (v : Value) (m w : Workspaces) (o l : List ℕ) → ((unless x (outcome (answering v) m o) w l).report ≡ refusing r) ↔ (x ≡ Some r)
reported_exactly x r v m w o l = (go x, λ e. rw e)
  where
    go : (x : Option Refusal) → (unless x (outcome (answering v) m o) w l).report ≡ refusing r → x ≡ Some r
    go None h = cc
    go (Some t) h = ap Some (same_refusal t r h)

pub exactly : (cs : List (Check Refusal)) (r : Refusal) (v : Value) (m w : Workspaces) (o l : List ℕ) → ((unless (first_of cs) (outcome (answering v) m o) w l).report ≡ refusing r) ↔ First cs r
exactly cs r v m w o l = let e = reported_exactly (first_of cs) r v m w o l in (λ h. (given_exactly cs r).0 (e.0 h), λ f. e.1 ((given_exactly cs r).1 f))

-- of a line: what refuses the operands comes first; then 16, by the output's length alone
pub line_refused_by : (a b : List ℕ) (w : Workspaces) (lent : List ℕ) → first_of (line_checks a b w lent) ≡ option_or (first_of (lent_checks a b w)) (cond (ltb (length lent) 65) (Some (no_side OutputTooShort)) None)
unfolding line_checks output_checks
line_refused_by a b w lent = first_of_two (lent_checks a b w) (output_checks 65 lent) ∙ rw (first_of_one (no_side OutputTooShort) (ltb (length lent) 65))

module _ (a b : List ℕ) (w : Workspaces) (r : Refusal) where
  pub max_distance_refused : ((max_distance a b w).report ≡ refusing r) ↔ First (lent_checks a b w) r
  unfolding max_distance
  max_distance_refused = exactly (lent_checks a b w) r _ _ w [] []

  pub fully_within_refused : (d : Float) → ((fully_within a b d w).report ≡ refusing r) ↔ First (tolerance_checks d ++ lent_checks a b w) r
  unfolding fully_within
  fully_within_refused d = exactly (tolerance_checks d ++ lent_checks a b w) r _ _ w [] []

  pub longest_line_refused : (lent : List ℕ) → ((longest_line a b w lent).report ≡ refusing r) ↔ First (line_checks a b w lent) r
  unfolding longest_line
  longest_line_refused lent = exactly (line_checks a b w lent) r _ _ w _ lent

  module _ (rule : ℕ) where
    pub distance_refused : ((distance a b rule w).report ≡ refusing r) ↔ First (rule_checks rule ++ lent_checks a b w) r
    unfolding distance
    distance_refused = exactly (rule_checks rule ++ lent_checks a b w) r _ _ w [] []

    pub intersects_refused : ((intersects a b rule w).report ≡ refusing r) ↔ First (rule_checks rule ++ lent_checks a b w) r
    unfolding intersects
    intersects_refused = exactly (rule_checks rule ++ lent_checks a b w) r _ _ w [] []

    pub within_refused : (d : Float) → ((within a b d rule w).report ≡ refusing r) ↔ First (tolerance_checks d ++ (rule_checks rule ++ lent_checks a b w)) r
    unfolding within
    within_refused d = exactly (tolerance_checks d ++ (rule_checks rule ++ lent_checks a b w)) r _ _ w [] []

    pub shortest_line_refused : (lent : List ℕ) → ((shortest_line a b rule w lent).report ≡ refusing r) ↔ First (rule_checks rule ++ line_checks a b w lent) r
    unfolding shortest_line
    shortest_line_refused lent = exactly (rule_checks rule ++ line_checks a b w lent) r _ _ w _ lent

    pub closest_point_refused : (lent : List ℕ) → ((closest_point a b rule w lent).report ≡ refusing r) ↔ First (rule_checks rule ++ (lent_checks a b w ++ output_checks point_bytes lent)) r
    unfolding closest_point
    closest_point_refused lent = exactly (rule_checks rule ++ (lent_checks a b w ++ output_checks point_bytes lent)) r _ _ w _ lent

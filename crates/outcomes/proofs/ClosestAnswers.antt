-- End theorems: laws of the answers over the closest pair, by either rule: intersects says that the distance is 0, and none is answered exactly where a side has no item. Assumes nothing.
use mathlib.Core.Path.{◌≡◌, refl, sym, ◌∙◌}
use mathlib.Core.Logic.{◌↔◌, ◌⊎◌}
use mathlib.Core.Bool.{Bool, true, false, cond}
use mathlib.Core.List.{List, [], ◌++◌}
use Rattle.std.specs.Prelude.{Option, None, Some}
use Prim.Native.Nat.{ℕ}
use lib.Dec.{eqb}
use lib.Ieee.{Float, eq}
use Rattle.ieee754.specs.MinMax.{positive_zero}
use Rattle.refusals.specs.Checks.{first_of}
use Rattle.refusals.specs.declared.Refusal.{Refusal}
use Rattle.gpb.specs.Written.{point_bytes}
use Rattle.primitives.specs.declared.Witness.{Witness}
use Rattle.operands.specs.Operands.{Workspaces, lent_checks, filled}
use Rattle.items.specs.Closest.{closest_of}
use Rattle.items.proofs.NoneExactly.{none_exactly}
use Rattle.crossings.specs.Closest.{closest_by_rule2}
use Rattle.crossings.proofs.NoneExactly.{none_exactly_by_2}
use Rattle.outcomes.specs.Answers.{Value, number, decided, nothing, Report, answering}
use Rattle.outcomes.specs.Operations.{Outcome, outcome, unless, rule_checks, output_checks, items_of_blob, closest_by_rule, closest_pair, distance_value, touching_value, blob_value, line_checks, distance, intersects, closest_point, shortest_line}
use Rattle.outcomes.proofs.FirstExtremeLine.{nothing_exactly}

-- ---- intersects

-- a report of a distance equal to 0 (IEEE 754: no NaN is)
pub record IsZero (report : Report) : Type 0 where
  pub d : Float
  pub measured : report ≡ answering (number d)
  pub zero : eq d positive_zero ≡ true

yes_is_zero : (first : Option Refusal) (p : Option Witness) (full w : Workspaces) → (unless first (outcome (answering (touching_value p)) full []) w []).report ≡ answering (decided true) → IsZero (unless first (outcome (answering (distance_value p)) full []) w []).report
yes_is_zero (Some r) p full w e = cc
yes_is_zero None None full w e = cc
yes_is_zero None (Some x) full w e = record { d = x.d; measured = refl; zero = cc }

zero_is_yes : (first : Option Refusal) (p : Option Witness) (full w : Workspaces) → IsZero (unless first (outcome (answering (distance_value p)) full []) w []).report → (unless first (outcome (answering (touching_value p)) full []) w []).report ≡ answering (decided true)
zero_is_yes (Some r) p full w h = let e = h.measured in cc
zero_is_yes None None full w h = let e = h.measured in cc
zero_is_yes None (Some x) full w h = let e = h.measured in let same : x.d ≡ h.d = cc in rw (same, h.zero)

-- yes exactly where the distance is 0, of every call
pub intersects_exactly : (a b : List ℕ) (rule : ℕ) (w : Workspaces) → ((intersects a b rule w).report ≡ answering (decided true)) ↔ IsZero (distance a b rule w).report
unfolding intersects distance
intersects_exactly a b rule w =
    let first = first_of (rule_checks rule ++ lent_checks a b w) in
    (yes_is_zero first (closest_pair rule a b) (filled a b w) w, zero_is_yes first (closest_pair rule a b) (filled a b w) w)

-- ---- none

no_distance_exactly : (p : Option Witness) → (answering (distance_value p) ≡ answering nothing) ↔ (p ≡ None)
no_distance_exactly None = (λ e. refl, λ e. refl)
no_distance_exactly (Some x) = (λ e. cc, λ e. cc)

-- the report of an accepted call
accepted_report : (first : Option Refusal) → first ≡ None → (o : Outcome) (w : Workspaces) (lent : List ℕ) → (unless first o w lent).report ≡ o.report
accepted_report first e o w lent = rw e

-- a side has no point, segment or triangle
abbrev pub NoItem : List ℕ → List ℕ → Type 0
NoItem a b = (items_of_blob a ≡ []) ⊎ (items_of_blob b ≡ [])

module _ (a b : List ℕ) (rule : ℕ) (w : Workspaces) where
  no_pair_exactly : (closest_pair rule a b ≡ None) ↔ NoItem a b
  unfolding closest_by_rule
  no_pair_exactly = go (eqb rule 2)
    where
      go : (second : Bool) → (cond second (closest_by_rule2 (items_of_blob a) (items_of_blob b)) (closest_of (items_of_blob a) (items_of_blob b)) ≡ None) ↔ NoItem a b
      go true = none_exactly_by_2 (items_of_blob a) (items_of_blob b)
      go false = none_exactly (items_of_blob a) (items_of_blob b)

  -- a value that is none exactly where the pair is, in an accepted call
  none_of : (value : Option Witness → Value) → ((p : Option Witness) → (answering (value p) ≡ answering nothing) ↔ (p ≡ None)) → (first : Option Refusal) → first ≡ None → (memory : Workspaces) (output lent : List ℕ) → ((unless first (outcome (answering (value (closest_pair rule a b))) memory output) w lent).report ≡ answering nothing) ↔ NoItem a b
  none_of value exactly first e memory output lent =
      let same = accepted_report first e (outcome (answering (value (closest_pair rule a b))) memory output) w lent in
      let v = exactly (closest_pair rule a b) in
      (λ n. no_pair_exactly.0 (v.0 (sym same ∙ n)), λ h. same ∙ v.1 (no_pair_exactly.1 h))

  pub distance_none_exactly : first_of (rule_checks rule ++ lent_checks a b w) ≡ None → ((distance a b rule w).report ≡ answering nothing) ↔ NoItem a b
  unfolding distance
  distance_none_exactly e = none_of distance_value no_distance_exactly _ e _ _ _

  pub closest_point_none_exactly : (lent : List ℕ) → first_of (rule_checks rule ++ (lent_checks a b w ++ output_checks point_bytes lent)) ≡ None → ((closest_point a b rule w lent).report ≡ answering nothing) ↔ NoItem a b
  unfolding closest_point
  closest_point_none_exactly lent e = none_of blob_value nothing_exactly _ e _ _ _

  pub shortest_line_none_exactly : (lent : List ℕ) → first_of (rule_checks rule ++ line_checks a b w lent) ≡ None → ((shortest_line a b rule w lent).report ≡ answering nothing) ↔ NoItem a b
  unfolding shortest_line
  shortest_line_none_exactly lent e = none_of blob_value nothing_exactly _ e _ _ _

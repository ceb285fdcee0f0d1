-- End theorems: when 17 is given; by rule 1 every outcome is document 01's, and by rule 2 where no blob gives a triangle. Assumes nothing.
use Prim.Native.Nat.{ℕ}
use mathlib.Core.Path.{◌≡◌, refl, sym, ap, ◌∙◌}
use mathlib.Core.Logic.{◌↔◌}
use mathlib.Core.Bool.{Bool, true, false, cond, not, ◌||◌}
use mathlib.Core.List.{List, ◌++◌}
use Rattle.std.specs.Prelude.{Option, None, Some}
use Rattle.std.specs.Option.{option_or, option_map}
use Rattle.std.proofs.lemmas.Option.{none-some, same_Some}
use borrow.Author.Tests.{eqb-false, ne_eqb}
use lib.Dec.{ltb, eqb}
use lib.ListN.{length}
use lib.Ieee.{Float, lt}
use Rattle.ieee754.specs.MinMax.{positive_zero}
use Rattle.refusals.specs.Checks.{Check, first_of, on_side}
use Rattle.refusals.specs.Table.{sided}
use Rattle.refusals.specs.declared.Reason.{Reason}
use Rattle.refusals.specs.declared.Reason.TheVariants.{ToleranceBelowZero, OutputTooShort, UnknownRule}
use Rattle.refusals.specs.declared.Side.{Side}
use Rattle.refusals.specs.declared.Side.TheVariants.{Neither, First, Second}
use Rattle.refusals.specs.declared.Refusal.{Refusal}
use Rattle.refusals.proofs.Checks.{first_append}
use Rattle.refusals.proofs.Sides.{first_on_side, first_of_two, first_of_one}
use Rattle.gpb.specs.Written.{point_bytes, line_bytes}
use Rattle.parts.specs.Points.{point_of}
use Rattle.coords.specs.Parts.{map_runs, PointRunsOnly}
use Rattle.extremes.proofs.Lists.{Each}
use Rattle.blob.specs.Blob.{runs_of_blob}
use Rattle.items.specs.Closest.{closest_of}
use Rattle.items.proofs.PointRuns.{no_triangles_of_points, point_runs_mapped}
use Rattle.items.proofs.WithoutTriangles.{NoTriangle, no_triangle}
use Rattle.crossings.specs.Closest.{closest_by_rule2}
use Rattle.crossings.proofs.WithoutTriangles.{rule_2_without_triangles}
use Rattle.operands.specs.Operands.{Workspaces, both_checks, operand_checks, lent_checks}
use Rattle.outcomes.specs.Operations.{no_side, items_of_blob, closest_by_rule, closest_pair, tolerance_checks, rule_checks, output_checks, line_checks, distance, within, intersects, closest_point, shortest_line}
use Rattle.outcomes.specs.Rules.{OtherRule, RuleRefusedExactly, pair_without_rule, AsWithoutRule, NoTriangles}
use Rattle.outcomes.proofs.RefusedExactly.{reported_exactly}

-- ---- document 01's outcomes

module _ (rule : ℕ) (a b : List ℕ) (taken : first_of (rule_checks rule) ≡ None) (same : closest_pair rule a b ≡ pair_without_rule a b) where
  -- a rule that is not refused, by which the pair is the one without a rule
  as_without_rule : (w : Workspaces) → AsWithoutRule rule a b w
  unfolding distance within intersects closest_point shortest_line
  as_without_rule w =
      record {
        least_distance = rw (first_append (rule_checks rule) (lent_checks a b w) taken, same);
        is_within = λ d. rw (first_of_two (tolerance_checks d) (rule_checks rule ++ lent_checks a b w), first_append (rule_checks rule) (lent_checks a b w) taken, ← first_of_two (tolerance_checks d) (lent_checks a b w), same);
        intersection = rw (first_append (rule_checks rule) (lent_checks a b w) taken, same);
        closest_point = λ output. rw (first_append (rule_checks rule) (lent_checks a b w ++ output_checks point_bytes output) taken, same);
        shortest_line = λ output. rw (first_append (rule_checks rule) (line_checks a b w output) taken, same);
      }

pub rule_1_stays : (a b : List ℕ) (w : Workspaces) → AsWithoutRule 1 a b w
unfolding rule_checks first_of closest_by_rule
rule_1_stays a b w = as_without_rule 1 a b refl refl w

-- where no face of either blob gives a triangle, the pair is the same by every rule
pub same_pair_by_every_rule : (rule : ℕ) (a b : List ℕ) → NoTriangles a → NoTriangles b → closest_pair rule a b ≡ pair_without_rule a b
unfolding closest_by_rule
same_pair_by_every_rule rule a b h k = go (eqb rule 2)
  where
    no_triangles : (s : List ℕ) → NoTriangles s → Each NoTriangle (items_of_blob s)
    no_triangles s e = no_triangle (map_runs point_of (runs_of_blob s)) e

    go : (second : Bool) → cond second (closest_by_rule2 (items_of_blob a) (items_of_blob b)) (closest_of (items_of_blob a) (items_of_blob b)) ≡ closest_of (items_of_blob a) (items_of_blob b)
    go true = rule_2_without_triangles (items_of_blob a) (items_of_blob b) (no_triangles a h) (no_triangles b k)
    go false = refl

-- of blobs that hold point runs only
pub points_by_every_rule : (rule : ℕ) (a b : List ℕ) → PointRunsOnly (runs_of_blob a) → PointRunsOnly (runs_of_blob b) → closest_pair rule a b ≡ pair_without_rule a b
points_by_every_rule rule a b p q = same_pair_by_every_rule rule a b (no_triangles a p) (no_triangles b q)
  where
    no_triangles : (s : List ℕ) → PointRunsOnly (runs_of_blob s) → NoTriangles s
    no_triangles s h = no_triangles_of_points (map_runs point_of (runs_of_blob s)) (point_runs_mapped point_of (runs_of_blob s) h)

-- and so the outcomes by rule 2 are those by rule 1
pub rule_2_without_faces : (a b : List ℕ) (w : Workspaces) → NoTriangles a → NoTriangles b → AsWithoutRule 2 a b w
unfolding rule_checks first_of
rule_2_without_faces a b w h k = as_without_rule 2 a b refl (same_pair_by_every_rule 2 a b h k) w

-- ---- 17

-- checks that never give 17 of no side
abbrev Never17 : List (Check Refusal) → Type 0
Never17 cs = first_of cs ≡ Some (no_side UnknownRule) → ⊥

neither : (cs ds : List (Check Refusal)) → Never17 cs → Never17 ds → Never17 (cs ++ ds)
neither cs ds p q e = go (first_of cs) refl (sym (first_of_two cs ds) ∙ e)
  where
    go : (x : Option Refusal) → first_of cs ≡ x → option_or x (first_of ds) ≡ Some (no_side UnknownRule) → ⊥
    go None f h = q h
    go (Some t) f h = p (f ∙ h)

sided_never : (side : Side) (cs : List (Check Reason)) → (side ≡ Neither → ⊥) → Never17 (on_side side cs)
sided_never side cs h e = go (first_of cs) (sym (first_on_side side cs) ∙ e)
  where
    go : (x : Option Reason) → option_map (sided side) x ≡ Some (no_side UnknownRule) → ⊥
    go None f = none-some (no_side UnknownRule) f
    go (Some n) f = h (ap (λ (r : Refusal). r.side) (same_Some (sided side n) (no_side UnknownRule) f))

lent_never : (a b : List ℕ) (w : Workspaces) → Never17 (lent_checks a b w)
unfolding both_checks operand_checks
lent_never a b w =
    let one : First ≡ Neither → ⊥ = λ e. cc in
    let two : Second ≡ Neither → ⊥ = λ e. cc in
    neither _ _ (neither _ _ (sided_never First _ one) (neither _ _ (sided_never Second _ two) (neither _ _ (sided_never First _ one) (sided_never Second _ two)))) (neither _ _ (sided_never First _ one) (sided_never Second _ two))

output_never : (bytes : ℕ) (output : List ℕ) → Never17 (output_checks bytes output)
unfolding output_checks
output_never bytes output e = go (ltb (length output) bytes) (sym (first_of_one (no_side OutputTooShort) (ltb (length output) bytes)) ∙ e)
  where
    go : (short : Bool) → cond short (Some (no_side OutputTooShort)) None ≡ Some (no_side UnknownRule) → ⊥
    go true f = let e : OutputTooShort ≡ UnknownRule = ap (λ (r : Refusal). r.reason) (same_Some (no_side OutputTooShort) (no_side UnknownRule) f) in cc
    go false f = none-some (no_side UnknownRule) f

-- 17 for other rules, then what the checks after it give
pub rule_before : (rule : ℕ) (cs : List (Check Refusal)) → first_of (rule_checks rule ++ cs) ≡ option_or (cond (not (eqb rule 1 || eqb rule 2)) (Some (no_side UnknownRule)) None) (first_of cs)
unfolding rule_checks
rule_before rule cs = first_of_two (rule_checks rule) cs ∙ rw (first_of_one (no_side UnknownRule) (not (eqb rule 1 || eqb rule 2)))

-- before checks that never give 17, the rule's gives it exactly for other rules
rule_first : (rule : ℕ) (cs : List (Check Refusal)) → Never17 cs → (first_of (rule_checks rule ++ cs) ≡ Some (no_side UnknownRule)) ↔ OtherRule rule
rule_first rule cs never = (λ e. there (eqb rule 1) (eqb rule 2) refl refl (sym (rule_before rule cs) ∙ e), λ other. rule_before rule cs ∙ rw (ne_eqb rule 1 other.0, ne_eqb rule 2 other.1))
  where
    there : (x y : Bool) → eqb rule 1 ≡ x → eqb rule 2 ≡ y → option_or (cond (not (x || y)) (Some (no_side UnknownRule)) None) (first_of cs) ≡ Some (no_side UnknownRule) → OtherRule rule
    there true y e f h = absurd (never h)
    there false true e f h = absurd (never h)
    there false false e f h = (eqb-false rule 1 e, eqb-false rule 2 f)

-- a tolerance that is not below 0 leaves it so
tolerance_first : (d : Float) (cs : List (Check Refusal)) → (first_of (tolerance_checks d ++ cs) ≡ Some (no_side UnknownRule)) ↔ ((lt d positive_zero ≡ false) × (first_of cs ≡ Some (no_side UnknownRule)))
unfolding tolerance_checks
tolerance_first d cs = (λ e. go (lt d positive_zero) (sym first ∙ e), λ h. first ∙ rw h.0 h.1)
  where
    first : first_of (tolerance_checks d ++ cs) ≡ option_or (cond (lt d positive_zero) (Some (no_side ToleranceBelowZero)) None) (first_of cs)
    first = first_of_two (tolerance_checks d) cs ∙ rw (first_of_one (no_side ToleranceBelowZero) (lt d positive_zero))

    go : (x : Bool) → option_or (cond x (Some (no_side ToleranceBelowZero)) None) (first_of cs) ≡ Some (no_side UnknownRule) → (x ≡ false) × (first_of cs ≡ Some (no_side UnknownRule))
    go true h = let e : ToleranceBelowZero ≡ UnknownRule = ap (λ (r : Refusal). r.reason) (same_Some (no_side ToleranceBelowZero) (no_side UnknownRule) h) in cc
    go false h = (refl, h)

pub rule_refused_exactly : (rule : ℕ) (a b : List ℕ) (w : Workspaces) → RuleRefusedExactly rule a b w
unfolding distance within intersects closest_point shortest_line line_checks
rule_refused_exactly rule a b w =
    let sides = lent_never a b w in
    record {
      least_distance = through (reported_exactly _ (no_side UnknownRule) _ _ w _ _) (rule_first rule (lent_checks a b w) sides);
      is_within = λ d. through (through (reported_exactly _ (no_side UnknownRule) _ _ w _ _) (tolerance_first d _)) (with_rule (rule_first rule (lent_checks a b w) sides));
      intersection = through (reported_exactly _ (no_side UnknownRule) _ _ w _ _) (rule_first rule (lent_checks a b w) sides);
      closest_point = λ output. through (reported_exactly _ (no_side UnknownRule) _ _ w _ _) (rule_first rule _ (neither (lent_checks a b w) _ sides (output_never point_bytes output)));
      shortest_line = λ output. through (reported_exactly _ (no_side UnknownRule) _ _ w _ _) (rule_first rule _ (neither (lent_checks a b w) _ sides (output_never line_bytes output)));
    }
  where
    through : {P Q R : Type 0} → (P ↔ Q) → (Q ↔ R) → (P ↔ R)
    through f g = (λ p. g.0 (f.0 p), λ r. f.1 (g.1 r))

    with_rule : {P Q R : Type 0} → (Q ↔ R) → ((P × Q) ↔ (P × R))
    with_rule f = (λ h. (h.0, f.0 h.1), λ h. (h.0, f.1 h.1))

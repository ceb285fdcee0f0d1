-- End theorems: a NaN tolerance is not refused, and answers no. Assumes nothing.
use mathlib.Core.Path.{◌≡◌, refl, ◌∙◌}
use mathlib.Core.Bool.{false}
use mathlib.Core.List.{List, ◌++◌}
use Rattle.std.specs.Prelude.{Option, None, Some}
use Prim.Native.Nat.{ℕ}
use lib.Ieee.{Float, nan, inf, fin, lt, le}
use Rattle.ieee754.specs.MinMax.{positive_zero}
use Rattle.refusals.specs.Checks.{Check, first_of}
use Rattle.refusals.specs.declared.Reason.TheVariants.{ToleranceBelowZero}
use Rattle.refusals.specs.declared.Refusal.{Refusal}
use Rattle.refusals.proofs.Sides.{first_of_two, first_of_one}
use Rattle.primitives.specs.declared.Witness.{Witness}
use Rattle.operands.specs.Operands.{Workspaces, lent_checks}
use Rattle.outcomes.specs.Answers.{decided, answering}
use Rattle.outcomes.specs.Operations.{no_side, tolerance_checks, rule_checks, farthest_pair, closest_pair, within_value, fully_within, within}

no_le_nan : (x : Float) → le x nan ≡ false
unfolding le
no_le_nan nan = refl
no_le_nan (inf s) = refl
no_le_nan (fin s m e) = refl

nan_decides : (p : Option Witness) → answering (within_value nan p) ≡ answering (decided false)
nan_decides None = refl
nan_decides (Some x) = rw (no_le_nan x.d)

-- checks that refuse nothing refuse nothing with a NaN tolerance before them
nan_taken : (cs : List (Check Refusal)) → first_of cs ≡ None → first_of (tolerance_checks nan ++ cs) ≡ None
unfolding tolerance_checks lt
nan_taken cs free = first_of_two (tolerance_checks nan) cs ∙ rw (first_of_one (no_side ToleranceBelowZero) (lt nan positive_zero), free)

module _ (a b : List ℕ) (w : Workspaces) where
  pub nan_not_fully_within : first_of (lent_checks a b w) ≡ None → (fully_within a b nan w).report ≡ answering (decided false)
  unfolding fully_within
  nan_not_fully_within free = rw (nan_taken (lent_checks a b w) free) (nan_decides (farthest_pair a b))

  pub nan_not_within : (rule : ℕ) → first_of (rule_checks rule ++ lent_checks a b w) ≡ None → (within a b nan rule w).report ≡ answering (decided false)
  unfolding within
  nan_not_within rule free = rw (nan_taken (rule_checks rule ++ lent_checks a b w) free) (nan_decides (closest_pair rule a b))

-- The checks of a join in order: the first that holds, by what each part of the list gives. Assumes nothing.
use mathlib.Core.Path.{◌≡◌, refl, sym, ◌∙◌}
use mathlib.Core.Bool.{Bool, true, false, cond}
use mathlib.Core.List.{List}
use Prim.Native.Nat.{ℕ}
use lib.Dec.{ltb}
use lib.ListN.{length}
use Rattle.std.specs.Prelude.{None, Some}
use Rattle.std.specs.Option.{option_or}
use Rattle.refusals.specs.Checks.{first_of}
use Rattle.refusals.specs.declared.Reason.TheVariants.{SridsDiffer, NestsTooDeep, OutputTooShort}
use Rattle.refusals.specs.declared.Refusal.{Refusal}
use Rattle.refusals.proofs.Sides.{first_of_two, none_of_both}
use Rattle.operands.specs.Operands.{both_checks}
use Rattle.outcomes.specs.Operations.{no_side}
use Rattle.joining.specs.Joined.{joined_blob, srids_differ, nests_too_deep, together_checks, join_checks}

-- ---- 18, 19 and 16

module _ (a b : List ℕ) (lent : ℕ) where
  -- the first of the three that holds
  pub together : first_of (together_checks a b lent) ≡ cond (srids_differ a b) (Some (no_side SridsDiffer)) (cond (nests_too_deep a b) (Some (no_side NestsTooDeep)) (cond (ltb lent (length (joined_blob a b))) (Some (no_side OutputTooShort)) None))
  unfolding first_of together_checks
  together = refl

  pub srids_differ_lem : srids_differ a b ≡ true → first_of (together_checks a b lent) ≡ Some (no_side SridsDiffer)
  srids_differ_lem h = together ∙ rw h

  pub nests_too_deep_lem : srids_differ a b ≡ false → nests_too_deep a b ≡ true → first_of (together_checks a b lent) ≡ Some (no_side NestsTooDeep)
  nests_too_deep_lem h18 h = together ∙ rw (h18, h)

  -- none of the three: the join nests no deeper than level 32, and the output is as long as the blob
  none_together : (p q r : Bool) → cond p (Some (no_side SridsDiffer)) (cond q (Some (no_side NestsTooDeep)) (cond r (Some (no_side OutputTooShort)) None)) ≡ None → (q ≡ false) × (r ≡ false)
  none_together true q r h = cc
  none_together false true r h = cc
  none_together false false true h = cc
  none_together false false false h = (refl, refl)

  pub fits_where_none : first_of (together_checks a b lent) ≡ None → (nests_too_deep a b ≡ false) × (ltb lent (length (joined_blob a b)) ≡ false)
  fits_where_none h = none_together (srids_differ a b) (nests_too_deep a b) (ltb lent (length (joined_blob a b))) (sym together ∙ h)

  -- ---- all

  all_in_order : first_of (join_checks a b lent) ≡ option_or (first_of (both_checks a b)) (first_of (together_checks a b lent))
  unfolding join_checks
  all_in_order = first_of_two (both_checks a b) (together_checks a b lent)

  pub of_the_blobs : {r : Refusal} → first_of (both_checks a b) ≡ Some r → first_of (join_checks a b lent) ≡ Some r
  of_the_blobs h = all_in_order ∙ rw h

  pub of_the_join : first_of (both_checks a b) ≡ None → first_of (join_checks a b lent) ≡ first_of (together_checks a b lent)
  of_the_join h = all_in_order ∙ rw h

  pub none_of_join : first_of (join_checks a b lent) ≡ None → (first_of (both_checks a b) ≡ None) × (first_of (together_checks a b lent) ≡ None)
  none_of_join h = none_of_both (first_of (both_checks a b)) (first_of (together_checks a b lent)) (sym all_in_order ∙ h)

-- The checks of two operands in order: the first that holds, by what each part of the list gives. Assumes nothing.
use mathlib.Core.Path.{◌≡◌, refl, sym, ◌∙◌}
use mathlib.Core.Bool.{Bool, true, false, cond}
use mathlib.Core.List.{List, ◌++◌}
use Prim.Native.Nat.{ℕ}
use Rattle.std.specs.Prelude.{Option, None, Some}
use Rattle.std.specs.Option.{option_map}
use Rattle.refusals.specs.Checks.{Check, first_of, on_side}
use Rattle.refusals.specs.Table.{sided}
use Rattle.refusals.specs.declared.Reason.{Reason}
use Rattle.refusals.specs.declared.Reason.TheVariants.{WorkspaceTooSmall}
use Rattle.refusals.specs.declared.Side.{Side}
use Rattle.refusals.specs.declared.Side.TheVariants.{First, Second}
use Rattle.refusals.specs.declared.Refusal.{Refusal}
use Rattle.refusals.proofs.Sides.{first_on_side, first_of_two, first_of_one, none_of_both}
use Rattle.gpb.specs.Header.{geometry_start, header_checks_3d}
use Rattle.coords.specs.Refusals.{walk_checks}
use Rattle.workspace.specs.Workspace.{too_small}
use Rattle.blob.specs.Blob.{runs_of_blob}
use Rattle.blob.specs.declared.Lent.{Lent}
use Rattle.operands.specs.Operands.{both_checks, workspace_checks, operand_checks}

-- a side's list gives nothing: none of its checks holds
none_on_side : (side : Side) (cs : List (Check Reason)) → first_of (on_side side cs) ≡ None → first_of cs ≡ None
none_on_side side cs h = go (first_of cs) (sym (first_on_side side cs) ∙ h)
  where
    go : (x : Option Reason) → option_map (sided side) x ≡ None → x ≡ None
    go None e = refl
    go (Some k) e = cc

-- ---- no check holds: none of any part

pub record NoneOfBoth (a b : List ℕ) : Type 0 where
  pub header1 : first_of (header_checks_3d a) ≡ None
  pub header2 : first_of (header_checks_3d b) ≡ None
  pub walk1 : first_of (walk_checks a (geometry_start a)) ≡ None
  pub walk2 : first_of (walk_checks b (geometry_start b)) ≡ None

pub none_of_bytes : (a b : List ℕ) → first_of (both_checks a b) ≡ None → NoneOfBoth a b
unfolding both_checks
none_of_bytes a b h =
    let x = apart _ _ h in
    let y = apart _ _ x.1 in
    let z = apart _ _ y.1 in
    record {
      header1 = none_on_side First (header_checks_3d a) x.0;
      header2 = none_on_side Second (header_checks_3d b) y.0;
      walk1 = none_on_side First (walk_checks a (geometry_start a)) z.0;
      walk2 = none_on_side Second (walk_checks b (geometry_start b)) z.1;
    }
  where
    apart : (cs ds : List (Check Refusal)) → first_of (cs ++ ds) ≡ None → (first_of cs ≡ None) × (first_of ds ≡ None)
    apart cs ds e = none_of_both (first_of cs) (first_of ds) (sym (first_of_two cs ds) ∙ e)

pub record NoneHolds (a b : List ℕ) (l m : Lent) : Type 0 where
  pub bytes : first_of (both_checks a b) ≡ None
  pub room1 : too_small (runs_of_blob a) l.floats l.numbers ≡ false
  pub room2 : too_small (runs_of_blob b) m.floats m.numbers ≡ false

pub none_holds : (a b : List ℕ) (l m : Lent) → first_of (operand_checks a b l m) ≡ None → NoneHolds a b l m
unfolding operand_checks workspace_checks
none_holds a b l m h =
    let x = none_of_both (first_of (both_checks a b)) _ (sym (first_of_two (both_checks a b) _) ∙ h) in
    let y = none_of_both (first_of (on_side First (workspace_checks a l))) _ (sym (first_of_two (on_side First (workspace_checks a l)) _) ∙ x.1) in
    record { bytes = x.0; room1 = not_short First a l y.0; room2 = not_short Second b m y.1 }
  where
    not_short : (side : Side) (s : List ℕ) (l : Lent) → first_of (on_side side (workspace_checks s l)) ≡ None → too_small (runs_of_blob s) l.floats l.numbers ≡ false
    not_short side s l e = go (too_small (runs_of_blob s) l.floats l.numbers) (sym (first_of_one WorkspaceTooSmall (too_small (runs_of_blob s) l.floats l.numbers)) ∙ none_on_side side (workspace_checks s l) e)
      where
        go : (t : Bool) → cond t (Some WorkspaceTooSmall) None ≡ None → t ≡ false
        go true e = cc
        go false e = refl

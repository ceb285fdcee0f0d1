-- The checks in order, and what it means that none of them holds. Assumes nothing.
use mathlib.Core.Path.{◌≡◌, refl, sym, ◌∙◌}
use mathlib.Core.Bool.{Bool, true, false, cond}
use mathlib.Core.List.{List, [], ◌∷◌, ◌++◌}
use Prim.Native.Nat.{ℕ, ◌≤◌}
use lib.Dec.{ltb}
use lib.ListN.{length}
use lib.Ieee.{Float}
use borrow.Author.Tests.{ltb-false}
use Rattle.std.specs.Prelude.{Option, None, Some, Ok}
use Rattle.std.specs.Option.{option_or, option_map}
use Rattle.refusals.specs.Checks.{Check, check, first_of, refused_or, on_side}
use Rattle.refusals.specs.Table.{sided}
use Rattle.refusals.specs.declared.Reason.{Reason}
use Rattle.refusals.specs.declared.Reason.TheVariants.{FractionOutOfRange, NoLine, WorkspaceTooSmall, OutputTooShort}
use Rattle.refusals.specs.declared.Side.TheVariants.{First}
use Rattle.refusals.specs.declared.Refusal.{Refusal}
use Rattle.refusals.proofs.Checks.{accepted_is}
use Rattle.refusals.proofs.Sides.{first_on_side, first_of_two, first_of_one, none_of_both}
use Rattle.gpb.specs.Header.{geometry_start, srid_of, header_checks}
use Rattle.gpb.specs.Written.{point_bytes}
use Rattle.coords.specs.Parts.{coordinate_count, other_count}
use Rattle.coords.specs.Refusals.{walk_checks}
use Rattle.coords.proofs.Refusals.{none_given_is_accepted}
use Rattle.workspace.specs.Workspace.{too_small}
use Rattle.workspace.proofs.Laws.{not_too_small}
use Rattle.blob.specs.Blob.{runs_of_blob}
use Rattle.blob.specs.Inner.{operand_of}
use Rattle.blob.specs.declared.Operand.{Operand}
use Rattle.outcomes.specs.Operations.{no_side}
use Rattle.interpolation.specs.Operation.{out_of_range, is_no_line, interpolation_checks}
use Rattle.interpolation.specs.Inner.{no_line_by, ReadyToMeasure}
use Rattle.interpolation.proofs.Lines.{no_line_is}

-- 14 by what was counted
no_line_of : (s : List ℕ) → is_no_line (runs_of_blob s) ≡ no_line_by (coordinate_count (runs_of_blob s)) (length (runs_of_blob s)) (other_count (runs_of_blob s))
no_line_of s = no_line_is s (operand_of s) refl

-- the checks one after the other, as the code makes them
pub checks_in_turn : (s : List ℕ) (fraction : Float) (floats numbers output : ℕ) → first_of (interpolation_checks s fraction floats numbers output)
    ≡ cond (out_of_range fraction) (Some (no_side FractionOutOfRange))
    (option_or (first_of (on_side First (header_checks s)))
    (option_or (first_of (on_side First (walk_checks s (geometry_start s))))
    (cond (no_line_by (coordinate_count (runs_of_blob s)) (length (runs_of_blob s)) (other_count (runs_of_blob s))) (Some (sided First NoLine))
    (cond (too_small (runs_of_blob s) floats numbers) (Some (sided First WorkspaceTooSmall))
    (cond (ltb output point_bytes) (Some (no_side OutputTooShort)) None)))))
unfolding interpolation_checks first_of on_side
checks_in_turn s fraction floats numbers output =
    rw (first_of_two (on_side First (header_checks s)), first_of_two (on_side First (walk_checks s (geometry_start s))), no_line_of s) refl

pub one_check_of_side : (k : Reason) (b : Bool) → first_of (on_side First (check k b ∷ [])) ≡ cond b (Some (sided First k)) None
unfolding first_of on_side
one_check_of_side k b = refl

-- what `check` needs
pub ruleset checked = (checks_in_turn, one_check_of_side)

-- ---- no check holds: none of any part

pub record NoneHolds (s : List ℕ) (fraction : Float) (floats numbers output : ℕ) : Type 0 where
  pub range : out_of_range fraction ≡ false
  pub header : first_of (header_checks s) ≡ None
  pub walk : first_of (walk_checks s (geometry_start s)) ≡ None
  pub line : is_no_line (runs_of_blob s) ≡ false
  pub room : too_small (runs_of_blob s) floats numbers ≡ false
  pub room_for_point : point_bytes ≤ output

none_on_side : (cs : List (Check Reason)) → first_of (on_side First cs) ≡ None → first_of cs ≡ None
none_on_side cs h = go (first_of cs) (sym (first_on_side First cs) ∙ h)
  where
    go : (x : Option Reason) → option_map (sided First) x ≡ None → x ≡ None
    go None e = refl
    go (Some k) e = cc

none_of_one : {A : Type 0} (a : A) (b : Bool) → first_of (check a b ∷ []) ≡ None → b ≡ false
none_of_one a b h = go b (sym (first_of_one a b) ∙ h)
  where
    go : (b : Bool) → cond b (Some a) None ≡ None → b ≡ false
    go true e = cc
    go false e = refl

none_of_side : (k : Reason) (b : Bool) → first_of (on_side First (check k b ∷ [])) ≡ None → b ≡ false
none_of_side k b h = none_of_one k b (none_on_side (check k b ∷ []) h)

pub none_holds : (s : List ℕ) (fraction : Float) (floats numbers output : ℕ) → first_of (interpolation_checks s fraction floats numbers output) ≡ None → NoneHolds s fraction floats numbers output
unfolding interpolation_checks
none_holds s fraction floats numbers output h =
    let x = apart _ _ h in
    let y = apart _ _ x.1 in
    let z = apart _ _ y.1 in
    let u = apart _ _ z.1 in
    let v = apart _ _ u.1 in
    record {
      range = none_of_one (no_side FractionOutOfRange) (out_of_range fraction) x.0;
      header = none_on_side (header_checks s) y.0;
      walk = none_on_side (walk_checks s (geometry_start s)) z.0;
      line = none_of_side NoLine (is_no_line (runs_of_blob s)) u.0;
      room = none_of_side WorkspaceTooSmall (too_small (runs_of_blob s) floats numbers) v.0;
      room_for_point = ltb-false output point_bytes (none_of_one (no_side OutputTooShort) (ltb output point_bytes) v.1);
    }
  where
    apart : (cs ds : List (Check Refusal)) → first_of (cs ++ ds) ≡ None → (first_of cs ≡ None) × (first_of ds ≡ None)
    apart cs ds e = none_of_both (first_of cs) (first_of ds) (sym (first_of_two cs ds) ∙ e)

-- ---- nothing is refused: the blob can be read, and the point written

pub record IsAccepted (s : List ℕ) (fraction : Float) (floats numbers output : ℕ) (o : Operand) : Type 0 where
  pub none_first : first_of (interpolation_checks s fraction floats numbers output) ≡ None
  pub ready : ReadyToMeasure s o.at o.coords o.runs floats numbers
  pub own : o.srid ≡ srid_of s
  pub room_for_point : point_bytes ≤ output

pub is_accepted : (s : List ℕ) (fraction : Float) (floats numbers output : ℕ) (o : Operand) → refused_or (first_of (interpolation_checks s fraction floats numbers output)) (operand_of s) ≡ Ok o → IsAccepted s fraction floats numbers output o
is_accepted s fraction floats numbers output o p =
    let a = accepted_is _ (operand_of s) o p in
    let n = none_holds s fraction floats numbers output a.0 in
    let fits = not_too_small (coordinate_count (runs_of_blob s)) (length (runs_of_blob s)) floats numbers n.room in
    rw (← a.1) (record {
      none_first = a.0;
      ready = record {
        start = refl;
        coordinates = refl;
        number = refl;
        room = record { accepted = none_given_is_accepted s (geometry_start s) n.walk; for_floats = fits.0; for_numbers = fits.1 };
        line = n.line;
      };
      own = refl;
      room_for_point = n.room_for_point;
    })

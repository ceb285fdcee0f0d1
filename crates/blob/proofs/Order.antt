-- The checks of a blob in order: the header's, the walk's, then 15. Assumes nothing.
use mathlib.Core.Path.{◌≡◌, sym, ◌∙◌}
use mathlib.Core.Bool.{true, cond}
use mathlib.Core.List.{List, [], ◌∷◌}
use Prim.Native.Nat.{ℕ}
use Rattle.std.specs.Prelude.{None, Some}
use Rattle.refusals.specs.Checks.{check, first_of}
use Rattle.refusals.specs.declared.Reason.{Reason}
use Rattle.refusals.specs.declared.Reason.TheVariants.{WorkspaceTooSmall}
use Rattle.refusals.proofs.Checks.{first_append, first_keeps}
use Rattle.refusals.proofs.Sides.{first_of_two, first_of_one, none_of_both}
use Rattle.gpb.specs.Header.{geometry_start, header_checks}
use Rattle.coords.specs.Refusals.{is_accepted, walk_checks}
use Rattle.coords.proofs.Refusals.{none_given_is_accepted}
use Rattle.workspace.specs.Workspace.{too_small}
use Rattle.blob.specs.Blob.{walk_of_blob, runs_of_blob, bytes_checks, blob_checks}

-- nothing is refused: the walk is accepted
pub bytes_accepted : (s : List ℕ) → first_of (bytes_checks s) ≡ None → is_accepted (walk_of_blob s) ≡ true
unfolding bytes_checks
bytes_accepted s h =
    none_given_is_accepted s (geometry_start s) (none_of_both (first_of (header_checks s)) (first_of (walk_checks s (geometry_start s))) (sym (first_of_two (header_checks s) (walk_checks s (geometry_start s))) ∙ h)).1

-- ---- all checks

pub bytes_first : (s : List ℕ) (floats numbers : ℕ) (k : Reason) → first_of (bytes_checks s) ≡ Some k → first_of (blob_checks s floats numbers) ≡ Some k
unfolding blob_checks
bytes_first s floats numbers k h = first_keeps (bytes_checks s) (check WorkspaceTooSmall (too_small (runs_of_blob s) floats numbers) ∷ []) k h

pub room_last : (s : List ℕ) (floats numbers : ℕ) → first_of (bytes_checks s) ≡ None → first_of (blob_checks s floats numbers) ≡ cond (too_small (runs_of_blob s) floats numbers) (Some WorkspaceTooSmall) None
unfolding blob_checks
room_last s floats numbers h =
    first_append (bytes_checks s) (check WorkspaceTooSmall (too_small (runs_of_blob s) floats numbers) ∷ []) h ∙ first_of_one WorkspaceTooSmall (too_small (runs_of_blob s) floats numbers)

-- What the answer of the checks means: the refusal that the list gives first, or operands that can be read. Assumes nothing.
use mathlib.Core.Path.{◌≡◌}
use mathlib.Core.Logic.{◌↔◌}
use mathlib.Core.List.{List}
use Prim.Native.Nat.{ℕ}
use lib.ListN.{length}
use lib.Ieee.{Float}
use Rattle.std.specs.Prelude.{None, Err}
use Rattle.refusals.specs.Checks.{Check, first_of, refused_or, FirstCheckAt}
use Rattle.refusals.specs.declared.Refusal.{Refusal}
use Rattle.refusals.proofs.Checks.{given_exactly, refused_is}
use Rattle.gpb.specs.Header.{geometry_start}
use Rattle.coords.specs.Walk.{walk_of, all_levels}
use Rattle.coords.specs.Parts.{coordinate_count, walked_runs}
use Rattle.coords.proofs.Refusals.{none_given_is_accepted}
use Rattle.workspace.specs.Workspace.{Room, RunsWritten}
use Rattle.workspace.proofs.Laws.{not_too_small}
use Rattle.blob.specs.Blob.{walk_of_blob, runs_of_blob}
use Rattle.blob.specs.declared.Lent.{Lent}
use Rattle.operands.specs.Operands.{operand_checks, workspaces, filled}
use Rattle.operands.specs.Inner.{operands_of, Ready}
use Rattle.operands.proofs.Order.{none_holds, none_of_bytes}

module _ (a b : List ℕ) (l m : Lent) where
  -- no check holds: both blobs can be read into the memory lent
  pub none_is_ready : first_of (operand_checks a b l m) ≡ None → Ready a b l m
  none_is_ready e =
      let n = none_holds a b l m e in
      let o = none_of_bytes a b n.bytes in
      let fits1 = not_too_small (coordinate_count (runs_of_blob a)) (length (runs_of_blob a)) l.floats l.numbers n.room1 in
      let fits2 = not_too_small (coordinate_count (runs_of_blob b)) (length (runs_of_blob b)) m.floats m.numbers n.room2 in
      record {
        first = record { accepted = none_given_is_accepted a (geometry_start a) o.walk1; for_floats = fits1.0; for_numbers = fits1.1 };
        second = record { accepted = none_given_is_accepted b (geometry_start b) o.walk2; for_floats = fits2.0; for_numbers = fits2.1 };
      }

  -- End theorem: a refusal is given exactly when a check gives it whose condition holds, and no earlier one holds
  pub refused_exactly : (r : Refusal) → (refused_or (first_of (operand_checks a b l m)) (operands_of a b) ≡ Err r) ↔ ((i : ℕ) × (c : Check Refusal) × FirstCheckAt (operand_checks a b l m) r i c)
  refused_exactly r =
      (λ h. (given_exactly (operand_checks a b l m) r).0 (refused_is (first_of (operand_checks a b l m)) (operands_of a b) r h), λ f. rw ((given_exactly (operand_checks a b l m) r).1 f))

-- ---- the filling pass

-- there is room at the operand's start
pub room_at : (s : List ℕ) (at floats numbers : ℕ) → at ≡ geometry_start s → Room (walk_of_blob s) floats numbers → Room (walk_of all_levels s at) floats numbers
room_at s at floats numbers e r = rw e r

-- both sides are written
pub both_filled : (a b : List ℕ) (at1 at2 : ℕ) (f f' g g' : List Float) (t t' u u' : List ℕ) → at1 ≡ geometry_start a → at2 ≡ geometry_start b → RunsWritten (walked_runs (walk_of all_levels a at1)) f t f' t' → RunsWritten (walked_runs (walk_of all_levels b at2)) g u g' u' → workspaces f' t' g' u' ≡ filled a b (workspaces f t g u)
unfolding filled
both_filled a b at1 at2 f f' g g' t t' u u' p q x y = rw (x.ordinates, x.rows, y.ordinates, y.rows, p, q)

-- The answers of the public functions, by what the bytes' checks, the test for 15 and the filling pass say. Assumes nothing.
use mathlib.Core.Path.{◌≡◌, refl, sym, ap, subst, ◌∙◌}
use mathlib.Core.Bool.{Bool, true, false, cond}
use mathlib.Core.List.{List}
use Prim.Native.Nat.{ℕ, ◌*◌, ◌≤◌}
use lib.ListN.{length}
use lib.Ieee.{Float}
use Rattle.std.specs.Prelude.{Option, None, Some, Result, Ok, Err}
use Rattle.std.specs.Option.{option_map}
use Rattle.refusals.specs.Table.{sided}
use Rattle.refusals.specs.Checks.{first_of, refused_or, on_side}
use Rattle.refusals.specs.declared.Reason.{Reason}
use Rattle.refusals.specs.declared.Reason.TheVariants.{WorkspaceTooSmall}
use Rattle.refusals.specs.declared.Side.TheVariants.{First}
use Rattle.refusals.specs.declared.Refusal.{Refusal}
use Rattle.refusals.proofs.Sides.{first_on_side}
use Rattle.gpb.specs.Header.{geometry_start}
use Rattle.coords.specs.Walk.{walk_of, all_levels}
use Rattle.coords.specs.Parts.{coordinate_count, walked_runs}
use Rattle.coords.proofs.Inside.{walked_counts}
use Rattle.workspace.specs.Workspace.{floats_per_coordinate, numbers_per_run, too_small_for, Room, RunsWritten}
use Rattle.workspace.proofs.Laws.{not_too_small}
use Rattle.blob.specs.Blob.{runs_of_blob, bytes_checks, blob_checks, needed_for, sizes_of, blob_read, answer_of, floats_by, table_by, BlobOutcome}
use Rattle.blob.specs.Inner.{operand_of, room_checks}
use Rattle.blob.specs.declared.Lent.{Lent}
use Rattle.blob.specs.declared.Operand.{Operand}
use Rattle.blob.proofs.Order.{bytes_accepted, bytes_first, room_last}

-- what the bytes' checks answered
abbrev pub Checked : List ℕ → Result Operand Refusal
Checked s = refused_or (first_of (on_side First (bytes_checks s))) (operand_of s)

-- a refusal of side 1 comes from a check
given : (x : Option Reason) (o : Operand) (r : Refusal) → refused_or (option_map (sided First) x) o ≡ Err r → (k : Reason) × (x ≡ Some k) × (r ≡ sided First k)
given (Some k) o r e = (k, refl, cc)
given None o r e = cc

none_given : (x : Option Reason) (o v : Operand) → refused_or (option_map (sided First) x) o ≡ Ok v → (x ≡ None) × (v ≡ o)
none_given (Some k) o v e = cc
none_given None o v e = (refl, cc)

by_side : (s : List ℕ) → Checked s ≡ refused_or (option_map (sided First) (first_of (bytes_checks s))) (operand_of s)
by_side s = ap (λ o. refused_or o (operand_of s)) (first_on_side First (bytes_checks s))

-- ---- what the test for 15 says

pub room_refused : (o : Operand) (l : Lent) (r : Refusal) → refused_or {A = Unit {0}} (first_of (on_side First (room_checks o l))) tt ≡ Err r → (too_small_for o.coords o.runs l.floats l.numbers ≡ true) × (r ≡ sided First WorkspaceTooSmall)
unfolding first_of on_side
room_refused o l r e = go (too_small_for o.coords o.runs l.floats l.numbers) e
  where
    go : (b : Bool) → refused_or {A = Unit {0}} (cond b (Some (sided First WorkspaceTooSmall)) None) tt ≡ Err r → (b ≡ true) × (r ≡ sided First WorkspaceTooSmall)
    go true p = (refl, cc)
    go false p = cc

pub room_there : (o : Operand) (l : Lent) (u : Unit {0}) → refused_or (first_of (on_side First (room_checks o l))) tt ≡ Ok u → too_small_for o.coords o.runs l.floats l.numbers ≡ false
unfolding first_of on_side
room_there o l u e = go (too_small_for o.coords o.runs l.floats l.numbers) e
  where
    go : (b : Bool) → refused_or (cond b (Some (sided First WorkspaceTooSmall)) None) tt ≡ Ok u → b ≡ false
    go true p = cc
    go false p = refl

-- ---- the outcomes

-- by the first check that holds
outcome_by : (s : List ℕ) (fs fs' : List Float) (ts ts' : List ℕ) (x : Option Reason) → first_of (blob_checks s (length fs) (length ts)) ≡ x → fs' ≡ floats_by x s fs → ts' ≡ table_by x s ts → BlobOutcome s fs ts fs' ts' (refused_or (option_map (sided First) x) (blob_read s))
unfolding answer_of
outcome_by s fs fs' ts ts' x e p q =
    record {
      answer = sym (ap (λ o. refused_or o (blob_read s)) (first_on_side First (blob_checks s (length fs) (length ts)) ∙ ap (option_map (sided First)) e));
      ordinates = rw e p;
      rows = rw e q;
    }

-- the bytes are refused
module _ (s : List ℕ) (r : Refusal) (e : Checked s ≡ Err r) where
  pub sizes_refused : sizes_of s ≡ Err r
  unfolding sizes_of
  sizes_refused =
      let g = given (first_of (bytes_checks s)) (operand_of s) r (sym (by_side s) ∙ e) in
      ap (λ o. refused_or o (needed_for (runs_of_blob s))) (first_on_side First (bytes_checks s) ∙ ap (option_map (sided First)) g.1) ∙ ap Err (sym g.2)

  pub outcome_refused : (fs : List Float) (ts : List ℕ) → BlobOutcome s fs ts fs ts (Err r)
  unfolding floats_by table_by
  outcome_refused fs ts =
      let g = given (first_of (bytes_checks s)) (operand_of s) r (sym (by_side s) ∙ e) in
      rw g.2 (outcome_by s fs fs ts ts (Some g.0) (bytes_first s (length fs) (length ts) g.0 g.1) refl refl)

-- they are not
module _ (s : List ℕ) (v : Operand) (e : Checked s ≡ Ok v) where
  read : (first_of (bytes_checks s) ≡ None) × (v ≡ operand_of s)
  read = none_given (first_of (bytes_checks s)) (operand_of s) v (sym (by_side s) ∙ e)

  -- so that no product wraps
  pub counts_fit : (16 * v.coords ≤ length s) × (v.runs ≤ v.coords)
  counts_fit = let w = walked_counts all_levels s (geometry_start s) in rw read.1 w

  pub sizes_lent : sizes_of s ≡ Ok (record { floats = floats_per_coordinate * v.coords; numbers = numbers_per_run * v.runs })
  unfolding sizes_of
  sizes_lent = ap (λ o. refused_or o (needed_for (runs_of_blob s))) (first_on_side First (bytes_checks s) ∙ ap (option_map (sided First)) read.0) ∙ rw read.1

  module _ (fs : List Float) (ts : List ℕ) where
    same_test : too_small_for v.coords v.runs (length fs) (length ts) ≡ too_small_for (coordinate_count (runs_of_blob s)) (length (runs_of_blob s)) (length fs) (length ts)
    same_test = rw read.1

    pub outcome_short : too_small_for v.coords v.runs (length fs) (length ts) ≡ true → BlobOutcome s fs ts fs ts (Err (sided First WorkspaceTooSmall))
    unfolding floats_by table_by
    outcome_short small = outcome_by s fs fs ts ts (Some WorkspaceTooSmall) (room_last s (length fs) (length ts) read.0 ∙ rw (sym same_test ∙ small)) refl refl

    module _ (enough : too_small_for v.coords v.runs (length fs) (length ts) ≡ false) where
      pub room : Room (walk_of all_levels s v.at) (length fs) (length ts)
      room =
          let f = not_too_small (coordinate_count (runs_of_blob s)) (length (runs_of_blob s)) (length fs) (length ts) (sym same_test ∙ enough) in
          rw read.1 (record { accepted = bytes_accepted s read.0; for_floats = f.0; for_numbers = f.1 })

      pub outcome_read : (fs' : List Float) (ts' : List ℕ) → RunsWritten (walked_runs (walk_of all_levels s v.at)) fs ts fs' ts' → BlobOutcome s fs ts fs' ts' (Ok (record { coords = v.coords; runs = v.runs; srid = v.srid }))
      unfolding floats_by table_by
      outcome_read fs' ts' w =
          let m : RunsWritten (runs_of_blob s) fs ts fs' ts' = subst (λ (o : Operand). RunsWritten (walked_runs (walk_of all_levels s o.at)) fs ts fs' ts') read.1 w in
          rw read.1 (outcome_by s fs fs' ts ts' None (room_last s (length fs) (length ts) read.0 ∙ rw (sym same_test ∙ enough)) m.ordinates m.rows)

pub ruleset sizes = (sizes_lent, counts_fit)

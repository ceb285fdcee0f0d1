-- A call as its operation's outcome gives it. Assumes nothing.
use mathlib.Core.Path.{◌≡◌, refl}
use mathlib.Core.List.{List, []}
use Prim.Native.Nat.{ℕ}
use Rattle.operands.specs.Operands.{Workspaces, workspaces}
use Rattle.outcomes.specs.Answers.{Report}
use Rattle.outcomes.specs.Operations.{Outcome, outcome}
use Rattle.std.specs.Prelude.{Result, Ok}
use Rattle.records.specs.declared.reader.RecordError.{RecordError}
use Rattle.records.specs.Lent.{bytes_lent}
use Rattle.replay.specs.Calls.{told, told_patch, called, operated, call_of, lending, room, output_room, marked, Expects, ByCursor, ExpectsBy, written, unwritten, written_one}
use Rattle.surface.specs.Patches.{patch_of}
use Rattle.replay.specs.declared.call.Call.{Call}
use Rattle.replay.specs.declared.call.Operation.{Operation}
use Rattle.replay.specs.declared.call.Operation.TheVariants as op
use Rattle.replay.specs.declared.reply.Reply.{Reply}

module _ (r : Reply) (report : Report) (m : Workspaces) (x : Outcome) (e : r ≡ told report) where
  pub unwritten_is : (output : List ℕ) → outcome report m [] ≡ x → called r m output ≡ unwritten x output
  unwritten_is output is = rw (e, ← is) refl

  pub written_is : (output : List ℕ) → outcome report m output ≡ x → called r m output ≡ written x
  written_is output is = rw (e, ← is) refl

  pub written_one_is : (w : Workspaces) (output : List ℕ) → outcome report m output ≡ x → called r (workspaces m.floats1 m.table1 w.floats2 w.table2) output ≡ written_one x w
  written_one_is w output is = rw (e, ← is) refl

-- what a called patch replies is the patch of its number, as the cursor must
pub by_cursor : (c : Call) (o : Operation) (expected : Reply) (w : Workspaces) (output : List ℕ) → Expects c expected (call_of o c w output) → o ≡ op.Patch → told_patch (patch_of c.a.now c.argument) ≡ expected
unfolding operated
by_cursor c o expected w output e p = rw p at e.reply

-- what a record that tells a reply expects
module _ (c : Call) (y : Result Reply RecordError) (expected : Reply) (q : y ≡ Ok expected) where
  pub as_known : Expects c expected (lending c.operation c (marked room room) (bytes_lent output_room)) → ByCursor c expected → ExpectsBy y c
  as_known e k = rw q (e, k)

  pub as_expected : ExpectsBy y c → Expects c expected (lending c.operation c (marked room room) (bytes_lent output_room)) × ByCursor c expected
  as_expected e = rw q at e

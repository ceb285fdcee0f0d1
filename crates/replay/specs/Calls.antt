-- What a call comes to by the operations' definitions, and what its record expects of it. Definitions only.
use Rattle.std.specs.Prelude.{ℕ, Bool, ◌≡◌, ◌&&◌, true, cond, if◌then◌else◌, nat_le, Float, List, [], ◌++◌, length, take, drop, Some, None, Result, Ok, Err}
use Rattle.std.specs.Float.{binary64}
use Rattle.std.specs.Float.Ieee.{of_bits, to_bits}
use Rattle.refusals.specs.Table.{number_of, number_of_side}
use Rattle.refusals.specs.declared.Reason.{Reason}
use Rattle.refusals.specs.declared.Side.{Side}
use Rattle.refusals.specs.declared.Refusal.{Refusal}
use Rattle.blob.specs.Blob.{sizes_of}
use Rattle.blob.specs.declared.Lent.{Lent}
use Rattle.surface.specs.Patches.{Patch, patch_of}
use Rattle.surface.specs.declared.PatchError.TheVariants as error
use Rattle.operands.specs.Operands.{Workspaces, workspaces}
use Rattle.outcomes.specs.Answers.{Value, number, decided, blob, nothing, Report, answering, refused}
use Rattle.outcomes.specs.Operations.{Outcome, distance, max_distance, within, fully_within, intersects, closest_point, shortest_line, longest_line}
use Rattle.interpolation.specs.Operation.{line_interpolate_point}
use Rattle.replay.specs.declared.reply.Reply.{Reply}
use Rattle.replay.specs.declared.reply.Reply.TheVariants as reply
use Rattle.records.specs.declared.refused.Refused.{Refused}
use Rattle.records.specs.declared.workspace.WorkspaceSize.{WorkspaceSize}
use Rattle.records.specs.declared.reader.RecordError.{RecordError}
use Rattle.records.specs.Lent.{floats_hold_by_pattern, numbers_hold_by_pattern, bytes_hold_by_pattern, floats_lent, numbers_lent, bytes_lent}
use Rattle.replay.specs.declared.call.Call.{Call}
use Rattle.replay.specs.declared.call.Operation.{Operation}
use Rattle.replay.specs.declared.call.Operation.TheVariants as op

-- ---- replies

abbrev pub no_refusal : Refused
no_refusal = record { number = 0; side = 0 }

abbrev pub told_refusal : Reason → Side → Reply
told_refusal reason side = reply.Refused (record { number = number_of reason; side = number_of_side side })

abbrev pub told_value : Value → Reply
told_value (number d) = reply.Answered (to_bits binary64 d) 0
told_value (decided b) = cond b (reply.Answered 0 0) reply.Nothing
told_value blob = reply.Answered 0 0
told_value nothing = reply.Nothing

abbrev pub told : Report → Reply
told (answering v) = told_value v
told (refused reason side) = told_refusal reason side

abbrev pub told_patch : Patch → Reply
told_patch (Ok (Some p)) = reply.Answered p.start p.end
told_patch (Ok None) = reply.Nothing
told_patch (Err error.NoSurface) = reply.NoSurface
told_patch (Err (error.Refused r)) = told_refusal r.reason r.side

abbrev pub told_sizes : Result Lent Refusal → Reply
told_sizes (Ok l) = reply.Answered l.floats l.numbers
told_sizes (Err r) = told_refusal r.reason r.side

-- the numbers by which a record tells a reply, each 0 that says nothing: the case, the refusal, and two that are answered
abbrev pub Tells : Reply → ℕ → Refused → ℕ → ℕ → Type 0
Tells reply.Nothing case refusal first second = (case ≡ 0) × (refusal ≡ no_refusal) × (first ≡ 0) × (second ≡ 0)
Tells (reply.Answered m n) case refusal first second = (case ≡ 1) × (refusal ≡ no_refusal) × (first ≡ m) × (second ≡ n)
Tells (reply.Refused r) case refusal first second = (case ≡ 2) × (refusal ≡ r) × (first ≡ 0) × (second ≡ 0)
Tells reply.NoSurface case refusal first second = (case ≡ 3) × (refusal ≡ no_refusal) × (first ≡ 0) × (second ≡ 0)
Tells reply.Unknown case refusal first second = (case ≡ 4) × (refusal ≡ no_refusal) × (first ≡ 0) × (second ≡ 0)

-- ---- calls

-- what a call answers and leaves: a reply, both workspaces, the output
pub record Called : Type 0 where
  pub reply : Reply
  pub memory : Workspaces
  pub output : List ℕ

abbrev pub called : Reply → Workspaces → List ℕ → Called
called r w out = record { reply = r; memory = w; output = out }

-- by an operation's outcome, and the same of one that writes no output, or has one workspace
abbrev pub written : Outcome → Called
written o = called (told o.report) o.memory o.output

abbrev pub unwritten : Outcome → List ℕ → Called
unwritten o output = called (told o.report) o.memory output

abbrev pub written_one : Outcome → Workspaces → Called
written_one o w = called (told o.report) (workspaces o.memory.floats1 o.memory.table1 w.floats2 w.table2) o.output

-- the argument is the pattern of a distance or of a fraction, or a patch's number
unfoldable pub operated : Operation → List ℕ → List ℕ → ℕ → ℕ → Workspaces → List ℕ → Called
operated op.Distance a b rule n w output = unwritten (distance a b rule w) output
operated op.MaxDistance a b rule n w output = unwritten (max_distance a b w) output
operated op.DWithin a b rule n w output = unwritten (within a b (of_bits binary64 n) rule w) output
operated op.DFullyWithin a b rule n w output = unwritten (fully_within a b (of_bits binary64 n) w) output
operated op.Intersects a b rule n w output = unwritten (intersects a b rule w) output
operated op.ClosestPoint a b rule n w output = written (closest_point a b rule w output)
operated op.ShortestLine a b rule n w output = written (shortest_line a b rule w output)
operated op.LongestLine a b rule n w output = written (longest_line a b w output)
operated op.LineInterpolatePoint a b rule n w output = written_one (line_interpolate_point a (of_bits binary64 n) (workspaces w.floats1 w.table1 [] []) output) w
operated op.Patch a b rule n w output = called (told_patch (patch_of a n)) w output
operated op.Sizes a b rule n w output = called (told_sizes (sizes_of a)) w output

-- ---- records

-- a record's call by an operation, with this memory
abbrev pub call_of : Operation → Call → Workspaces → List ℕ → Called
call_of o c w output = operated o c.a.now c.b.now c.rule c.argument w output

-- whether there is so much of a workspace, and as much memory as a record lends
abbrev pub fits_in : WorkspaceSize → List Float → List ℕ → Bool
fits_in size floats table = nat_le size.floats (length floats) && nat_le size.numbers (length table)

abbrev pub has_room : Call → Workspaces → List ℕ → Bool
has_room c w output = fits_in c.lent1 w.floats1 w.table1 && fits_in c.lent2 w.floats2 w.table2 && nat_le c.lent_output (length output)

-- what a record lends is the front of the memory that there is
abbrev pub front : Call → Workspaces → Workspaces
front c w = workspaces (take c.lent1.floats w.floats1) (take c.lent1.numbers w.table1) (take c.lent2.floats w.floats2) (take c.lent2.numbers w.table2)

-- a call on the front leaves what lies behind it
abbrev pub with_rest : Call → Workspaces → List ℕ → Called → Called
with_rest c w output r =
    called r.reply
    (workspaces (r.memory.floats1 ++ drop c.lent1.floats w.floats1) (r.memory.table1 ++ drop c.lent1.numbers w.table1)
    (r.memory.floats2 ++ drop c.lent2.floats w.floats2) (r.memory.table2 ++ drop c.lent2.numbers w.table2))
    (r.output ++ drop c.lent_output output)

-- a record's call, lent the front of this memory; nothing is called where no operation has its number, or it lends more than there is
abbrev pub lending : Result Operation RecordError → Call → Workspaces → List ℕ → Called
lending (Ok o) c w output = if has_room c w output then with_rest c w output (call_of o c (front c w) (take c.lent_output output)) else called reply.Unknown w output
lending (Err e) c w output = called reply.Unknown w output

-- the memory that there is: of each side so many floats and numbers, and so many bytes of output
abbrev pub room : WorkspaceSize
room = record { floats = 256; numbers = 64 }

abbrev pub output_room : ℕ
output_room = 128

-- it holds marks before the call
abbrev pub marked : WorkspaceSize → WorkspaceSize → Workspaces
marked s t = workspaces (floats_lent s.floats) (numbers_lent s.numbers) (floats_lent t.floats) (numbers_lent t.numbers)

-- that is what the record expects: the reply, and what the memory holds, with no mark lost behind it
pub record Expects (c : Call) (expected : Reply) (r : Called) : Type 0 where
  pub reply : r.reply ≡ expected
  pub first : (floats_hold_by_pattern r.memory.floats1 c.held1.floats.now && numbers_hold_by_pattern r.memory.table1 c.held1.table.now) ≡ true
  pub second : (floats_hold_by_pattern r.memory.floats2 c.held2.floats.now && numbers_hold_by_pattern r.memory.table2 c.held2.table.now) ≡ true
  pub output : bytes_hold_by_pattern r.output c.output.now ≡ true

-- where a patch is asked for, the patch of that number too, whatever the record lends
abbrev pub ByCursor : Call → Reply → Type 0
ByCursor c expected = c.operation ≡ Ok op.Patch → told_patch (patch_of c.a.now c.argument) ≡ expected

-- a record that tells no reply expects nothing
abbrev pub ExpectsBy : Result Reply RecordError → Call → Type 0
ExpectsBy (Ok expected) c = Expects c expected (lending c.operation c (marked room room) (bytes_lent output_room)) × ByCursor c expected
ExpectsBy (Err e) c = ⊥

-- a record's call comes to what the record expects
abbrev pub AsExpected : Call → Type 0
AsExpected c = ExpectsBy c.reply c

-- What C reads of an answer: a case, the table's number and side, and a value (document 01, "What the operations say"; the cases are this interface's). Definitions only.
use Rattle.std.specs.Prelude.{ℕ, ◌*◌, ◌≡◌, cond, List, length, Float, Option, Some, None, Result, Ok, Err}
use Rattle.ieee754.specs.MinMax.{positive_zero}
use Rattle.refusals.specs.Checks.{first_of, refused_or}
use Rattle.refusals.specs.Table.{number_of, number_of_side}
use Rattle.refusals.specs.declared.Refusal.{Refusal}
use Rattle.workspace.specs.Workspace.{floats_per_coordinate, numbers_per_run}
use Rattle.blob.specs.Blob.{blob_checks, answer_of, floats_by, table_by}
use Rattle.blob.specs.declared.BlobRead.{BlobRead}
use Rattle.blob.specs.declared.Lent.{Lent}
use Rattle.blob.specs.Written.{output_by}
use Rattle.operands.specs.Operands.{Workspaces, workspaces}
use Rattle.surface.specs.Patches.{Patch}
use Rattle.surface.specs.declared.PatchError.{PatchError}
use Rattle.surface.specs.declared.PatchError.TheVariants as error
use Rattle.outcomes.specs.Answers.{Value, number, decided, blob, nothing, Report, answering, refused}
use Rattle.outcomes.specs.Operations.{Outcome}
use Rattle.dig_matcher.specs.Job.{HitLists, places_in, job_of, answer_of_job, ListedBy}
use Rattle.replies.specs.declared.Case.{Case}
use Rattle.replies.specs.declared.Case.TheVariants as case
use Rattle.replies.specs.declared.Reply.{Reply}
use Rattle.replies.specs.declared.PairReply.{PairReply}

-- the numbers of the cases
abbrev pub case_number : Case → ℕ
case_number case.Nothing = 0
case_number case.Answered = 1
case_number case.Refused = 2
case_number case.NoSurface = 3

-- ---- a number, a decision or a blob

-- case 0: nothing, or no
abbrev pub reply_nothing : Reply
reply_nothing = record { case = 0; number = 0; side = 0; value = positive_zero }

-- case 1: a number, or yes, or a blob in the output; 0 where there is no number
abbrev pub reply_answered : Float → Reply
reply_answered d = record { case = 1; number = 0; side = 0; value = d }

-- case 2: a refusal, with the table's number and side
abbrev pub reply_refused : ℕ → ℕ → Reply
reply_refused n side = record { case = 2; number = n; side = side; value = positive_zero }

-- the same of a refusal
abbrev pub reply_refusal : Refusal → Reply
reply_refusal r = reply_refused (number_of r.reason) (number_of_side r.side)

-- the reply to what is answered
abbrev pub reply_of_value : Value → Reply
reply_of_value (number d) = reply_answered d
reply_of_value (decided b) = cond b (reply_answered positive_zero) reply_nothing
reply_of_value blob = reply_answered positive_zero
reply_of_value nothing = reply_nothing

-- the reply to a report: document 01's number and side of a refusal, or the value
abbrev pub reply_of : Report → Reply
reply_of (answering v) = reply_of_value v
reply_of (refused reason side) = reply_refused (number_of reason) (number_of_side side)

-- what a call returns and leaves: a reply, both workspaces, the output
pub record Returned : Type 0 where
  pub reply : Reply
  pub memory : Workspaces
  pub output : List ℕ

abbrev pub returned : Reply → Workspaces → List ℕ → Returned
returned r w output = record { reply = r; memory = w; output = output }

-- an operation's outcome, as C has it
unfoldable pub returned_of : Outcome → Returned
returned_of o = returned (reply_of o.report) o.memory o.output

-- ---- two numbers

-- a case that is no refusal, with two numbers: 0 where it has none
abbrev pub pair_of : ℕ → ℕ → ℕ → PairReply
pair_of case first second = record { case = case; number = 0; side = 0; first = first; second = second }

-- case 2: a refusal, with the table's number and side
abbrev pub pair_refused : ℕ → ℕ → PairReply
pair_refused n side = record { case = 2; number = n; side = side; first = 0; second = 0 }

-- the same of a refusal
abbrev pub pair_refusal : Refusal → PairReply
pair_refusal r = pair_refused (number_of r.reason) (number_of_side r.side)

-- the lengths to lend for a blob: floats, then numbers
abbrev pub sizes_reply : Result Lent Refusal → PairReply
sizes_reply (Ok lent) = pair_of 1 lent.floats lent.numbers
sizes_reply (Err r) = pair_refusal r

-- case 3: the blob is no surface
abbrev pub error_reply : PatchError → PairReply
error_reply error.NoSurface = pair_of 3 0 0
error_reply (error.Refused r) = pair_refusal r

-- where a patch starts and ends in its blob; case 0: there is no such patch
abbrev pub patch_reply : Patch → PairReply
patch_reply (Ok (Some p)) = pair_of 1 p.start p.end
patch_reply (Ok None) = pair_of 0 0 0
patch_reply (Err e) = error_reply e

-- ---- a blob read

-- the floats and numbers filled: 4N, then 2R
abbrev pub read_reply : Result BlobRead Refusal → PairReply
read_reply (Ok read) = pair_of 1 (floats_per_coordinate * read.coords) (numbers_per_run * read.runs)
read_reply (Err r) = pair_refusal r

-- what a call that reads a blob returns and leaves: a reply, and side 1's workspace
pub record ReturnedPair : Type 0 where
  pub reply : PairReply
  pub memory : Workspaces

abbrev pub returned_pair : PairReply → Workspaces → ReturnedPair
returned_pair r w = record { reply = r; memory = w }

-- a refusal, with all lent memory unchanged, or the workspace filled
unfoldable pub read_returned : List ℕ → Workspaces → ReturnedPair
read_returned s w =
    let first = first_of (blob_checks s (length w.floats1) (length w.table1)) in
    returned_pair (read_reply (answer_of s (length w.floats1) (length w.table1))) (workspaces (floats_by first s w.floats1) (table_by first s w.table1) w.floats2 w.table2)

-- ---- a blob of any size written

-- its size, then 0
abbrev pub reply_size : ℕ → PairReply
reply_size n = pair_of 1 n 0

abbrev pub size_reply : Result ℕ Refusal → PairReply
size_reply (Ok n) = reply_size n
size_reply (Err r) = pair_refusal r

-- what a call that writes a blob returns and leaves: a reply, and the output
pub record ReturnedSize : Type 0 where
  pub reply : PairReply
  pub output : List ℕ

abbrev pub returned_size : PairReply → List ℕ → ReturnedSize
returned_size r output = record { reply = r; output = output }

-- by the first check that holds: a refusal, with the output unchanged, or the blob's size, and the blob in the output
unfoldable pub size_returned : Option Refusal → List ℕ → List ℕ → ReturnedSize
size_returned first written output = returned_size (size_reply (refused_or first (length written))) (output_by first written output)

-- ---- a job

-- what a call that runs a job returns and leaves: as the job's own outcome, told by the reply: the number of its hits, then 0
pub record JobReturned (tape : List ℕ) (w : Workspaces) (before after : HitLists) (r : PairReply) : Type 0 where
  pub answer : r ≡ size_reply (answer_of_job (job_of tape w (places_in before)))
  pub list : ListedBy (job_of tape w (places_in before)) before after

-- What a call that runs a job returns, from what the job did. Assumes nothing.
use Prim.Native.Nat.{ℕ}
use mathlib.Core.Path.{◌≡◌, ap, ◌∙◌}
use mathlib.Core.List.{List}
use Rattle.operands.specs.Operands.{Workspaces}
use Rattle.dig_matcher.specs.Job.{HitLists, JobOutcome}
use Rattle.std.specs.Prelude.{Result}
use Rattle.refusals.specs.declared.Refusal.{Refusal}
use Rattle.replies.specs.Replies.{size_reply, JobReturned}
use Rattle.replies.specs.declared.PairReply.{PairReply}

pub as_job : (tape : List ℕ) (w : Workspaces) (before after : HitLists) (o : Result ℕ Refusal) (r : PairReply) → JobOutcome tape w before after o → r ≡ size_reply o → JobReturned tape w before after r
as_job tape w before after o r h e = record { answer = e ∙ ap size_reply h.answer; list = h.list }

-- What an export returns and leaves is its operation's outcome, once the reply is that of the report. Assumes nothing.
use Prim.Native.Nat.{ℕ}
use mathlib.Core.Path.{◌≡◌}
use mathlib.Core.List.{List}
use Rattle.operands.specs.Operands.{Workspaces}
use Rattle.outcomes.specs.Answers.{Report}
use Rattle.outcomes.specs.Operations.{Outcome, outcome}
use Rattle.replies.specs.Replies.{reply_of, returned, returned_of}
use Rattle.replies.specs.declared.Reply.{Reply}

pub as_returned : (o : Outcome) (report : Report) (w : Workspaces) (output : List ℕ) (r : Reply) → outcome report w output ≡ o → r ≡ reply_of report → returned r w output ≡ returned_of o
unfolding returned_of
as_returned o report w output r e q = rw (q, ← e)

-- `viskorrel::viskorrel_3d_longest_line` meets its contract. Assumes nothing.
use Rattle.replies.proofs.Returned.{as_returned}
use Rattle.replies.proofs.LineReplies.{longest_reply}
use Rattle.viskorrel.proofs.viskorrel_3d_longest_line.Goals as goal

pub returns-clause-whole_outcome : goal.returns-clause-whole_outcome
returns-clause-whole_outcome c = as_returned _ _ _ _ _ c.st_3d_longest_line.ensures.whole_outcome c.into.ensures

pub returns-clause-longest_of_all : goal.returns-clause-longest_of_all
returns-clause-longest_of_all c = longest_reply _ _ _ _ _ _ _ c.into.ensures c.st_3d_longest_line.ensures.longest_of_all

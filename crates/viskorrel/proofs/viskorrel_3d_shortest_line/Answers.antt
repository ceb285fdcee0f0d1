-- `viskorrel::viskorrel_3d_shortest_line` meets its contract. Assumes nothing.
use Rattle.replies.proofs.Returned.{as_returned}
use Rattle.replies.proofs.LineReplies.{shortest_reply}
use Rattle.viskorrel.proofs.viskorrel_3d_shortest_line.Goals as goal

pub returns-clause-whole_outcome : goal.returns-clause-whole_outcome
returns-clause-whole_outcome c = as_returned _ _ _ _ _ c.st_3d_shortest_line.ensures.whole_outcome c.into.ensures

pub returns-clause-shortest_of_points : goal.returns-clause-shortest_of_points
returns-clause-shortest_of_points c = shortest_reply _ _ _ _ _ _ _ c.into.ensures _ c.st_3d_shortest_line.ensures.shortest_of_points

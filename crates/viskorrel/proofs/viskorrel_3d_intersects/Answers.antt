-- `viskorrel::viskorrel_3d_intersects` meets its contract. Assumes nothing.
use Rattle.replies.proofs.Returned.{as_returned}
use Rattle.viskorrel.proofs.viskorrel_3d_intersects.Goals as goal

pub returns : goal.returns
returns c = record { whole_outcome = as_returned _ _ _ _ _ c.st_3d_intersects.ensures.whole_outcome c.into.ensures }

-- `viskorrel::viskorrel_3d_line_interpolate_point` meets its contract. Assumes nothing.
use Rattle.replies.proofs.Returned.{as_returned}
use Rattle.viskorrel.proofs.viskorrel_3d_line_interpolate_point.Goals as goal

pub returns : goal.returns
returns c = record { whole_outcome = as_returned _ _ _ _ _ c.st_3d_line_interpolate_point.ensures.whole_outcome c.into.ensures }

-- `viskorrel::viskorrel_job` meets its contract. Assumes nothing.
use Rattle.replies.proofs.JobReplies.{as_job}
use Rattle.viskorrel.proofs.viskorrel_job.Goals as goal

pub returns : goal.returns
returns c = record { whole_outcome = as_job _ _ _ _ _ _ c.job.ensures.whole_outcome c.into.ensures }

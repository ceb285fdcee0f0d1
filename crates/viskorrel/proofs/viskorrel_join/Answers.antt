-- `viskorrel::viskorrel_join` meets its contract. Assumes nothing.
use Rattle.replies.proofs.SizeReplies.{as_size, reads_reply, max_distance_reply}
use Rattle.viskorrel.proofs.viskorrel_join.Goals as goal

pub returns : goal.returns
returns c =
    let join = c.join.ensures in
    let same = c.into.ensures in
    record {
      whole_outcome = as_size _ _ same _ _ _ _ join.whole_outcome;
      reads_as_both = reads_reply _ _ same _ _ _ join.reads_as_both;
      max_distance_of_both = max_distance_reply _ _ same _ _ _ join.max_distance_of_both;
    }

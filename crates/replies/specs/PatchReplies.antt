-- What C reads of a surface's patches one after the other (document 01, Patches; the cases are this interface's). Definitions only.
use Rattle.std.specs.Prelude.{Result, Ok, Err}
use Rattle.surface.specs.declared.PatchList.{PatchList}
use Rattle.surface.specs.declared.PatchError.{PatchError}
use Rattle.replies.specs.Replies.{pair_of, error_reply}
use Rattle.replies.specs.declared.PairReply.{PairReply}

-- where the first patch starts, and how many there are; case 3: the blob is no surface
abbrev pub patches_reply : Result PatchList PatchError → PairReply
patches_reply (Ok l) = pair_of 1 l.first l.count
patches_reply (Err e) = error_reply e

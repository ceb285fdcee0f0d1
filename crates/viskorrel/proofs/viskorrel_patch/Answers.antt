-- `viskorrel::viskorrel_patch` meets its contract. Assumes nothing.
use mathlib.Core.Path.{ap, ◌∙◌}
use Rattle.replies.specs.Replies.{patch_reply}
use Rattle.viskorrel.proofs.viskorrel_patch.Goals as goal

pub returns : goal.returns
returns c = c.into.ensures ∙ ap patch_reply c.patch_range.ensures

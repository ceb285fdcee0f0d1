-- `viskorrel::viskorrel_patches` meets its contract. Assumes nothing.
use mathlib.Core.Path.{ap, ◌∙◌}
use Rattle.replies.specs.PatchReplies.{patches_reply}
use Rattle.replies.proofs.PatchSteps.{list_told}
use Rattle.viskorrel.proofs.viskorrel_patches.Goals as goal

pub returns : goal.returns
returns c =
    let w = list_told _ _ (c.into.ensures ∙ ap patches_reply c.patch_list.ensures) in
    record { value = w.0; first = w.1 }

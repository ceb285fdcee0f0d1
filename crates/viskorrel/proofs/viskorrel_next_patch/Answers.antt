-- `viskorrel::viskorrel_next_patch` meets its contract. Assumes nothing.
use mathlib.Core.Path.{ap, ◌∙◌}
use Rattle.replies.specs.Replies.{patch_reply}
use Rattle.replies.proofs.PatchSteps.{next_told}
use Rattle.viskorrel.proofs.viskorrel_next_patch.Goals as goal

pub returns : goal.returns
returns c =
    let w = next_told _ _ _ _ (c.into.ensures ∙ ap patch_reply (rw (c.new.ensures.made.0, c.new.ensures.made.1, c.new.ensures.made.2) at c.range.ensures.next)) in
    record { value = w.0; patch_n = w.1 }

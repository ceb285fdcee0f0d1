-- Where the patches are refused, so is each of them, and a cursor stands in patches that were all scanned.
use Rattle.std.proofs.Common.{sym, ◌∙◌}
use Rattle.std.proofs.lemmas.Result.{err_from_is_err_and}
use Rattle.replay.proofs.Numbered.{unlisted, never_refused}
use Rattle.replay.proofs.patches.patch_by_cursor.Goals as goal

pub returns-in_err-list : goal.returns-in_err-list
returns-in_err-list c =
    let p = err_from_is_err_and c.from_residual.result c.from_residual.ensures.1 in
    rw (p.1, p.2) (sym (unlisted c.args.blob.now c.args.n c.in_err-list.field-0.0 (sym c.patch_list.ensures ∙ c.in_err-list.was)))

pub returns-in_err-part : goal.returns-in_err-part
returns-in_err-part c =
    let l = c.loop-k in
    absurd (never_refused l.cursor.blob.now l.cursor.at l.cursor.left l.k l.invariant.stands c.in_err-part.field-0.0
    (sym (c.range.ensures.patch_n l.k l.invariant.stands) ∙ c.in_err-part.was))

-- `surface::range_in` refuses as the patch itself does, or one after it. Assumes nothing.
use mathlib.Core.Path.{sym, ◌∙◌}
use Rattle.std.proofs.lemmas.Result.{err_from_is_err_and}
use Rattle.surface.specs.Patches.{patch_at}
use Rattle.surface.proofs.InRow.{patch_ends, itself_refused, rest_refused}
use Rattle.surface.proofs.range_in.Goals as goal

pub returns-in_err-end : goal.returns-in_err-end
returns-in_err-end c =
    let p = err_from_is_err_and c.from_residual-in_err-end.result c.from_residual-in_err-end.ensures.1 in
    rw (p.1, p.2) (sym (itself_refused (patch_at c.args.s.now) _ _ _ _ _ c.if-count-n.false (sym c.scan_patches-2.ensures ∙ c.in_ok-start.was) (sym c.scan_patch.ensures ∙ c.in_err-end.was)))

pub returns-in_err-scan_patches-2 : goal.returns-in_err-scan_patches-2
returns-in_err-scan_patches-2 c =
    let p = err_from_is_err_and c.from_residual-in_err-scan_patches-2.result c.from_residual-in_err-scan_patches-2.ensures.1 in
    rw (p.1, p.2) (sym (rest_refused (patch_at c.args.s.now) _ _ _ _ _ _ _ c.if-count-n.false (sym c.scan_patches-2.ensures ∙ c.in_ok-start.was) (patch_ends _ _ _ (sym c.scan_patch.ensures ∙ c.in_ok-end.was)) (sym c.scan_patches-3.ensures ∙ c.in_err-scan_patches-2.was)))

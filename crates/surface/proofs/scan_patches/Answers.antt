-- `surface::scan_patches` refuses as a patch does. Assumes nothing.
use mathlib.Core.Path.{sym, ◌∙◌}
use Rattle.std.proofs.lemmas.Result.{err_from_is_err_and}
use Rattle.surface.specs.Patches.{patch_at}
use Rattle.surface.proofs.Scans.{turn_refused}
use Rattle.surface.proofs.scan_patches.Goals as goal

pub returns-in_err-next : goal.returns-in_err-next
returns-in_err-next c =
    let p = err_from_is_err_and c.from_residual.result c.from_residual.ensures.1 in
    rw (p.1, p.2) (sym (turn_refused (patch_at c.args.s.now) _ _ _ _ _ c.loop-test.true c.loop.invariant (sym c.scan_patch.ensures ∙ c.in_err-next.was)))

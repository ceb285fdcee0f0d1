-- `surface::next_range` refuses as the patch does. Assumes nothing.
use mathlib.Core.Path.{sym, ◌∙◌}
use native.Mathlib.Omega.{arith}
use borrow.Author.Tests.{ne_eqb}
use Rattle.std.proofs.lemmas.Result.{err_from_is_err_and}
use Rattle.surface.specs.Patches.{next_by_kind, next_of}
use Rattle.surface.proofs.InRow.{scanned_refusing}
use Rattle.surface.proofs.next_range.Goals as goal

pub returns-in_err-end-in-Some-Collection : goal.returns-in_err-end-in-Some-Collection
unfolding next_of next_by_kind
returns-in_err-end-in-Some-Collection c =
    let p = err_from_is_err_and c.from_residual.result c.from_residual.ensures.1 in
    let k = c.in-Some-Collection in
    rw (p.1, p.2) (simp (ne_eqb c.args.left 0 (λ e. omega (arith, e)), ← c.surface_kind.ensures, k.is, k.field-0-is) (sym (scanned_refusing _ _ (sym c.scan_patch.ensures ∙ c.in_err-end-in-Some-Collection.was))))

-- `coords::count_members` refuses as a member does. Assumes nothing.
use mathlib.Core.Path.{sym, ◌∙◌}
use Rattle.std.proofs.lemmas.Result.{err_from_is_err_and}
use Rattle.coords.specs.Inner.{walk_runs}
use Rattle.coords.proofs.Loops.{counts_refused}
use Rattle.coords.proofs.+count_geometry_count_members.Goals as goal

pub count_members-returns-in_err-member : goal.count_members-returns-in_err-member
count_members-returns-in_err-member t c =
    let p = err_from_is_err_and c.from_residual-in_err-member.result c.from_residual-in_err-member.ensures.1 in
    rw (p.1, p.2) (sym (c.loop.invariant.counts ∙ counts_refused (walk_runs c.args.levels c.args.s.now) _ _ _ _ c.loop-test.true (sym c.count_geometry.ensures ∙ c.in_err-member.was)))

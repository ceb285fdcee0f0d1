-- `coords::count_rings` refuses as a ring does. Assumes nothing.
use mathlib.Core.Path.{sym, ◌∙◌}
use Rattle.std.proofs.lemmas.Result.{err_from_is_err_and}
use Rattle.coords.specs.Inner.{line_runs}
use Rattle.coords.proofs.Loops.{counts_refused}
use Rattle.coords.proofs.count_rings.Goals as goal

pub returns-in_err-ring : goal.returns-in_err-ring
returns-in_err-ring c =
    let p = err_from_is_err_and c.from_residual-in_err-ring.result c.from_residual-in_err-ring.ensures.1 in
    rw (p.1, p.2) (sym (c.loop.invariant.counts ∙ counts_refused (line_runs c.args.h c.args.s.now) _ _ _ _ c.loop-test.true (sym c.count_line.ensures ∙ c.in_err-ring.was)))

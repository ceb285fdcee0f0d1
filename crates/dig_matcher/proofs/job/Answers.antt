-- `job` meets its contract. Assumes nothing.
use mathlib.Core.Path.{sym}
use native.Mathlib.Omega.{arith}
use Rattle.std.proofs.lemmas.Result.{err_from_is_err_and}
use Rattle.dig_matcher.proofs.JobLaws.{job_refused, job_too_many, job_copied, job_again}
use Rattle.dig_matcher.proofs.job.Goals as goal

pub returns-in_err-hits : goal.returns-in_err-hits
returns-in_err-hits c =
    let p = err_from_is_err_and c.from_residual.result c.from_residual.ensures.1 in
    rw (p.1, p.2) (record { whole_outcome = job_refused _ _ _ _ _ _ (rw c.in_err-hits.was at c.keep_hits.ensures) })

pub returns-then-places_in-hits : goal.returns-then-places_in-hits
returns-then-places_in-hits c = rw c.of.ensures (record { whole_outcome = job_too_many _ _ _ _ _ _ (rw c.in_ok-hits.was at c.keep_hits.ensures) (rw (← c.places_in.ensures) c.if-places_in-hits.true) })

pub returns-then-hits-le-KEPT : goal.returns-then-hits-le-KEPT
returns-then-hits-le-KEPT c = record { whole_outcome = rw c.put_hits.ensures (job_copied _ _ _ _ _ _ (rw c.in_ok-hits.was at c.keep_hits.ensures) (omega (arith, c.no_hits-kept.ensures, c.if-hits-le-KEPT.true)) (rw (← c.places_in.ensures) c.if-places_in-hits.false)) }

pub returns-else-hits-le-KEPT : goal.returns-else-hits-le-KEPT
returns-else-hits-le-KEPT c = record { whole_outcome = job_again _ _ _ _ _ _ (rw c.in_ok-hits.was at c.keep_hits.ensures) _ record { floats1 = sym c.keep_hits.auto.floats1; table1 = sym c.keep_hits.auto.table1; floats2 = sym c.keep_hits.auto.floats2; table2 = sym c.keep_hits.auto.table2 } _ c.write_hits.ensures (rw (← c.places_in.ensures) c.if-places_in-hits.false) }

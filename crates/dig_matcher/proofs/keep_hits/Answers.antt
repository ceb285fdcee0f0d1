-- `keep_hits` meets its contract. Assumes nothing.
use mathlib.Core.Path.{refl, sym, ◌∙◌}
use mathlib.Core.List.{[], ◌∷◌, ◌++◌}
use native.Mathlib.Omega.{arith}
use Rattle.std.proofs.lemmas.Result.{err_from_is_err_and}
use Rattle.operands.specs.Operands.{workspaces}
use Rattle.dig_matcher.proofs.Matches.{none_left}
use Rattle.dig_matcher.proofs.Turns.{no_hits_yet, next_on, one_hit_more, run_at_end, run_refused, kept_ended, kept_refused}
use Rattle.dig_matcher.proofs.StoredHits.{kept_none, kept_next, kept_full}
use Rattle.dig_matcher.proofs.keep_hits.Goals as goal
use Rattle.dig_matcher.proofs.keep_hits.Goals.{then-hits-kept, else-hits-kept}

pub loop-hit-init : goal.loop-hit-init
loop-hit-init c = ([], no_hits_yet _ _ c.start-run.result c.start-run.ensures.job c.start-run.ensures.rest, record { floats1 = refl; table1 = refl; floats2 = refl; table2 = refl }, sym (kept_none _))

pub returns-in_err-hit : goal.returns-in_err-hit
returns-in_err-hit c =
    let v = c.loop-hit.invariant in
    let p = err_from_is_err_and c.from_residual.result c.from_residual.ensures.1 in
    rw (p.1, p.2) (kept_refused (workspaces c.args.floats1.now c.args.table1.now c.args.floats2.now c.args.table2.now) c.args.tape.now _ _ _ (run_refused (workspaces c.args.floats1.now c.args.table1.now c.args.floats2.now c.args.table2.now) c.args.tape.now c.loop-hit.run _ c.loop-hit.hits _ v.1 _ v.2 _ (rw c.in_err-hit.was at c.next_hit.ensures)))

pub overflow_add-hits : goal.overflow_add-hits
overflow_add-hits c =
    let on = next_on _ _ _ _ (rw (c.in_ok-hit.was, c.in-Some.is) at c.next_hit.ensures) in
    omega (arith, c.loop-hit.invariant.1.few, on, c.well_formed.0.1)

pub loop-hit-smaller : goal.loop-hit-smaller
loop-hit-smaller c =
    let on = next_on _ _ _ _ (rw (c.in_ok-hit.was, c.in-Some.is) at c.next_hit.ensures) in
    on

pub loop-hit-preserved : goal.loop-hit-preserved
loop-hit-preserved c =
    let v = c.loop-hit.invariant in (
      v.0 ++ (c.in-Some.hit ∷ []),
      one_hit_more (workspaces c.args.floats1.now c.args.table1.now c.args.floats2.now c.args.table2.now) c.args.tape.now c.loop-hit.run _ c.loop-hit.hits _ v.1 _ v.2 c.in-Some.hit (rw (c.in_ok-hit.was, c.in-Some.is) at c.next_hit.ensures),
      record { floats1 = v.2.floats1 ∙ sym c.next_hit.auto.floats1; table1 = v.2.table1 ∙ sym c.next_hit.auto.table1; floats2 = v.2.floats2 ∙ sym c.next_hit.auto.floats2; table2 = v.2.table2 ∙ sym c.next_hit.auto.table2 },
      elim c.if-hits-kept.branch [
        | then-hits-kept w ↦ rw (w.kept-is, v.3, v.1.counted) (sym (kept_next c.args.kept.now v.0 c.in-Some.hit (omega (arith, w.if-hits-kept.true, c.loop-hit.auto.kept, v.1.counted))))
        | else-hits-kept w ↦ rw (w.kept-is, v.3) (sym (kept_full c.args.kept.now v.0 c.in-Some.hit (omega (arith, w.if-hits-kept.false, c.loop-hit.auto.kept, v.1.counted))))
      ],
    )

pub returns : goal.returns
returns c =
    let v = c.loop-hit.invariant in
    let no_more = none_left _ c.in_default.not-Some in
    kept_ended (workspaces c.args.floats1.now c.args.table1.now c.args.floats2.now c.args.table2.now) c.args.tape.now c.next_hit.new.self _ _ v.0 _ (run_at_end (workspaces c.args.floats1.now c.args.table1.now c.args.floats2.now c.args.table2.now) c.args.tape.now c.loop-hit.run _ c.loop-hit.hits _ v.1 _ v.2 (rw (c.in_ok-hit.was, no_more) at c.next_hit.ensures)) v.1.counted v.3

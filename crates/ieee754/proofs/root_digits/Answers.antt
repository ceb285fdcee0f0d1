-- `root_digits` meets its contract. The invariant of its loop is `Searching`. Assumes nothing.
use mathlib.Core.Path.{◌≡◌}
use native.Mathlib.Omega.{arith}
use Rattle.ieee754.proofs.DigitLoop.{search_again, search_early, search_late, zero_digit, one_digit}
use Rattle.ieee754.proofs.root_digits.Goals as goal
use Rattle.ieee754.proofs.root_digits.Goals.{else-rest-eq0-via-then-rest-eq0+else-radicand-eq0, else-rest-eq0-via-else-rest-eq0, then-t-rest, else-t-rest}

pub returns-then-radicand-eq0 : goal.returns-then-radicand-eq0
returns-then-radicand-eq0 c =
    let l = c.loop-turns in
    let w = search_early c.args.m.digits l.q l.rest l.radicand l.turns l.invariant c.if-rest-eq0.true c.if-radicand-eq0.true in
    record { root = w.0; turns = w.1 }

pub loop-turns-preserved : goal.loop-turns-preserved
loop-turns-preserved c =
    let l = c.loop-turns in
    let m = c.args.m.digits in
    let i = c.loop-turns-test.true in
    let more : l.rest ≡ 0 → l.radicand ≡ 0 → ⊥ = λ r z. elim c.else-rest-eq0.branch [ else-rest-eq0-via-then-rest-eq0+else-radicand-eq0 w ↦ w.if-radicand-eq0.false z | else-rest-eq0-via-else-rest-eq0 w ↦ w.if-rest-eq0.false r ] in
    search_again m l.q l.rest l.radicand l.turns _ _ _ l.invariant more
    (elim c.if-t-rest.branch [ then-t-rest w ↦ rw (w.q-is, w.rest-is) (one_digit m l.q l.rest l.radicand l.turns i l.invariant.found w.if-t-rest.true) | else-t-rest w ↦ rw (w.q-is, w.rest-is) (zero_digit m l.q l.rest l.radicand l.turns i l.invariant.found w.if-t-rest.false) ])

pub returns : goal.returns
returns c =
    let l = c.loop-turns in
    let w = search_late c.args.m.digits l.q l.rest l.radicand l.turns (omega arith) l.invariant in
    record { root = w.0; turns = w.1 }

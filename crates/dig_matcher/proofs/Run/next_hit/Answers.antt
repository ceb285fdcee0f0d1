-- `Run::next_hit` meets its contract. Assumes nothing.
use mathlib.Core.Path.{refl, sym, ◌∙◌}
use Rattle.std.proofs.lemmas.Result.{err_from_is_err_and}
use Rattle.operands.specs.Operands.{workspaces}
use Rattle.dig_matcher.proofs.Matches.{none_left}
use Rattle.dig_matcher.proofs.Turns.{first_turn, goes_on, after_load, after_tolerance, run_ends, tape_breaks, pair_refused, no_hit, a_hit}
use Rattle.dig_matcher.proofs.Run.next_hit.Goals as goal

pub loop-step-init : goal.loop-step-init
loop-step-init c = (first_turn _ _, record { floats1 = refl; table1 = refl; floats2 = refl; table2 = refl })

pub returns-in-End : goal.returns-in-End
returns-in-End c = run_ends _ _ _ c.loop-step.invariant.0 _ (rw (c.in-Some.is, c.in-End.is) at c.read_command.ensures)

pub loop-step-smaller-in-Load : goal.loop-step-smaller-in-Load
loop-step-smaller-in-Load c = goes_on _ _ _ (rw (c.in-Some.is, c.in-Load.is) at c.read_command.ensures) (λ e. cc)

pub loop-step-preserved-in-Load : goal.loop-step-preserved-in-Load
loop-step-preserved-in-Load c = (after_load (workspaces c.args.floats1.now c.args.table1.now c.args.floats2.now c.args.table2.now) c.args.self.now c.loop-step.self c.loop-step.invariant.0 c.in-Some.rest _ _ _ c.load.ensures (rw (c.in-Some.is, c.in-Load.is) at c.read_command.ensures), c.loop-step.invariant.1)

pub loop-step-smaller-in-Tolerance : goal.loop-step-smaller-in-Tolerance
loop-step-smaller-in-Tolerance c = goes_on _ _ _ (rw (c.in-Some.is, c.in-Tolerance.is) at c.read_command.ensures) (λ e. cc)

pub loop-step-preserved-in-Tolerance : goal.loop-step-preserved-in-Tolerance
loop-step-preserved-in-Tolerance c = (after_tolerance (workspaces c.args.floats1.now c.args.table1.now c.args.floats2.now c.args.table2.now) c.args.self.now c.loop-step.self c.loop-step.invariant.0 c.in-Some.rest _ (rw (c.in-Some.is, c.in-Tolerance.is) at c.read_command.ensures), c.loop-step.invariant.1)

pub returns-in_err-matched-in-Pair : goal.returns-in_err-matched-in-Pair
returns-in_err-matched-in-Pair c =
    let p = err_from_is_err_and c.from_residual.result c.from_residual.ensures.1 in
    rw (p.1, p.2) (pair_refused (workspaces c.args.floats1.now c.args.table1.now c.args.floats2.now c.args.table2.now) c.args.self.now c.loop-step.self c.loop-step.invariant.0 c.in-Some.rest c.in-Pair.first c.in-Pair.second (rw (c.in-Some.is, c.in-Pair.is) at c.read_command.ensures) _ c.loop-step.invariant.1 _ c.match_pair.ensures _ c.in_err-matched-in-Pair.was)

pub returns-in-Some-matched : goal.returns-in-Some-matched
returns-in-Some-matched c = rw (c.from.ensures, c.from-in-Some-matched.ensures) (a_hit (workspaces c.args.floats1.now c.args.table1.now c.args.floats2.now c.args.table2.now) c.args.self.now c.loop-step.self c.loop-step.invariant.0 c.in-Some.rest c.in-Pair.first c.in-Pair.second (rw (c.in-Some.is, c.in-Pair.is) at c.read_command.ensures) _ c.loop-step.invariant.1 _ c.match_pair.ensures _ (rw c.in-Some-matched.is at c.in_ok-matched-in-Pair.was))

pub loop-step-smaller : goal.loop-step-smaller
loop-step-smaller c = goes_on _ _ _ (rw (c.in-Some.is, c.in-Pair.is) at c.read_command.ensures) (λ e. cc)

pub loop-step-preserved : goal.loop-step-preserved
loop-step-preserved c = (no_hit (workspaces c.args.floats1.now c.args.table1.now c.args.floats2.now c.args.table2.now) c.args.self.now c.loop-step.self c.loop-step.invariant.0 c.in-Some.rest c.in-Pair.first c.in-Pair.second (rw (c.in-Some.is, c.in-Pair.is) at c.read_command.ensures) _ c.loop-step.invariant.1 _ c.match_pair.ensures (rw (none_left _ c.in_default-matched.not-Some) at c.in_ok-matched-in-Pair.was), record { floats1 = c.loop-step.invariant.1.floats1 ∙ sym c.match_pair.auto.floats1; table1 = c.loop-step.invariant.1.table1 ∙ sym c.match_pair.auto.table1; floats2 = c.loop-step.invariant.1.floats2 ∙ sym c.match_pair.auto.floats2; table2 = c.loop-step.invariant.1.table2 ∙ sym c.match_pair.auto.table2 })

pub returns : goal.returns
returns c = rw c.of.ensures (tape_breaks (workspaces c.args.floats1.now c.args.table1.now c.args.floats2.now c.args.table2.now) c.args.self.now c.loop-step.self c.loop-step.invariant.0 (rw (none_left _ c.in_default.not-Some) at c.read_command.ensures))

-- `joining::nests_too_deep` meets its contract. Assumes nothing.
use mathlib.Core.Path.{sym, ◌∙◌}
use Rattle.joining.proofs.Answers.{both_lie}
use Rattle.joining.proofs.Own.{first_too_deep, by_second}
use Rattle.joining.proofs.nests_too_deep.Goals as goal

pub reaches_last_level-requires : goal.reaches_last_level-requires
reaches_last_level-requires c =
    let l = both_lie c.args.both.now.a.now c.args.both.now.b.now c.args.both.now.operands c.args.both.now.read in
    record { at_value = l.start1; s_value = l.walk1 }

pub returns-then-reaches_last_level : goal.returns-then-reaches_last_level
returns-then-reaches_last_level c = c.if-reaches_last_level.true ∙ sym (first_too_deep c.args.both.now.a.now c.args.both.now.b.now (sym c.reaches_last_level.ensures ∙ c.if-reaches_last_level.true))

pub reaches_last_level-requires-else-reaches_last_level : goal.reaches_last_level-requires-else-reaches_last_level
reaches_last_level-requires-else-reaches_last_level c =
    let l = both_lie c.args.both.now.a.now c.args.both.now.b.now c.args.both.now.operands c.args.both.now.read in
    record { at_value = l.start2; s_value = l.walk2 }

pub returns-else-reaches_last_level : goal.returns-else-reaches_last_level
returns-else-reaches_last_level c = c.reaches_last_level-else-reaches_last_level.ensures ∙ sym (by_second c.args.both.now.a.now c.args.both.now.b.now (sym c.reaches_last_level.ensures ∙ c.if-reaches_last_level.false))

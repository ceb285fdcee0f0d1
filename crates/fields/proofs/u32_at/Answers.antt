-- `fields::u32_at` meets its contract. Assumes nothing.
use mathlib.Core.Path.{◌∙◌}
use Rattle.std.proofs.lemmas.Result.{MatchResult-at_ok}
use Rattle.fields.proofs.Chunks.{u32_little, u32_big}
use Rattle.fields.proofs.u32_at.Goals as goal

pub returns-then-little : goal.returns-then-little
returns-then-little c =
    let part = MatchResult-at_ok _ _ _ c.unwrap-bytes.ensures c.try_into.ensures.1 in
    rw c.if-little.true (c.from_le_bytes.ensures ∙ u32_little c.args.s.now c.unwrap-bytes.result c.args.at part.same)

pub returns-else-little : goal.returns-else-little
returns-else-little c =
    let part = MatchResult-at_ok _ _ _ c.unwrap-bytes.ensures c.try_into.ensures.1 in
    rw c.if-little.false (c.from_be_bytes.ensures ∙ u32_big c.args.s.now c.unwrap-bytes.result c.args.at part.same)

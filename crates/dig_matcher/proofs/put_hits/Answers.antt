-- `put_hits` meets its contract. Assumes nothing.
use mathlib.Core.Path.{sym, ◌∙◌}
use Rattle.dig_matcher.proofs.StoredHits.{stored_none, stored_turn, stored_whole}
use Rattle.dig_matcher.proofs.put_hits.Goals as goal

pub loop-k-init : goal.loop-k-init
loop-k-init c = sym (stored_none _)

pub loop-k-preserved : goal.loop-k-preserved
loop-k-preserved c = c.put_hit.ensures ∙ rw c.loop-k.invariant (stored_turn _ _ _ _ c.loop-k-test.true)

pub returns : goal.returns
returns c = c.loop-k.invariant ∙ stored_whole _ _ _ c.loop-k-test.false

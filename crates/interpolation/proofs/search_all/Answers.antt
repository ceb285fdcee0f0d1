-- `search_all` meets its contract: it stops where the definition does. Assumes nothing.
use mathlib.Core.Path.{sym, ◌∙◌}
use Rattle.interpolation.specs.Inner.{stop_of}
use Rattle.interpolation.proofs.Turns.{stop_here}
use Rattle.interpolation.proofs.search_all.Goals as goal

pub returns-then-reached-target : goal.returns-then-reached-target
unfolding stop_of
returns-then-reached-target c = sym (stop_here _ _ _ _ _ _ _ _ c.in-Some-2.ensures.steps _ c.segment_length-reached.ensures c.if-reached-target.true) ∙ c.loop-start.invariant

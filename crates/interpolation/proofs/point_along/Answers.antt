-- `point_along` meets its contract. Assumes nothing.
use mathlib.Core.Path.{sym, ◌∙◌}
use lib.Ieee.{of_bits}
use Rattle.interpolation.proofs.Passes.{at_start, at_search}
use Rattle.interpolation.proofs.point_along.Goals as goal

pub returns-then-m : goal.returns-then-m
unfolding of_bits
returns-then-m c = at_start c.args.fraction _ c.requires _ (sym c.measure_all.ensures ∙ c.unwrap-m.ensures) c.if-m.true

pub returns : goal.returns
unfolding of_bits
returns c = at_search c.args.fraction _ c.requires _ (sym c.measure_all.ensures ∙ c.unwrap-m.ensures) c.if-m.false _ (sym c.search_all.ensures ∙ c.unwrap-stop.ensures) _ c.point_on.ensures

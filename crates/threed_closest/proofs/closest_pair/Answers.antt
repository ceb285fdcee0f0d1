-- `threed_closest::closest_pair` meets its contract. Assumes nothing.
use mathlib.Core.Path.{ap, ◌∙◌}
use Rattle.outcomes.specs.Inner.{swept_of}
use Rattle.reading.proofs.Steps.{sides, swept_found}
use Rattle.threed_closest.proofs.closest_pair.Goals as goal

pub slice_bounds-new-end : goal.slice_bounds-new-end
slice_bounds-new-end c = let s = sides c.read_by_rule.ensures c.in_ok-read.was in s.0.fits

pub slice_bounds-new-end-2 : goal.slice_bounds-new-end-2
slice_bounds-new-end-2 c = let s = sides c.read_by_rule.ensures c.in_ok-read.was in s.0.long

pub new-first-requires : goal.new-first-requires
new-first-requires c = let s = sides c.read_by_rule.ensures c.in_ok-read.was in s.0.laid

pub slice_bounds-new-end-3 : goal.slice_bounds-new-end-3
slice_bounds-new-end-3 c = let s = sides c.read_by_rule.ensures c.in_ok-read.was in s.1.fits

pub slice_bounds-new-end-4 : goal.slice_bounds-new-end-4
slice_bounds-new-end-4 c = let s = sides c.read_by_rule.ensures c.in_ok-read.was in s.1.long

pub new-second-requires : goal.new-second-requires
new-second-requires c = let s = sides c.read_by_rule.ensures c.in_ok-read.was in s.1.laid

pub returns : goal.returns
returns c = let s = sides c.read_by_rule.ensures c.in_ok-read.was in
    swept_found c.read_by_rule.ensures c.in_ok-read.was _ (c.with_srid.ensures ∙ ap (swept_of _) (c.sweep-found.ensures ∙ rw (c.new-first.ensures, c.new-second.ensures, s.0.items, s.1.items)))

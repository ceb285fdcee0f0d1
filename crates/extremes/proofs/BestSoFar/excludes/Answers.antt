-- `extremes::BestSoFar::excludes` meets its contract. Assumes nothing.
use mathlib.Core.Path.{sym, ap, ◌∙◌, subst}
use lib.Dec.{T}
use Rattle.ieee754.specs.Root.{root_of}
use Rattle.primitives.specs.Unrooted.{rooted_of}
use Rattle.primitives.proofs.Squares.{rooted_distance}
use Rattle.extremes.specs.BestSoFar.{found_of}
use Rattle.extremes.proofs.KeptWitness.{sound_fits}
use Rattle.extremes.proofs.Offered.{sum_not_better}
use Rattle.extremes.proofs.BestSoFar.excludes.Goals as goal

pub returns-clause-unchanged : goal.returns-clause-unchanged
returns-clause-unchanged g c e w r =
    let b = c.self.inside in
    rw (← c.self.view_is) (sum_not_better g.met.S.Sense.laws b.best.sum (found_of b.best.witness) c.args.sum w c.self.invariant (subst T (sym c.well_formed.1.0.1) tt) (sym c.in_order.ensures ∙ e) r)

pub returns-clause-rooted : goal.returns-clause-rooted
returns-clause-rooted g c e s q =
    sym (returns-clause-unchanged g c e (rooted_of s) (rooted_distance s ∙ ap root_of q))

pub returns-clause-fits : goal.returns-clause-fits
returns-clause-fits g c = rw (← c.self.view_is) (sound_fits c.self.inside.best.sum (found_of c.self.inside.best.witness) c.self.invariant)

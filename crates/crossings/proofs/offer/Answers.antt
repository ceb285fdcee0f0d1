-- `crossings::offer` meets its contract. Assumes nothing.
use Rattle.crossings.proofs.Tried.{found_alone}
use Rattle.crossings.proofs.offer.Goals as goal

pub returns-in-Some : goal.returns-in-Some
returns-in-Some c = rw (found_alone c.args.a c.args.b c.crossing_between.ensures c.args.best.now c.offer.ensures.fits c.in-Some.is, c.offer.ensures.value, c.between.ensures.same)

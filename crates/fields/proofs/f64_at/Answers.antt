-- `fields::f64_at` meets its contract. Assumes nothing.
use Rattle.fields.specs.Fields.{f64_at}
use Rattle.fields.proofs.f64_at.Goals as goal

pub returns : goal.returns
unfolding f64_at
returns c = cc

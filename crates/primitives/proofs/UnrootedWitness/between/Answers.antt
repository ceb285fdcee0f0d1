-- `primitives::UnrootedWitness::between` meets its contract. Assumes nothing.
use Rattle.primitives.specs.Witnesses.{between_of}
use Rattle.primitives.specs.Unrooted.{rooted_of}
use Rattle.primitives.proofs.Squares.{squares_fit}
use Rattle.primitives.proofs.UnrootedWitness.between.Goals as goal

pub returns : goal.returns
unfolding rooted_of between_of
returns c = record {
  same = rw c.dist_sq.ensures;
  sum = c.dist_sq.ensures;
  fitting = rw c.dist_sq.ensures (squares_fit c.args.a c.args.b);
}

-- `crossings::triangles_through` meets its contract. Assumes nothing.
use Rattle.std.proofs.Common.{rules}
use Rattle.crossings.specs.Crossings.{triangle_crossings}
use Rattle.crossings.proofs.Firsts.{first_of_two}
use Rattle.crossings.proofs.triangles_through.Goals as goal

pub returns : goal.returns
unfolding triangle_crossings
returns c = first_of_two _ _ _ _ c.edges_through.ensures c.or_else.ensures (λ e. search rules)

-- `workspace::fill` leaves the runs of the walk. Assumes nothing.
use Rattle.coords.specs.Walk.{all_levels, walk_of}
use Rattle.workspace.proofs.Filled.{filled_is_written}
use Rattle.workspace.proofs.fill.Goals as goal

pub returns : goal.returns
returns c = filled_is_written (walk_of all_levels c.args.s.now c.args.at) c.args.at _ _ _ _ _ c.requires c.fill_geometry.ensures

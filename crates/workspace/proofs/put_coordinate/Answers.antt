-- `workspace::put_coordinate` reads z only where it is. Assumes nothing.
use Rattle.workspace.proofs.Laws.{z_inside}
use Rattle.workspace.proofs.put_coordinate.Goals as goal

pub ordinate_if-requires : goal.ordinate_if-requires
ordinate_if-requires c = λ e. z_inside c.args.h c.args.at _ c.requires.h_in_bounds e

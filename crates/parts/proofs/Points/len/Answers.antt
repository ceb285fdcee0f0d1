-- `len` meets its contract. Assumes nothing.
use mathlib.Core.Path.{sym, ap, ◌∙◌}
use lib.ListN.{length}
use Rattle.parts.proofs.Slices.{length_points_in}
use Rattle.parts.proofs.Points.len.Goals as goal

pub returns : goal.returns
returns c = sym (length_points_in c.self.inside.floats.now) ∙ ap length c.self.view_is

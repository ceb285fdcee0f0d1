-- `joining::reaches_last_level` meets its contract. Assumes nothing.
use mathlib.Core.Path.{◌∙◌}
use Rattle.joining.proofs.Own.{last_level}
use Rattle.joining.proofs.reaches_last_level.Goals as goal

pub returns : goal.returns
returns c = c.is_err.ensures.value ∙ last_level c.args.s.now c.args.at c.requires.at_value c.requires.s_value c.count_geometry.ensures

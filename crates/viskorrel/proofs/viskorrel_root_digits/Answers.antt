-- `viskorrel::viskorrel_root_digits` meets its contract. Assumes nothing.
use mathlib.Core.Path.{◌∙◌}
use Rattle.viskorrel.proofs.viskorrel_root_digits.Goals as goal

pub returns : goal.returns
returns c = (
  c.into.ensures.0 ∙ c.root_and_digits.ensures.root,
  c.into.ensures.1 ∙ c.root_and_digits.ensures.digits,
)

-- `joining::put_part` meets its contract. Assumes nothing.
use mathlib.Core.Path.{ap, ◌∙◌}
use lib.Seq.{sets}
use Rattle.joining.proofs.Stored.{part_is}
use Rattle.joining.proofs.put_part.Goals as goal

pub returns : goal.returns
returns c = c.put_bytes.ensures ∙ ap (sets c.args.output.now c.args.at) (part_is c.args.s.now c.args.start c.args.end c.requires.start_le_end c.requires.end_in_bounds)

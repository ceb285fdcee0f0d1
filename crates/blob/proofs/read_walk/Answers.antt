-- `blob::read_walk` refuses as the checking pass does, of its side. Assumes nothing.
use mathlib.Core.Path.{sym, ap, ◌∙◌}
use Rattle.std.specs.Prelude.{Err}
use Rattle.blob.proofs.Steps.{walk_refused}
use Rattle.blob.proofs.read_walk.Goals as goal

pub returns-in-Err : goal.returns-in-Err
returns-in-Err c = ap Err c.of.ensures ∙ sym (walk_refused c.args.s.now c.args.top c.args.side c.requires _ (sym c.count.ensures ∙ c.in-Err.is))

-- `Cursor::range` meets its contract. Assumes nothing.
use Rattle.std.proofs.Common.{◌∙◌}
use Rattle.surface.proofs.Listing.{next_is_patch}
use Rattle.surface.proofs.Cursor.range.Goals as goal

pub returns-clause-patch_n : goal.returns-clause-patch_n
returns-clause-patch_n c n b = c.next_range.ensures ∙ next_is_patch c.args.self.blob.now c.args.self.at c.args.self.left n b

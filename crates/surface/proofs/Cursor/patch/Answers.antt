-- `Cursor::patch` meets its contract. Assumes nothing.
use Rattle.std.proofs.Common.{◌∙◌, ap}
use Rattle.surface.specs.Patches.{bytes_of}
use Rattle.surface.proofs.Listing.{next_is_patch}
use Rattle.surface.proofs.Cursor.patch.Goals as goal

pub returns-clause-patch_n : goal.returns-clause-patch_n
returns-clause-patch_n c n b =
    c.next_bytes.ensures ∙ ap (bytes_of c.args.self.blob.now) (next_is_patch c.args.self.blob.now c.args.self.at c.args.self.left n b)

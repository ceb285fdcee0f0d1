-- `Cursor::new` meets its contract. Assumes nothing.
use Rattle.surface.proofs.Listing.{stands_first}
use Rattle.surface.proofs.Cursor.new.Goals as goal

pub returns-clause-first : goal.returns-clause-first
returns-clause-first c = stands_first c.args.blob.now c.args.at c.args.left

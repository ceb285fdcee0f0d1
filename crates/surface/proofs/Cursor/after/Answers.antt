-- `Cursor::after` meets its contract. Assumes nothing.
use Rattle.surface.proofs.Listing.{stands_after}
use Rattle.surface.proofs.Cursor.after.Goals as goal

pub returns-clause-one_on : goal.returns-clause-one_on
returns-clause-one_on c n start b p =
    rw c.saturating_sub.ensures (stands_after c.args.self.blob.now c.args.self.at c.args.self.left n start c.args.end b p)

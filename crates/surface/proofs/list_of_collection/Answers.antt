-- `surface::list_of_collection` meets its contract. Assumes nothing.
use mathlib.Core.Path.{sym, ap, ◌∙◌}
use Rattle.surface.specs.Patches.{patch_at, list_in}
use Rattle.surface.proofs.InRow.{patch_starts, list_scanned, collection_counted}
use Rattle.surface.proofs.list_of_collection.Goals as goal

pub returns : goal.returns
returns c =
    sym (ap list_in (collection_counted _ _ _ (sym c.count_patches.ensures ∙ c.in_ok-patches.was))
    ∙ list_scanned (patch_at c.args.s.now) (patch_starts c.args.s.now) _ _ _ (sym c.scan_patches.ensures ∙ c.in_ok-scan_patches.was))

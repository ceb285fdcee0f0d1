-- `sweep_all` meets its contract. The loop's invariant: the items of A that are left, from the present best pair on, give what all give; what the item
-- before leaves. Assumes nothing.
use mathlib.Core.Path.{◌≡◌}
use Rattle.std.specs.Prelude.{None}
use Rattle.items.specs.Items.{items_of}
use Rattle.items.specs.Inner.{items_left}
use Rattle.items.specs.Closest.{sweep_of}
use Rattle.against.specs.Indexed.{indexed_items, listed_rows}
use Rattle.against.specs.Known.{Left}
use Rattle.closest.proofs.sweep_all.Given as goal

abbrev pub invariant-loop-item : goal.invariant-loop-item
invariant-loop-item l = record {
  same : sweep_of l.target.all (indexed_items l.target.index) l.best (items_left l.item-iterator) ≡ sweep_of l.target.all (indexed_items l.target.index) None (items_of l.side);
  left : Left l.best l.before (listed_rows l.target.index);
}

-- `list_all` meets its contract. The loop's invariant: the items so far are listed, and they and those left are all. Assumes nothing.
use mathlib.Core.Path.{◌≡◌}
use mathlib.Core.List.{◌++◌}
use Rattle.items.specs.Items.{items_of}
use Rattle.items.specs.Inner.{items_left}
use Rattle.listing.specs.Listing.{Lists}
use Rattle.listing.proofs.list_all.Given as goal

abbrev pub invariant-loop-item : goal.invariant-loop-item
invariant-loop-item l = record {
  lists : Lists l.seen l.yielded l.rows;
  all : l.yielded ++ items_left l.item-iterator ≡ items_of l.side;
}

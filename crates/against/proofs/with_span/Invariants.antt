-- `with_span` meets its contract. The loop's invariant: the items that are left, from the present best on, give what all give; the item before, if it was
-- measured. Assumes nothing.
use mathlib.Core.Path.{◌≡◌}
use lib.ListN.{take}
use Rattle.std.specs.Prelude.{IfSome}
use Rattle.std.specs.Iterator.Adapters.{take_source, take_count}
use Rattle.measures.specs.InnerOffers.{AllSettled}
use Rattle.items.specs.InnerRepeats.{second_after}
use Rattle.items.specs.Inner.{items_left}
use Rattle.items.specs.Closest.{with_each}
use Rattle.against.proofs.with_span.Given as goal

abbrev pub invariant-loop-b : goal.invariant-loop-b
invariant-loop-b l = record {
  same : with_each l.a.item l.best (take (take_count l.b-iterator) (items_left (take_source l.b-iterator))) ≡ with_each l.a.item l.initial.best (take l.count (items_left l.items));
  last : IfSome l.last (λ before. AllSettled l.best (second_after l.a.item before));
}

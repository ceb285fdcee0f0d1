-- `with_list` meets its contract. The loop's invariant: the rows that are left, from the present best on, give what all give; what is known of the rows;
-- the item before, if it was measured. Assumes nothing.
use mathlib.Core.Path.{◌≡◌}
use lib.ListN.{drop}
use Rattle.std.specs.Prelude.{IfSome}
use Rattle.measures.specs.InnerOffers.{AllSettled}
use Rattle.items.specs.InnerRepeats.{second_after}
use Rattle.items.specs.Closest.{with_each}
use Rattle.against.specs.Indexed.{items_in}
use Rattle.against.proofs.Known.{Walked}
use Rattle.against.proofs.with_list.Given as goal

abbrev pub invariant-loop-k : goal.invariant-loop-k
invariant-loop-k l = record {
  same : with_each l.a.item l.best (items_in (drop l.k l.rows)) ≡ with_each l.a.item l.initial.best (items_in l.rows);
  walked : Walked l.a.item l.rows l.best l.known l.k;
  last : IfSome l.last (λ before. AllSettled l.best (second_after l.a.item before));
}

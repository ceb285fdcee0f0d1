-- `with_list` meets its contract. Assumes nothing.
use mathlib.Core.Path.{sym, ap, ◌∙◌}
use Rattle.items.specs.Closest.{with_each}
use Rattle.against.proofs.Folds.{each_next, rows_next}
use Rattle.against.proofs.Known.{walked_next}
use Rattle.against.proofs.with_list.Goals as goal

pub loop-k-preserved : goal.loop-k-preserved
loop-k-preserved c =
    let row = c.index-rows-k in
    record {
      same = rw c.with_next.ensures.value (sym (each_next _ _ _ _) ∙ ap (with_each _ _) (sym (rows_next _ _ row.result c.loop-k-test.true row.is)) ∙ c.loop-k.invariant.same);
      walked = walked_next _ _ row.result _ _ _ _ _ c.with_next.ensures.fits c.loop-k-test.true row.is c.with_next.ensures.value c.with_next.ensures.known_2 c.loop-k.invariant.walked;
      last = c.with_next.ensures.last_2;
    }

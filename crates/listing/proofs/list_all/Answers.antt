-- `list_all` meets its contract. Assumes nothing.
use native.Mathlib.Omega.{arith}
use Rattle.std.proofs.lemmas.Grind.{common_steps}
use Rattle.listing.proofs.Growing.{lists_none, lists_more}
use Rattle.listing.proofs.list_all.Goals as goal

pub loop-item-init : goal.loop-item-init
loop-item-init c = record { lists = lists_none _; all = cc }

pub loop-item-preserved : goal.loop-item-preserved
loop-item-preserved c = record {
  lists = lists_more _ _ _ _ _ _ _ c.loop-item.invariant.lists c.new-row.ensures c.unite.ensures c.store.ensures.listed (omega arith);
  all = grind (arith, common_steps);
}

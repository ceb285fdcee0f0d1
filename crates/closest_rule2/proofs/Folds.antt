-- The laws of folds that skip, of rule 2's candidates. Assumes nothing.
use mathlib.Core.Path.{◌≡◌, refl}
use mathlib.Core.Bool.{cond}
use mathlib.Core.List.{List, [], ◌∷◌}
use Rattle.std.specs.declared.option.Option.{Option}
use Rattle.primitives.specs.declared.Witness.{Witness}
use Rattle.primitives.specs.declared.Aabb.{Aabb}
use Rattle.primitives.specs.Boxes.{least_squared_gap}
use Rattle.extremes.specs.Sweeps.{skipping}
use Rattle.extremes.specs.ClosestSweep.{no_closer}
use Rattle.items.specs.declared.Item.{Item}
use Rattle.items.specs.Items.{box_of_item}
use Rattle.extremes.specs.BestSoFar.{Lasts}
use Rattle.against.proofs.Folds.{each_next_by, sweep_next_by, each_lasts_by, sweep_lasts_by}
use Rattle.crossings.specs.Crossings.{candidates_by_rule2}
use Rattle.crossings.specs.Closest.{with_item_by_rule2, with_each_by_rule2, sweep_by_rule2}
use Rattle.closest_rule2.specs.Inner.{met_by_rule2}
use Rattle.crossings.proofs.NotBelowZero.{candidates_by_rule_2_not_below}

pub each_next : (a : Item) (s : Option Witness) (b : Item) (left : List Item)
    → with_each_by_rule2 a s (b ∷ left) ≡ with_each_by_rule2 a (cond (no_closer s (least_squared_gap (box_of_item a) (box_of_item b))) s (with_item_by_rule2 a s b)) left
unfolding with_each_by_rule2 with_item_by_rule2
each_next = each_next_by candidates_by_rule2

pub each_end : (a : Item) (s : Option Witness) → with_each_by_rule2 a s [] ≡ s
unfolding with_each_by_rule2 skipping
each_end a s = refl

pub sweep_next : (all : Aabb) (rs : List Item) (s : Option Witness) (a : Item) (left : List Item) → sweep_by_rule2 all rs s (a ∷ left) ≡ sweep_by_rule2 all rs (met_by_rule2 all rs s a) left
unfolding sweep_by_rule2 with_each_by_rule2 with_item_by_rule2
sweep_next = sweep_next_by candidates_by_rule2

pub sweep_end : (all : Aabb) (rs : List Item) (s : Option Witness) → sweep_by_rule2 all rs s [] ≡ s
unfolding sweep_by_rule2 skipping
sweep_end all rs s = refl

pub each_lasts : (a : Item) (s : Option Witness) → Lasts s → (rs : List Item) → with_each_by_rule2 a s rs ≡ s
unfolding with_each_by_rule2 with_item_by_rule2
each_lasts = each_lasts_by candidates_by_rule2 candidates_by_rule_2_not_below

pub sweep_lasts : (all : Aabb) (rs : List Item) (s : Option Witness) → Lasts s → (ls : List Item) → sweep_by_rule2 all rs s ls ≡ s
unfolding sweep_by_rule2 with_each_by_rule2 with_item_by_rule2
sweep_lasts = sweep_lasts_by candidates_by_rule2 candidates_by_rule_2_not_below

-- ---- what loops over items take at each turn

pub ruleset each_turns = (each_next, each_end, each_lasts)

pub ruleset sweep_turns = (sweep_next, sweep_end, sweep_lasts)

-- Folds that skip, over joined lists and over steps that change nothing; the sweep, list after list. Assumes nothing.
use mathlib.Core.Path.{◌≡◌, refl, ap, ◌∙◌}
use mathlib.Core.Logic.{inr, ⊎_elim}
use mathlib.Core.Bool.{Bool, true, false, cond, false≢true}
use mathlib.Core.List.{List, [], ◌∷◌, ◌++◌}
use Rattle.std.specs.Prelude.{None, Some}
use Rattle.std.specs.declared.option.Option.{Option}
use lib.Ieee.{lt}
use Rattle.primitives.specs.declared.Witness.{Witness}
use Rattle.primitives.specs.declared.Aabb.{Aabb}
use Rattle.primitives.specs.Boxes.{least_squared_gap}
use Rattle.extremes.specs.Sweeps.{skipping, shorter}
use Rattle.extremes.proofs.Lists.{Each, each_weaken}
use Rattle.extremes.proofs.Skipping.{skipping_stays}
use Rattle.extremes.proofs.Senses.{shortest}
use Rattle.extremes.proofs.NanBest.{nan_row_stays}
use Rattle.extremes.proofs.Taking.{unbeaten_row}
use Rattle.items.specs.declared.Item.{Item}
use Rattle.items.specs.Items.{box_of_item}
use Rattle.items.specs.Candidates.{candidates_of}
use Rattle.measures.proofs.NotBelowZero.{Distant}
use Rattle.items.proofs.NotBelowZero.{candidates_not_below}
use Rattle.items.proofs.Left.{take_next}
use Rattle.items.specs.Closest.{with_item, with_each, sweep_of}
use Rattle.extremes.specs.ClosestSweep.{no_closer, offering, with_each_by, sweep_by}
use Rattle.extremes.specs.BestSoFar.{at_zero, at_nan, Lasts}
use Rattle.against.specs.Known.{met}
use Rattle.against.specs.Indexed.{items_in}
use Rattle.items.specs.declared.boxed.Boxed.{Boxed}
use Rattle.blocks.specs.declared.block.Block.{Block}
use Rattle.blocks.specs.Blocks.{block_items}
use Rattle.blocks.proofs.Blocks.{blocks_next}
use Rattle.listing.proofs.Listed.{listed_next}
use Rattle.std.specs.List.{flat_map}
use Rattle.std.proofs.lemmas.List.{at_drop_all}
use Prim.Native.Nat.{ℕ, zero, suc, ◌+◌, ◌<◌, ◌≤◌}
use native.Mathlib.Omega.{arith}
use lib.ListN.{length, get_or, take, drop}

module _ {S X : Type 0} (skip : S → X → Bool) (step : S → X → S) where
  skipping_append : (s : S) (l m : List X) → skipping skip step s (l ++ m) ≡ skipping skip step (skipping skip step s l) m
  unfolding skipping
  skipping_append s [] m = refl
  skipping_append s (x ∷ l) m = skipping_append (cond (skip s x) s (step s x)) l m

-- ---- over any candidates of two items (document 02, 3/13: either rule's)
module _ (candidates : Item → Item → List Witness) where
  abbrev EachBy : Item → Option Witness → List Item → Option Witness
  EachBy = with_each_by box_of_item (offering candidates)

  abbrev SweepBy : Aabb → List Item → Option Witness → List Item → Option Witness
  SweepBy = sweep_by box_of_item (with_each_by box_of_item (offering candidates))

  pub each_append_by : (a : Item) (s : Option Witness) (l m : List Item) → EachBy a s (l ++ m) ≡ EachBy a (EachBy a s l) m
  each_append_by a s l m = skipping_append _ _ s l m

  -- one item, and those after it
  pub each_next_by : (a : Item) (s : Option Witness) (b : Item) (left : List Item)
      → EachBy a s (b ∷ left) ≡ EachBy a (cond (no_closer s (least_squared_gap (box_of_item a) (box_of_item b))) s (offering candidates a s b)) left
  unfolding skipping
  each_next_by a s b left = refl

  pub sweep_next_by : (all : Aabb) (rs : List Item) (s : Option Witness) (a : Item) (left : List Item)
      → SweepBy all rs s (a ∷ left) ≡ SweepBy all rs (cond (no_closer s (least_squared_gap (box_of_item a) all)) s (EachBy a s rs)) left
  unfolding skipping
  sweep_next_by all rs s a left = refl

  -- a best of distance 0 or NaN is never replaced
  module _ (distant : (a b : Item) → Each Distant (candidates a b)) where
    item_at_zero : (a b : Item) (s : Option Witness) → at_zero s ≡ true → offering candidates a s b ≡ s
    item_at_zero a b None z = absurd (false≢true (unfold at_zero in z))
    item_at_zero a b (Some best) z =
        unbeaten_row shorter (λ w. w) (Some best) (candidates a b)
        (each_weaken Distant (λ (w : Witness). lt w.d best.d ≡ false) (λ w h. h.distance best.d (unfold at_zero in z)) (candidates a b) (distant a b))

    item_at_nan : (a b : Item) (s : Option Witness) → at_nan s ≡ true → offering candidates a s b ≡ s
    item_at_nan a b s z = nan_row_stays shortest s z (λ w. w) (candidates a b)

    item_lasts : (a b : Item) (s : Option Witness) → Lasts s → offering candidates a s b ≡ s
    item_lasts a b s z = ⊎_elim (item_at_nan a b s) (item_at_zero a b s) z

    pub each_lasts_by : (a : Item) (s : Option Witness) → Lasts s → (rs : List Item) → EachBy a s rs ≡ s
    each_lasts_by a s z rs = skipping_stays _ (offering candidates a) s (λ b. item_lasts a b s z) rs

    pub sweep_lasts_by : (all : Aabb) (rs : List Item) (s : Option Witness) → Lasts s → (ls : List Item) → SweepBy all rs s ls ≡ s
    sweep_lasts_by all rs s z ls = skipping_stays _ (λ t a. EachBy a t rs) s (λ a. each_lasts_by a s z rs) ls

-- ---- rule 1's candidates

pub each_append : (a : Item) (s : Option Witness) (l m : List Item) → with_each a s (l ++ m) ≡ with_each a (with_each a s l) m
unfolding with_each with_item
each_append = each_append_by candidates_of

pub each_next : (a : Item) (s : Option Witness) (b : Item) (left : List Item) → with_each a s (b ∷ left) ≡ with_each a (met a s b) left
unfolding with_each with_item
each_next = each_next_by candidates_of

pub each_end : (a : Item) (s : Option Witness) → with_each a s [] ≡ s
unfolding with_each skipping
each_end a s = refl

pub sweep_next : (all : Aabb) (rs : List Item) (s : Option Witness) (a : Item) (left : List Item)
    → sweep_of all rs s (a ∷ left) ≡ sweep_of all rs (cond (no_closer s (least_squared_gap (box_of_item a) all)) s (with_each a s rs)) left
unfolding sweep_of with_each with_item
sweep_next = sweep_next_by candidates_of

pub sweep_end : (all : Aabb) (rs : List Item) (s : Option Witness) → sweep_of all rs s [] ≡ s
unfolding sweep_of skipping
sweep_end all rs s = refl

pub each_at_zero : (a : Item) (s : Option Witness) → at_zero s ≡ true → (rs : List Item) → with_each a s rs ≡ s
unfolding with_each with_item
each_at_zero a s z rs = each_lasts_by candidates_of candidates_not_below a s (inr z) rs

pub sweep_lasts : (all : Aabb) (rs : List Item) (s : Option Witness) → Lasts s → (ls : List Item) → sweep_of all rs s ls ≡ s
unfolding sweep_of with_each with_item
sweep_lasts = sweep_lasts_by candidates_of candidates_not_below

-- ---- by so many items, by blocks, and by rows

-- none is left to be taken: so many were, or there is no more
pub take_end : (n : ℕ) (is : List Item) → (0 < n → is ≡ []) → take n is ≡ []
take_end zero is f = refl
take_end (suc n) is f = rw (f (omega arith))

pub block_next : (a : Item) (s : Option Witness) (blocks : List Block) (k : ℕ) (b : Block) → k < length blocks → b ≡ get_or blocks k b
    → with_each a s (flat_map block_items (drop k blocks)) ≡ with_each a (with_each a s (block_items b)) (flat_map block_items (drop (k + 1) blocks))
block_next a s blocks k b h e = ap (with_each a s) (blocks_next blocks k b h) ∙ rw (← e) (each_append a s (block_items b) _)

pub blocks_end : (blocks : List Block) (k : ℕ) → length blocks ≤ k → flat_map block_items (drop k blocks) ≡ []
blocks_end blocks k h = at_drop_all (flat_map block_items) blocks k h

pub rows_next : (rows : List Boxed) (k : ℕ) (row : Boxed) → k < length rows → row ≡ get_or rows k row → items_in (drop k rows) ≡ row.item ∷ items_in (drop (k + 1) rows)
rows_next rows k row h e = listed_next rows k row h ∙ rw (← e)

pub rows_end : (rows : List Boxed) (k : ℕ) → length rows ≤ k → items_in (drop k rows) ≡ []
rows_end rows k h = at_drop_all items_in rows k h

-- ---- what loops over items take at each turn

pub ruleset span_turns = (each_next, each_end, each_at_zero, take_next, take_end)

pub ruleset block_turns = (each_end, each_at_zero, block_next, blocks_end)

pub ruleset row_turns = (each_next, each_end, each_at_zero, rows_next, rows_end)

pub ruleset sweep_turns = (sweep_next, sweep_end, sweep_lasts)

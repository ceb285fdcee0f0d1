-- A closest sweep gives none exactly if a side has no item: whatever candidates two items offer, as long as they offer one. Assumes nothing.
use mathlib.Core.Path.{◌≡◌, refl, sym, ap, ◌∙◌}
use mathlib.Core.Logic.{◌↔◌, ◌⊎◌, inl, inr}
use mathlib.Core.Bool.{Bool, true, false, cond}
use mathlib.Core.List.{List, [], ◌∷◌, foldl}
use Rattle.std.specs.declared.option.Option.{Option}
use Rattle.std.specs.Prelude.{None, Some}
use Rattle.std.proofs.lemmas.Option.{none-some}
use Rattle.primitives.specs.declared.Witness.{Witness}
use Rattle.primitives.specs.declared.Aabb.{Aabb}
use Rattle.extremes.specs.Sweeps.{skipping, shorter, taking}
use Rattle.extremes.specs.ClosestSweep.{no_closer, offering, with_each_by, sweep_by}
use Rattle.items.specs.declared.Item.{Item}
use Rattle.items.specs.declared.Item.TheVariants.{Point as point, Segment as segment, Triangle as triangle}
use Rattle.items.specs.Items.{box_of_item, unite_item, box_of_items}
use Rattle.items.specs.Candidates.{candidates_of}
use Rattle.items.specs.Closest.{with_item, with_each, sweep_of, closest_within, closest_of}

-- there is something
data There {X : Type 0} : Option X → Type 0 where
  there : (x : X) → There (Some x)

never_none : {X : Type 0} {s : Option X} → There s → s ≡ None → ⊥
never_none (there x) e = none-some x (sym e)

pick : {X : Type 0} (b : Bool) {s t : Option X} → There s → There t → There (cond b s t)
pick true p q = p
pick false p q = q

-- a list that is not empty
pub data Offered : List Witness → Type 0 where
  offered : {w : Witness} {l : List Witness} → Offered (w ∷ l)

taken : (s : Option Witness) (w : Witness) → There (taking shorter s w)
unfolding taking
taken None w = there w
taken (Some best) w = there _

all_taken : {s : Option Witness} → There s → (l : List Witness) → There (foldl (taking shorter) s l)
all_taken h [] = h
all_taken {s = s} h (w ∷ l) = all_taken {s = taking shorter s w} (taken s w) l

-- what is there stays there
module _ {X : Type 0} (skip : Option Witness → X → Bool) (step : Option Witness → X → Option Witness) (stays : (s : Option Witness) (x : X) → There s → There (step s x)) where
  skipping_there : {s : Option Witness} → There s → (l : List X) → There (skipping skip step s l)
  unfolding skipping
  skipping_there h [] = h
  skipping_there {s = s} h (x ∷ l) = skipping_there {s = cond (skip s x) s (step s x)} (pick (skip s x) h (stays s x h)) l

-- ---- the box of all items

unite_there : {s : Option Aabb} → There s → (l : List Item) → There (foldl unite_item s l)
unfolding unite_item
unite_there h [] = h
unite_there (there box) (i ∷ l) = unite_there {s = unite_item (Some box) i} (there _) l

box_there : (b : Item) (rs : List Item) → There (box_of_items (b ∷ rs))
unfolding box_of_items unite_item
box_there b rs = unite_there (there _) rs

-- ---- the sweep

module _ (candidates : Item → Item → List Witness) (offers : (a b : Item) → Offered (candidates a b)) where
  item_there : (a b : Item) (s : Option Witness) → There (offering candidates a s b)
  item_there a b s = go (candidates a b) (offers a b)
    where
      go : (l : List Witness) → Offered l → There (foldl (taking shorter) s l)
      go (w ∷ l) offered = all_taken (taken s w) l
      go [] x' = elim x' [ ]

  each_stays : (a : Item) (rs : List Item) {s : Option Witness} → There s → There (with_each_by box_of_item (offering candidates) a s rs)
  each_stays a rs h = skipping_there _ (offering candidates a) (λ s b k. item_there a b s) h rs

  each_there : (a b : Item) (rs : List Item) → There (with_each_by box_of_item (offering candidates) a None (b ∷ rs))
  unfolding skipping no_closer
  each_there a b rs = skipping_there _ (offering candidates a) (λ s i k. item_there a i s) (item_there a b None) rs

  sweep_there : (all : Aabb) (a : Item) (ls : List Item) (b : Item) (rs : List Item) → There (sweep_by box_of_item (with_each_by box_of_item (offering candidates)) all (b ∷ rs) None (a ∷ ls))
  unfolding skipping no_closer
  sweep_there all a ls b rs = skipping_there _ (λ s i. with_each_by box_of_item (offering candidates) i s (b ∷ rs)) (λ s i k. each_stays i (b ∷ rs) k) (each_there a b rs) ls

  -- `closest` is the sweep by these candidates, and none without a box
  module _ (closest : Option Aabb → List Item → List Item → Option Witness) (no-box : (ls rs : List Item) → closest None ls rs ≡ None)
      (with-box : (all : Aabb) (ls rs : List Item) → closest (Some all) ls rs ≡ sweep_by box_of_item (with_each_by box_of_item (offering candidates)) all rs None ls) where
    some_side : (box : Option Aabb) (ls rs : List Item) → box_of_items rs ≡ box → closest box ls rs ≡ None → (ls ≡ []) ⊎ (rs ≡ [])
    some_side box [] rs e n = inl refl
    some_side box (a ∷ ls) [] e n = inr refl
    some_side None (a ∷ ls) (b ∷ rs) e n = absurd (never_none (box_there b rs) e)
    some_side (Some all) (a ∷ ls) (b ∷ rs) e n = absurd (never_none (sweep_there all a ls b rs) (sym (with-box all (a ∷ ls) (b ∷ rs)) ∙ n))

    nothing_left : (rs : List Item) (box : Option Aabb) → closest box [] rs ≡ None
    unfolding skipping
    nothing_left rs None = no-box [] rs
    nothing_left rs (Some all) = with-box all [] rs

    no_side : (ls rs : List Item) → (ls ≡ []) ⊎ (rs ≡ []) → closest (box_of_items rs) ls rs ≡ None
    unfolding box_of_items
    no_side ls rs (inl e) = ap (λ (l : List Item). closest (box_of_items rs) l rs) e ∙ nothing_left rs (box_of_items rs)
    no_side ls rs (inr e) = ap (λ (l : List Item). closest (box_of_items l) ls l) e ∙ no-box ls []

    pub none_exactly_by : (ls rs : List Item) → (closest (box_of_items rs) ls rs ≡ None) ↔ ((ls ≡ []) ⊎ (rs ≡ []))
    none_exactly_by ls rs = (some_side (box_of_items rs) ls rs refl, no_side ls rs)

-- ---- by rule 1

-- two items always offer a candidate
pub candidates_offered : (a b : Item) → Offered (candidates_of a b)
unfolding candidates_of
candidates_offered (point p) (point q) = offered
candidates_offered (point p) (segment u v) = offered
candidates_offered (point p) (triangle t) = offered
candidates_offered (segment u v) (point q) = offered
candidates_offered (segment u v) (segment p q) = offered
candidates_offered (segment u v) (triangle t) = offered
candidates_offered (triangle t) (point q) = offered
candidates_offered (triangle t) (segment s e) = offered
candidates_offered (triangle t) (triangle u) = offered

pub none_exactly : (ls rs : List Item) → (closest_of ls rs ≡ None) ↔ ((ls ≡ []) ⊎ (rs ≡ []))
unfolding closest_of closest_within sweep_of with_each with_item
none_exactly ls rs = none_exactly_by candidates_of candidates_offered closest_within (λ ls rs. refl) (λ all ls rs. refl) ls rs

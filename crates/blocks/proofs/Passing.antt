-- Items passed one after the other under a cover. Assumes nothing.
use mathlib.Core.Path.{◌≡◌, refl, sym, ap, ◌∙◌}
use mathlib.Core.List.{List, [], ◌∷◌, ◌++◌, foldl-append}
use Prim.Native.Nat.{ℕ, ◌+◌, ◌<◌, ◌≤◌}
use native.Mathlib.Omega.{arith}
use lib.ListN.{length, take, drop, length-drop}
use Rattle.std.specs.List.{All}
use Rattle.std.proofs.lemmas.List.{take_all, take_more, drop_more, drop_all}
use Rattle.std.proofs.lemmas.List.Elements.{All-nil, All-push}
use Rattle.primitives.specs.declared.Aabb.{Aabb}
use Rattle.items.specs.declared.Item.{Item}
use Rattle.items.specs.Items.{box_of_item}
use Rattle.items.specs.Fitting.{BoxFits}
use Rattle.blocks.specs.Cover.{cover_of, empty_cover, cover_item, cover_of_items}

abbrev ItemFits : Item → Type 0
ItemFits i = BoxFits (box_of_item i)

-- the first k of the items are passed, and the box covers them
pub record Passed (all : List Item) (k : ℕ) (left : List Item) (bounds : Aabb) : Type 0 where
  pub cover : bounds ≡ cover_of_items (take k all)
  pub fitting : All (λ i. BoxFits (box_of_item i)) (take k all)
  pub rest : left ≡ drop k all

pub passed_none : (all : List Item) (bounds : Aabb) → bounds ≡ empty_cover → Passed all 0 all bounds
unfolding cover_of_items
passed_none all bounds e = record { cover = e; fitting = All-nil ItemFits; rest = refl }

-- one more
pub passed_next : {all left rest : List Item} {k : ℕ} {bounds new b : Aabb} {i : Item} → Passed all k left bounds
    → left ≡ i ∷ rest → b ≡ box_of_item i → BoxFits b → new ≡ cover_of bounds b → Passed all (k + 1) rest new
unfolding cover_of_items cover_item
passed_next {all} {left} {rest} {k} {bounds} {new} {b} {i} p e b-is fit new-is =
    let h : k < length all = omega (arith, length-drop k all, ap length (sym p.rest ∙ e)) in
    let d = drop_more all k i h in
    let t : take (k + 1) all ≡ take k all ++ i ∷ [] = let m = take_more all k i h in let f = p.rest in cc in
    record {
      cover = rw (t, new-is, b-is, p.cover) (sym (foldl-append cover_item empty_cover (take k all) (i ∷ [])));
      fitting = rw t (All-push ItemFits (take k all) i p.fitting (rw b-is at fit));
      rest = let f = p.rest in cc;
    }

-- no more are left: these are all
pub all_passed : {all left : List Item} {k : ℕ} {bounds : Aabb} → Passed all k left bounds → left ≡ [] → (size : ℕ) → k ≤ size → take k all ≡ take size all
all_passed {all} {left} {k} {bounds} p e size h =
    let few : length all ≤ k = omega (arith, length-drop k all, ap length (sym p.rest ∙ e)) in
    rw (take_all size all (omega arith), take_all k all few) refl

pub passed_last : {all left after : List Item} {k : ℕ} {bounds : Aabb} → Passed all k left bounds
    → left ≡ [] → after ≡ [] → (size : ℕ) → k ≤ size → Passed all size after bounds
passed_last {all} {left} {after} {k} {bounds} p e f size h =
    let few : length all ≤ k = omega (arith, length-drop k all, ap length (sym p.rest ∙ e)) in
    let same = all_passed p e size h in
    record { cover = rw (← same) p.cover; fitting = rw (← same) p.fitting; rest = rw (f, drop_all size all (omega arith)) refl }

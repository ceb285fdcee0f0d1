-- Where no item is a triangle, rule 2's sweep is rule 1's. Assumes nothing.
use mathlib.Core.Path.{◌≡◌, refl, ap}
use mathlib.Core.List.{List, foldl}
use Rattle.std.specs.declared.option.Option.{Option}
use Rattle.std.specs.Prelude.{None, Some}
use Rattle.primitives.specs.declared.Witness.{Witness}
use Rattle.primitives.specs.declared.Aabb.{Aabb}
use Rattle.extremes.specs.Sweeps.{taking, shorter}
use Rattle.extremes.proofs.Lists.{Each, each_weaken}
use Rattle.extremes.proofs.Skipping.{skipping_agree}
use Rattle.items.specs.declared.Item.{Item}
use Rattle.items.specs.Items.{box_of_items}
use Rattle.items.specs.Candidates.{candidates_of}
use Rattle.items.specs.Closest.{with_item, with_each, sweep_of, closest_within, closest_of}
use Rattle.items.proofs.WithoutTriangles.{NoTriangle}
use Rattle.crossings.specs.Crossings.{candidates_by_rule2}
use Rattle.crossings.proofs.NoCrossing.{no_triangle_no_crossing}
use Rattle.crossings.specs.Closest.{with_item_by_rule2, with_each_by_rule2, sweep_by_rule2, closest_within_by_rule2, closest_by_rule2}

-- two items offer the same by both rules
abbrev pub OfferAlike : Item → Item → Type 0
OfferAlike a b = candidates_by_rule2 a b ≡ candidates_of a b

module _ (ls rs : List Item) (alike : Each (λ (a : Item). Each (OfferAlike a) rs) ls) where
  each_alike : (a : Item) → Each (OfferAlike a) rs → (s : Option Witness) → with_each_by_rule2 a s rs ≡ with_each a s rs
  unfolding with_each_by_rule2 with_item_by_rule2 with_each with_item
  each_alike a h s = skipping_agree _ _ _ s rs (each_weaken (OfferAlike a) _ (λ b e t. ap (foldl (taking shorter) t) e) rs h)

  within_alike : (box : Option Aabb) → closest_within_by_rule2 box ls rs ≡ closest_within box ls rs
  unfolding closest_within_by_rule2 sweep_by_rule2 closest_within sweep_of
  within_alike None = refl
  within_alike (Some all) = skipping_agree _ _ _ None ls (each_weaken (λ (a : Item). Each (OfferAlike a) rs) _ (λ a h s. each_alike a h s) ls alike)

  -- where each pair of items offers the same, the sweeps are the same
  pub same_sweep : closest_by_rule2 ls rs ≡ closest_of ls rs
  unfolding closest_by_rule2 closest_of
  same_sweep = within_alike (box_of_items rs)

pub rule_2_without_triangles : (ls rs : List Item) → Each NoTriangle ls → Each NoTriangle rs → closest_by_rule2 ls rs ≡ closest_of ls rs
rule_2_without_triangles ls rs h k = same_sweep ls rs (each_weaken NoTriangle (λ (a : Item). Each (OfferAlike a) rs) (λ a n. each_weaken NoTriangle (OfferAlike a) (λ b m. no_triangle_no_crossing a b n m) rs k) ls h)

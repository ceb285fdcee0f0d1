-- A closest sweep over items of several kinds is, where both sides hold points only, the closest sweep of points. Assumes nothing.
use mathlib.Core.Path.{◌≡◌, refl, ap, ◌∙◌}
use mathlib.Core.List.{List, [], ◌∷◌, foldl, map}
use Rattle.std.specs.declared.option.Option.{Option}
use Rattle.std.specs.Prelude.{None}
use Rattle.primitives.specs.declared.Point.{Point}
use Rattle.primitives.specs.declared.Witness.{Witness}
use Rattle.primitives.specs.declared.Aabb.{Aabb}
use Rattle.primitives.specs.Witnesses.{between_of}
use Rattle.primitives.specs.Boxes.{box_of_point, add_point, union_of, least_squared_gap}
use Rattle.extremes.specs.Sweeps.{taking, shorter}
use Rattle.extremes.specs.ClosestSweep.{no_closer, with_each_by, sweep_by}
use Rattle.extremes.proofs.Skipping.{skipping_mapped}
use Rattle.extremes.proofs.Repeats.{union_with_point}
use Rattle.extremes.proofs.ClosestPoints.{closest_from}

-- `item` makes an item of a point, `box_of` is an item's box, `offer` what a pair of items offers to the best so far
module _ {Item : Type 0} (item : Point → Item) (box_of : Item → Aabb) (box_is : (p : Point) → box_of (item p) ≡ box_of_point p)
    (offer : Item → Option Witness → Item → Option Witness) (offer_is : (s : Option Witness) (p q : Point) → offer (item p) s (item q) ≡ taking shorter s (between_of p q)) where
  -- the box of all items, by unions
  pub box_of_items_lem : (p : Point) (l : List Point) → foldl (λ b i. union_of b (box_of i)) (box_of (item p)) (map item l) ≡ foldl add_point (box_of_point p) l
  box_of_items_lem p l = ap (λ (b : Aabb). foldl (λ b i. union_of b (box_of i)) b (map item l)) (box_is p) ∙ go (box_of_point p) l
    where
      go : (b : Aabb) (l : List Point) → foldl (λ b i. union_of b (box_of i)) b (map item l) ≡ foldl add_point b l
      go b [] = refl
      go b (q ∷ l) = ap (λ (c : Aabb). foldl (λ b i. union_of b (box_of i)) c (map item l)) (ap (union_of b) (box_is q) ∙ union_with_point b q) ∙ go (add_point b q) l

  -- one outer item against all inner ones
  pub inner_items : (qs : List Point) (s : Option Witness) (p : Point) → with_each_by box_of offer (item p) s (map item qs) ≡ closest_from p s qs
  unfolding closest_from
  inner_items qs s p =
      skipping_mapped (λ (t : Option Witness). t) item (λ t q. no_closer t (least_squared_gap (box_of_point p) (box_of_point q))) (λ t q. taking shorter t (between_of p q)) (λ t i. no_closer t (least_squared_gap (box_of (item p)) (box_of i))) (offer (item p))
      (λ t q. rw (box_is p, box_is q)) (λ t q. offer_is t p q) s qs

  -- all outer items, against the box of all inner ones first
  pub outer_items : (box : Aabb) (ps qs : List Point)
      → sweep_by box_of (with_each_by box_of offer) box (map item qs) None (map item ps) ≡ sweep_by box_of_point closest_from box qs None ps
  outer_items box ps qs =
      skipping_mapped (λ (t : Option Witness). t) item (λ s p. no_closer s (least_squared_gap (box_of_point p) box)) (λ s p. closest_from p s qs) (λ s o. no_closer s (least_squared_gap (box_of o) box)) (λ s o. with_each_by box_of offer o s (map item qs))
      (λ s p. rw (box_is p)) (λ s p. inner_items qs s p) None ps

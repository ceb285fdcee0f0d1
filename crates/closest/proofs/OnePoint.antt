-- A side that is one point: its item, and the sweep from it, which needs no box. Assumes nothing.
use mathlib.Core.Path.{◌≡◌, refl, ap}
use mathlib.Core.Bool.{true}
use mathlib.Core.List.{List, [], ◌∷◌, foldl}
use Rattle.std.specs.Prelude.{Option, None, Some, IfSome, length, slice_get, take}
use native.Mathlib.Omega.{arith}
use Prim.Native.Nat.{ℕ, zero, suc, ◌≤◌}
use borrow.Author.Tests.{eqb-true}
use Rattle.coords.specs.Parts.{Run, run}
use Rattle.primitives.specs.declared.Point.{Point}
use Rattle.primitives.specs.declared.Aabb.{Aabb}
use Rattle.primitives.specs.Boxes.{union_of}
use Rattle.parts.specs.Classes.{is_of}
use Rattle.parts.specs.declared.Class.TheVariants.{Points}
use Rattle.items.specs.declared.Item.{Item}
use Rattle.items.specs.declared.Item.TheVariants.{Point as point}
use Rattle.items.specs.Items.{point_items, items_of_kind, items_of, box_of_item, unite_item, box_of_items}
use Rattle.primitives.specs.Witnesses.{between_of}
use Rattle.extremes.specs.Sweeps.{skipping, shorter, taking}
use Rattle.items.specs.Candidates.{candidates_of}
use Rattle.items.specs.Closest.{with_item, with_each, sweep_of, closest_within, closest_of}
use Rattle.extremes.specs.ClosestSweep.{no_closer}

-- its item
pub only_item : (rs : List (Run Point)) (kind : ℕ) (ps : List Point) (left : List (Run Point)) (r : Option Point) → rs ≡ run kind ps ∷ left → left ≡ [] → is_of Points kind ≡ true → length ps ≡ 1 → r ≡ slice_get ps 0
    → IfSome r (λ p. items_of rs ≡ point p ∷ [])
unfolding is_of items_of items_of_kind point_items
only_item rs kind [] left r e none k one first = absurd (omega arith)
only_item rs kind (p ∷ []) left r e none k one first = let one : kind ≡ 1 = eqb-true kind 1 k in rw (first, e, none, one) refl
only_item rs kind (p ∷ q ∷ ps) left r e none k one first = absurd (omega arith)

-- the sweep from one item: nothing is skipped before there is a best
from_some : (box : Aabb) (l : List Item) (a : Item) (rs : List Item) → closest_within (foldl unite_item (Some box) l) (a ∷ []) rs ≡ with_each a None rs
unfolding unite_item closest_within sweep_of skipping no_closer
from_some box [] a rs = refl
from_some box (i ∷ l) a rs = from_some (union_of box (box_of_item i)) l a rs

pub from_one : (a : Item) (rs : List Item) → closest_of (a ∷ []) rs ≡ with_each a None rs
unfolding closest_of box_of_items unite_item
from_one a [] = unfold closest_within with_each skipping in refl
from_one a (b ∷ rs) = from_some (box_of_item b) rs a (b ∷ rs)

-- one point with one point
pub one_with_one : (p q : Point) → with_each (point p) None (point q ∷ []) ≡ taking shorter None (between_of p q)
unfolding with_each with_item skipping no_closer candidates_of
one_with_one p q = refl

-- one point with all items of a side: so many as there are at most
pub all_taken : (n : ℕ) (is : List Item) → length is ≤ n → take n is ≡ is
all_taken zero [] h = refl
all_taken zero (i ∷ is) h = absurd (omega arith)
all_taken (suc n) [] h = refl
all_taken (suc n) (i ∷ is) h = ap (λ (l : List Item). i ∷ l) (all_taken n is (omega arith))

-- Where no face gives a triangle, no item is one. Assumes nothing.
use mathlib.Core.Path.{◌≡◌}
use mathlib.Core.Bool.{Bool, true, false, cond}
use mathlib.Core.List.{List, [], ◌∷◌}
use Prim.Native.Nat.{ℕ}
use Rattle.coords.specs.Parts.{Run, run, is_point, is_line, is_face, segments_by}
use Rattle.primitives.specs.declared.Point.{Point}
use Rattle.extremes.proofs.Lists.{Each, each_append, all_mapped}
use Rattle.items.specs.declared.Item.{Item}
use Rattle.items.specs.declared.Item.TheVariants.{Point as point, Segment as segment, Triangle as triangle}
use Rattle.items.specs.Items.{point_items, segment_items, triangle_items, items_of_kind, items_of}

abbrev pub NoTriangle : Item → Type 0
NoTriangle (point p) = Unit {0}
NoTriangle (segment a b) = Unit {0}
NoTriangle (triangle t) = ⊥

-- items of runs that give no triangle
of_kind : (test : ℕ → Bool) (f : List Point → List Item) → ((ps : List Point) → Each NoTriangle (f ps)) → (rs : List (Run Point)) → Each NoTriangle (items_of_kind test f rs)
unfolding items_of_kind
of_kind test f none [] = tt
of_kind test f none (run kind ps ∷ rs) = each_append NoTriangle (cond (test kind) (f ps) []) (items_of_kind test f rs) (go (test kind)) (of_kind test f none rs)
  where
    go : (c : Bool) → Each NoTriangle (cond c (f ps) [])
    go true = none ps
    go false = tt

points : (ps : List Point) → Each NoTriangle (point_items ps)
unfolding point_items
points ps = all_mapped point NoTriangle (λ p. tt) ps

segments : (ps : List Point) → Each NoTriangle (segment_items ps)
unfolding segment_items segments_by
segments [] = tt
segments (p ∷ []) = tt
segments (p ∷ q ∷ ps) = (tt, segments (q ∷ ps))

pub no_triangle : (rs : List (Run Point)) → items_of_kind is_face triangle_items rs ≡ [] → Each NoTriangle (items_of rs)
unfolding items_of
no_triangle rs e =
    each_append NoTriangle (items_of_kind is_point point_items rs) _ (of_kind is_point point_items points rs)
    (each_append NoTriangle (items_of_kind is_line segment_items rs) _ (of_kind is_line segment_items segments rs) (rw e tt))

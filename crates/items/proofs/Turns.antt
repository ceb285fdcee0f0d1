-- The items of a run by the run's points: what an item leaves settled, the next one has. Assumes nothing.
use mathlib.Core.Path.{◌≡◌, refl, sym, ap, ◌∙◌}
use mathlib.Core.List.{List, [], ◌∷◌}
use Prim.Native.Nat.{ℕ, zero, suc, ◌+◌, ◌<◌}
use native.Mathlib.Omega.{arith}
use lib.ListN.{length, get_or}
use lib.Ieee.{nan}
use Rattle.coords.specs.Parts.{segments_by}
use Rattle.primitives.specs.declared.Point.{Point}
use Rattle.measures.specs.declared.Triangle.{Triangle}
use Rattle.parts.specs.declared.Class.{Class}
use Rattle.parts.specs.declared.Class.TheVariants.{Points, Lines, Faces}
use Rattle.items.specs.declared.Item.{Item}
use Rattle.items.specs.declared.Item.TheVariants.{Point as point, Segment as segment, Triangle as triangle}
use Rattle.items.specs.Items.{fan, point_items, segment_items, triangle_items}
use Rattle.items.specs.Inner.{items_by}
use Rattle.items.specs.InnerRepeats.{first_after, first_before, second_after, second_before, NextOfRun}

-- item j of a run of a class, by its points' numbers
unfoldable pub run_item : Class → (ℕ → Point) → ℕ → Item
run_item Points p j = point (p j)
run_item Lines p j = segment (p j) (p (suc j))
run_item Faces p j = fan (p 0) (p (suc j)) (p (suc (suc j)))

-- ---- it is that item

points_item : (ps : List Point) (d : Point) (e : Item) (j : ℕ) → j < length (point_items ps) → get_or (point_items ps) j e ≡ point (get_or ps j d)
unfolding point_items
points_item [] d e j h = absurd (omega (arith, h))
points_item (p ∷ ps) d e zero h = refl
points_item (p ∷ ps) d e (suc j) h = points_item ps d e j (omega (arith, h))

segments_item : (f : Point → Point → Item) (ps : List Point) (d : Point) (e : Item) (j : ℕ) → j < length (segments_by f ps) → get_or (segments_by f ps) j e ≡ f (get_or ps j d) (get_or ps (suc j) d)
unfolding segments_by
segments_item f [] d e j h = absurd (omega (arith, h))
segments_item f (p ∷ []) d e j h = absurd (omega (arith, h))
segments_item f (p ∷ q ∷ ps) d e zero h = refl
segments_item f (p ∷ q ∷ ps) d e (suc j) h = segments_item f (q ∷ ps) d e j (omega (arith, h))

pub run_item_is : (class : Class) (ps : List Point) (d : Point) (e : Item) (j : ℕ) → j < length (items_by class ps) → get_or (items_by class ps) j e ≡ run_item class (λ k. get_or ps k d) j
unfolding run_item segment_items triangle_items
run_item_is Points ps d e j h = points_item ps d e j h
run_item_is Lines ps d e j h = segments_item segment ps d e j h
run_item_is Faces [] d e j h = absurd (omega (arith, h))
run_item_is Faces (p ∷ ps) d e j h = segments_item (fan p) ps d e j h

-- ---- the next item of a run

pub first_turn : (class : Class) (p : ℕ → Point) (j : ℕ) (i : Item) → first_after (run_item class p j) i ≡ first_before (run_item class p (suc j)) i
unfolding first_after first_before run_item
first_turn Points p j i = refl
first_turn Lines p j (point q) = refl
first_turn Lines p j (segment u v) = refl
first_turn Lines p j (triangle t) = refl
first_turn Faces p j (point q) = refl
first_turn Faces p j (segment u v) = refl
first_turn Faces p j (triangle t) = refl

pub second_turn : (o : Item) (class : Class) (p : ℕ → Point) (j : ℕ) → second_after o (run_item class p j) ≡ second_before o (run_item class p (suc j))
unfolding second_after second_before run_item
second_turn (point q) class p j = refl
second_turn (segment s e) class p j = refl
second_turn (triangle t) Points p j = refl
second_turn (triangle t) Lines p j = refl
second_turn (triangle t) Faces p j = refl

-- ---- the two items themselves

-- a segment that starts where one ends, and a triangle that has the first vertex of one and starts where that ends
pub segments_follow : (s e u v : Point) → u ≡ e → NextOfRun (segment s e) (segment u v)
unfolding segment_items segments_by
segments_follow s e u v h = record { class = Lines; points = s ∷ e ∷ v ∷ []; at = 0; within = omega arith; here = refl; after = rw h }

pub triangles_follow : (t u : Triangle) → u.a ≡ t.a → u.b ≡ t.c → NextOfRun (triangle t) (triangle u)
unfolding triangle_items segments_by
triangles_follow t u h k = record { class = Faces; points = t.a ∷ t.b ∷ t.c ∷ u.c ∷ []; at = 0; within = omega arith; here = refl; after = rw (h, k) }

no_point : Point
no_point = record { x = nan; y = nan; z = nan }

module _ (before next : Item) (n : NextOfRun before next) where
  number : ℕ → Point
  number k = get_or n.points k no_point

  before_is : before ≡ run_item n.class number n.at
  unfolding number
  before_is = sym n.here ∙ run_item_is n.class n.points no_point before n.at (omega (arith, n.within))

  next_is : next ≡ run_item n.class number (suc n.at)
  unfolding number
  next_is = let e : n.at + 1 ≡ suc n.at = omega arith in sym n.after ∙ rw e (run_item_is n.class n.points no_point next (suc n.at) (omega (arith, n.within)))

  pub first_follows : (i : Item) → first_after before i ≡ first_before next i
  first_follows i = ap (λ (o : Item). first_after o i) before_is ∙ first_turn n.class number n.at i ∙ ap (λ (o : Item). first_before o i) (sym next_is)

  pub second_follows : (o : Item) → second_after o before ≡ second_before o next
  second_follows o = ap (second_after o) before_is ∙ second_turn o n.class number n.at ∙ ap (second_before o) (sym next_is)

pub ruleset following = (segments_follow, triangles_follow, first_follows, second_follows)

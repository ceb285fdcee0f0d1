-- One turn of a walk over items: the next one, and what is left. Assumes nothing.
use mathlib.Core.Path.{◌≡◌, refl}
use mathlib.Core.Bool.{true, false}
use mathlib.Core.List.{List, [], ◌∷◌, ◌++◌}
use Prim.Native.Nat.{ℕ, suc, ◌+◌}
use native.Mathlib.Omega.{arith}
use lib.ListN.{take, length, length-append}
use Rattle.std.proofs.lemmas.List.{append-nil, append_assoc}
use Rattle.std.specs.Prelude.{Some, None, slice_get}
use Rattle.coords.specs.Parts.{Run, run, segments_by}
use Rattle.primitives.specs.declared.Point.{Point}
use Rattle.parts.specs.declared.Class.{Class}
use Rattle.parts.specs.declared.Class.TheVariants.{Points, Lines, Faces}
use Rattle.parts.specs.Classes.{is_of}
use Rattle.items.specs.declared.Item.{Item}
use Rattle.items.specs.declared.Item.TheVariants.{Point as point, Segment as segment}
use Rattle.items.specs.Items.{fan, point_items, segment_items, triangle_items, items_of_kind, items_of}
use Rattle.items.specs.Inner.{class_items, run_items_left, later_class_items}

-- ---- of a run

segments_end : (f : Point → Point → Item) (p : Point) (ps : List Point) → slice_get ps 0 ≡ None → segments_by f (p ∷ ps) ≡ []
unfolding segments_by
segments_end f p [] e = refl
segments_end f p (q ∷ ps) e = cc

segments_next : (f : Point → Point → Item) (p q : Point) (ps : List Point) → slice_get ps 0 ≡ Some q → segments_by f (p ∷ ps) ≡ f p q ∷ segments_by f ps
unfolding segments_by
segments_next f p q [] e = cc
segments_next f p q (r ∷ ps) e = let g : r ≡ q = cc in rw g

pub run_none : (class : Class) (hub : Point) → run_items_left class hub [] ≡ []
unfolding run_items_left point_items segment_items segments_by
run_none Points hub = refl
run_none Lines hub = refl
run_none Faces hub = refl

module _ (hub p : Point) (ps : List Point) where
  pub point_next : run_items_left Points hub (p ∷ ps) ≡ point p ∷ run_items_left Points hub ps
  unfolding run_items_left point_items
  point_next = refl

  pub segment_next : (q : Point) → slice_get ps 0 ≡ Some q → run_items_left Lines hub (p ∷ ps) ≡ segment p q ∷ run_items_left Lines hub ps
  unfolding run_items_left segment_items
  segment_next q n = segments_next segment p q ps n

  pub triangle_next : (q : Point) → slice_get ps 0 ≡ Some q → run_items_left Faces hub (p ∷ ps) ≡ fan hub p q ∷ run_items_left Faces hub ps
  unfolding run_items_left
  triangle_next q n = segments_next (fan hub) p q ps n

  pub segment_none : slice_get ps 0 ≡ None → run_items_left Lines hub (p ∷ ps) ≡ []
  unfolding run_items_left segment_items
  segment_none n = segments_end segment p ps n

  pub triangle_none : slice_get ps 0 ≡ None → run_items_left Faces hub (p ∷ ps) ≡ []
  unfolding run_items_left
  triangle_none n = segments_end (fan hub) p ps n

pub ruleset run_turns = (run_none, point_next, segment_none, segment_next, triangle_none, triangle_next)

-- ---- of a class

pub runs_none : (class : Class) → class_items class [] ≡ []
unfolding items_of_kind
runs_none class = refl

module _ (kind : ℕ) (ps : List Point) (rs : List (Run Point)) where
  pub run_passed : (class : Class) → is_of class kind ≡ false → class_items class (run kind ps ∷ rs) ≡ class_items class rs
  unfolding items_of_kind
  run_passed class e = rw e

  pub points_begun : (hub : Point) → is_of Points kind ≡ true → class_items Points (run kind ps ∷ rs) ≡ run_items_left Points hub ps ++ class_items Points rs
  unfolding items_of_kind run_items_left
  points_begun hub e = rw e

  pub line_begun : (hub : Point) → is_of Lines kind ≡ true → class_items Lines (run kind ps ∷ rs) ≡ run_items_left Lines hub ps ++ class_items Lines rs
  unfolding items_of_kind run_items_left
  line_begun hub e = rw e

  pub face_begun : (hub : Point) (qs : List Point) → is_of Faces kind ≡ true → ps ≡ hub ∷ qs → class_items Faces (run kind ps ∷ rs) ≡ run_items_left Faces hub qs ++ class_items Faces rs
  unfolding items_of_kind run_items_left triangle_items
  face_begun hub qs e f = rw (e, f)

  pub empty_face : (hub : Point) (qs : List Point) → is_of Faces kind ≡ true → ps ≡ [] → qs ≡ [] → class_items Faces (run kind ps ∷ rs) ≡ run_items_left Faces hub qs ++ class_items Faces rs
  unfolding items_of_kind run_items_left triangle_items segments_by
  empty_face hub qs e f g = rw (e, f, g)

pub ruleset class_turns = (runs_none, run_passed, points_begun, line_begun, face_begun, empty_face)

-- ---- of a side

pub all_left : (rs ls fs : List (Run Point)) → class_items Lines ls ≡ class_items Lines rs → class_items Faces fs ≡ class_items Faces rs
    → class_items Points rs ++ later_class_items Points ls fs ≡ items_of rs
unfolding items_of later_class_items is_of
all_left rs ls fs e f = rw (e, f) refl

-- all its items, class after class
pub classes_on : (rs : List (Run Point)) (points lines faces : List Item) → points ≡ class_items Points rs → lines ≡ points ++ class_items Lines rs
    → faces ≡ lines ++ class_items Faces rs → faces ≡ items_of rs
unfolding items_of is_of
classes_on rs points lines faces e f g = rw (g, f, e) (append_assoc (class_items Points rs) (class_items Lines rs) (class_items Faces rs))

pub class_counts : (rs : List (Run Point)) → length (class_items Points rs) + (length (class_items Lines rs) + length (class_items Faces rs)) ≡ length (items_of rs)
unfolding items_of is_of
class_counts rs = simp length-append

-- of a class of it: no runs for the classes after
pub class_left : (class : Class) (is : List Item) (ls fs : List (Run Point)) → ls ≡ [] → fs ≡ [] → is ++ later_class_items class ls fs ≡ is
unfolding later_class_items items_of_kind
class_left Points is ls fs e f = rw (e, f) (append-nil is)
class_left Lines is ls fs e f = rw f (append-nil is)
class_left Faces is ls fs e f = append-nil is

-- ---- of so many

pub take_next : (n m : ℕ) (i : Item) (is : List Item) → m + 1 ≡ n → take n (i ∷ is) ≡ i ∷ take m is
take_next n m i is e =
    let f : n ≡ suc m = omega arith in
    rw f

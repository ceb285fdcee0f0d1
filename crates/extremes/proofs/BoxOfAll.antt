-- The box of a list of points: it holds every ordinate that is no NaN, and an end is NaN exactly if every point is NaN on that axis. Assumes nothing.
use mathlib.Core.Path.{◌≡◌, refl, sym, ap, ◌∙◌, subst}
use mathlib.Core.Logic.Iff
use mathlib.Core.Logic.{◌↔◌}
use mathlib.Core.Bool.{true}
use mathlib.Core.List.{List, [], ◌∷◌, foldl, map}
use mathlib.Core.Option
use Rattle.std.specs.Prelude.{Some, None}
use Rattle.std.proofs.lemmas.Option.{none-some, same_Some}
use mathlib.Core.Option.{some}
use lib.Dec.{T}
use lib.Ieee.{Float, binary64, is_nan, fits}
use Rattle.ieee754.specs.MinMax.{minimum_of, maximum_of}
use Rattle.ieee754.proofs.AxisBounds as bounds
use Rattle.ieee754.proofs.AxisBounds.{least_over, greatest_over, AtEach, own_held, axis_holds_each, least_nan_exactly, greatest_nan_exactly}
use Rattle.ieee754.proofs.MinMaxLaws.{minimum_fits, maximum_fits}
use Rattle.primitives.specs.declared.Point.{Point}
use Rattle.primitives.specs.declared.Aabb.{Aabb}
use Rattle.primitives.specs.Boxes.{box_of_point, add_point}
use Rattle.extremes.specs.Sweeps.{box_of_all}
use Rattle.extremes.proofs.Lists.{Each, each_at, at_each, each_weaken, each_mapped, mapped_each, get_mapped}
-- points of binary64
pub use Rattle.primitives.proofs.Squares.{IsBinary64, patterns_binary64}

-- where there is a point, there is a box
pub box_exists : (p : Point) (l : List Point) → box_of_all (p ∷ l) ≡ None → ⊥
unfolding box_of_all
box_exists p l e = none-some (foldl add_point (box_of_point p) l) (sym e)

-- ---- an axis: a box's two ends on it, and a point's ordinate
pub record Axis : Type 0 where
  pub lo : Aabb → Float
  pub hi : Aabb → Float
  pub at : Point → Float
  pub at_fits : (p : Point) → IsBinary64 p → T (fits binary64 (at p))
  pub lo_point : (p : Point) → lo (box_of_point p) ≡ at p
  pub hi_point : (p : Point) → hi (box_of_point p) ≡ at p
  pub lo_added : (b : Aabb) (p : Point) → lo (add_point b p) ≡ minimum_of (lo b) (at p)
  pub hi_added : (b : Aabb) (p : Point) → hi (add_point b p) ≡ maximum_of (hi b) (at p)

unfoldable pub axis_x : Axis
unfolding box_of_point add_point
axis_x = record { lo = λ b. b.lo.x; hi = λ b. b.hi.x; at = λ p. p.x; at_fits = λ p f. f.fit_x; lo_point = λ p. refl; hi_point = λ p. refl; lo_added = λ b p. refl; hi_added = λ b p. refl }

unfoldable pub axis_y : Axis
unfolding box_of_point add_point
axis_y = record { lo = λ b. b.lo.y; hi = λ b. b.hi.y; at = λ p. p.y; at_fits = λ p f. f.fit_y; lo_point = λ p. refl; hi_point = λ p. refl; lo_added = λ b p. refl; hi_added = λ b p. refl }

unfoldable pub axis_z : Axis
unfolding box_of_point add_point
axis_z = record { lo = λ b. b.lo.z; hi = λ b. b.hi.z; at = λ p. p.z; at_fits = λ p f. f.fit_z; lo_point = λ p. refl; hi_point = λ p. refl; lo_added = λ b p. refl; hi_added = λ b p. refl }

module _ (x : Axis) where
  -- the ends are values of binary64
  abbrev pub EndsFit : Aabb → Type 0
  EndsFit b = T (fits binary64 (x.lo b)) × T (fits binary64 (x.hi b))

  -- an ordinate that is no NaN lies from the least to the greatest
  abbrev pub Within : Aabb → Point → Type 0
  Within b p = bounds.Holds (x.lo b) (x.hi b) (x.at p)

  pub point_ends_fit : (p : Point) → IsBinary64 p → EndsFit (box_of_point p)
  point_ends_fit p f = (rw (x.lo_point p) (x.at_fits p f), rw (x.hi_point p) (x.at_fits p f))

  pub point_within : (p : Point) → IsBinary64 p → Within (box_of_point p) p
  point_within p f = rw (x.lo_point p, x.hi_point p) (own_held (x.at p) (x.at_fits p f))

  -- ---- the ends of the box of all
  ends_fit : (b : Aabb) (l : List Point) → EndsFit b → Each IsBinary64 l → EndsFit (foldl add_point b l)
  ends_fit b [] e f = e
  ends_fit b (p ∷ l) e f =
      let g = x.at_fits p f.0 in
      ends_fit (add_point b p) l (rw (x.lo_added b p) (minimum_fits (x.lo b) (x.at p) e.0 g), rw (x.hi_added b p) (maximum_fits (x.hi b) (x.at p) e.1 g)) f.1

  lo_of_all : (b : Aabb) (l : List Point) → x.lo (foldl add_point b l) ≡ least_over (x.lo b) (map x.at l)
  lo_of_all b [] = refl
  lo_of_all b (p ∷ l) = lo_of_all (add_point b p) l ∙ ap (λ (a : Float). least_over a (map x.at l)) (x.lo_added b p)

  hi_of_all : (b : Aabb) (l : List Point) → x.hi (foldl add_point b l) ≡ greatest_over (x.hi b) (map x.at l)
  hi_of_all b [] = refl
  hi_of_all b (p ∷ l) = hi_of_all (add_point b p) l ∙ ap (λ (a : Float). greatest_over a (map x.at l)) (x.hi_added b p)

  module _ (p : Point) (l : List Point) (b : Aabb) (e : box_of_all (p ∷ l) ≡ Some b) where
    is_box : foldl add_point (box_of_point p) l ≡ b
    unfolding box_of_all
    is_box = same_Some (foldl add_point (box_of_point p) l) b e

    lo_is : x.lo b ≡ least_over (x.at p) (map x.at l)
    lo_is = ap x.lo (sym is_box) ∙ lo_of_all (box_of_point p) l ∙ ap (λ (a : Float). least_over a (map x.at l)) (x.lo_point p)

    hi_is : x.hi b ≡ greatest_over (x.at p) (map x.at l)
    hi_is = ap x.hi (sym is_box) ∙ hi_of_all (box_of_point p) l ∙ ap (λ (a : Float). greatest_over a (map x.at l)) (x.hi_point p)

    all_fit : Each IsBinary64 (p ∷ l) → EndsFit b
    all_fit f = subst EndsFit is_box (ends_fit (box_of_point p) l (point_ends_fit p f.0) f.1)

    all_within : Each IsBinary64 (p ∷ l) → Each (Within b) (p ∷ l)
    all_within f =
        let g : AtEach (λ y. T (fits binary64 y)) (map x.at (p ∷ l)) = each_at (λ (y : Float). T (fits binary64 y)) (map x.at (p ∷ l)) (each_mapped x.at (λ (y : Float). T (fits binary64 y)) (p ∷ l) (each_weaken IsBinary64 (λ (q : Point). T (fits binary64 (x.at q))) x.at_fits (p ∷ l) f)) in
        at_each (Within b) (p ∷ l) (λ j q h. rw (lo_is, hi_is) (axis_holds_each (x.at p) (map x.at l) g j (x.at q) (get_mapped x.at (p ∷ l) j ∙ ap (Option.map x.at) h)))

    -- an end is NaN exactly if every point is NaN there
    abbrev IsNan : Float → Type 0
    IsNan y = is_nan y ≡ true

    lists : AtEach IsNan (map x.at (p ∷ l)) ↔ Each (λ (q : Point). IsNan (x.at q)) (p ∷ l)
    lists = (λ h. mapped_each x.at IsNan (p ∷ l) (at_each IsNan (map x.at (p ∷ l)) h), λ h. each_at IsNan (map x.at (p ∷ l)) (each_mapped x.at IsNan (p ∷ l) h))

    -- End theorems: an end is NaN exactly where every point is.
    pub least_end_nan : (is_nan (x.lo b) ≡ true) ↔ Each (λ (q : Point). is_nan (x.at q) ≡ true) (p ∷ l)
    least_end_nan = rw lo_is (Iff.trans (least_nan_exactly (x.at p) (map x.at l)) lists)

    pub greatest_end_nan : (is_nan (x.hi b) ≡ true) ↔ Each (λ (q : Point). is_nan (x.at q) ≡ true) (p ∷ l)
    greatest_end_nan = rw hi_is (Iff.trans (greatest_nan_exactly (x.at p) (map x.at l)) lists)

  -- for any list
  pub box_ends_fit : (l : List Point) (b : Aabb) → Each IsBinary64 l → box_of_all l ≡ Some b → EndsFit b
  box_ends_fit [] b f e = absurd (none-some b (unfold box_of_all in e))
  box_ends_fit (p ∷ l) b f e = all_fit p l b e f

  pub box_within : (l : List Point) (b : Aabb) → Each IsBinary64 l → box_of_all l ≡ Some b → Each (Within b) l
  box_within [] b f e = tt
  box_within (p ∷ l) b f e = all_within p l b e f

-- ---- the three axes
pub record Inside (b : Aabb) (p : Point) : Type 0 where
  pub on_x : Within axis_x b p
  pub on_y : Within axis_y b p
  pub on_z : Within axis_z b p

pub record Fitting (b : Aabb) : Type 0 where
  pub ends_x : EndsFit axis_x b
  pub ends_y : EndsFit axis_y b
  pub ends_z : EndsFit axis_z b

pub point_inside : (p : Point) → IsBinary64 p → Inside (box_of_point p) p
point_inside p f = record { on_x = point_within axis_x p f; on_y = point_within axis_y p f; on_z = point_within axis_z p f }

pub point_fitting : (p : Point) → IsBinary64 p → Fitting (box_of_point p)
point_fitting p f = record { ends_x = point_ends_fit axis_x p f; ends_y = point_ends_fit axis_y p f; ends_z = point_ends_fit axis_z p f }

module _ (l : List Point) (b : Aabb) (f : Each IsBinary64 l) (e : box_of_all l ≡ Some b) where
  pub box_fitting : Fitting b
  box_fitting = record { ends_x = box_ends_fit axis_x l b f e; ends_y = box_ends_fit axis_y l b f e; ends_z = box_ends_fit axis_z l b f e }

  pub box_holds : Each (Inside b) l
  box_holds = go l (box_within axis_x l b f e) (box_within axis_y l b f e) (box_within axis_z l b f e)
    where
      go : (m : List Point) → Each (Within axis_x b) m → Each (Within axis_y b) m → Each (Within axis_z b) m → Each (Inside b) m
      go [] u v w = tt
      go (p ∷ m) u v w = (record { on_x = u.0; on_y = v.0; on_z = w.0 }, go m u.1 v.1 w.1)

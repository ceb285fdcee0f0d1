-- A list in which an element stands several times in a row, and folds that pay no heed to it. Assumes nothing.
use mathlib.Core.Path.{◌≡◌, refl, sym, ap, ◌∙◌}
use mathlib.Core.Bool.{Bool, true, false, cond}
use mathlib.Core.List.{List, [], ◌∷◌, ◌++◌, foldl, map}
use Rattle.std.specs.declared.option.Option.{Option}
use Rattle.std.specs.Prelude.{Some}
use lib.Ieee.{Float, is_nan}
use Rattle.primitives.specs.declared.Point.{Point}
use Rattle.primitives.specs.declared.Aabb.{Aabb}
use Rattle.primitives.specs.Boxes.{box_of_point, add_point, union_of}
use Rattle.extremes.specs.Sweeps.{skipping, longer, shorter, box_of_all}

-- the first list is the second with elements repeated in their place
pub data Repeats {A : Type 0} : List A → List A → Type 0 where
  done : Repeats [] []
  once : {x : A} {l m : List A} → Repeats l m → Repeats (x ∷ l) (x ∷ m)
  again : {x : A} {l m : List A} → Repeats (x ∷ l) m → Repeats (x ∷ x ∷ l) m

module _ {A : Type 0} where
  pub no_repeats : (l : List A) → Repeats l l
  no_repeats [] = done
  no_repeats (x ∷ l) = once (no_repeats l)

  pub repeats_append : {l m l' m' : List A} → Repeats l m → Repeats l' m' → Repeats (l ++ l') (m ++ m')
  repeats_append done s = s
  repeats_append (once r) s = once (repeats_append r s)
  repeats_append (again r) s = again (repeats_append r s)

  pub repeats_mapped : {B : Type 0} (f : A → B) {l m : List A} → Repeats l m → Repeats (map f l) (map f m)
  repeats_mapped f done = done
  repeats_mapped f (once r) = once (repeats_mapped f r)
  repeats_mapped f (again r) = again (repeats_mapped f r)

-- a fold whose step, made twice, is made once
module _ {S X : Type 0} (step : S → X → S) (Good : S → Type 0) (keeps : (s : S) (x : X) → Good s → Good (step s x)) (twice : (s : S) (x : X) → Good s → step (step s x) x ≡ step s x) where
  pub fold_repeats : {l m : List X} → Repeats l m → (s : S) → Good s → foldl step s l ≡ foldl step s m
  fold_repeats done s g = refl
  fold_repeats (once {x} r) s g = fold_repeats r (step s x) (keeps s x g)
  fold_repeats (again {x} {l} r) s g = ap (λ (t : S). foldl step t l) (twice s x g) ∙ fold_repeats r s g

  module _ (skip : S → X → Bool) where
    kept : (s : S) (x : X) (c : Bool) → Good s → Good (cond c s (step s x))
    kept s x true g = g
    kept s x false g = keeps s x g

    second : (s : S) (x : X) → Good s → (c : Bool) → skip s x ≡ c → (d : Bool) → skip (cond c s (step s x)) x ≡ d → cond d (cond c s (step s x)) (step (cond c s (step s x)) x) ≡ cond c s (step s x)
    second s x g c e true h = refl
    second s x g false e false h = twice s x g
    second s x g true e false h = ap (λ (b : Bool). cond b s (step s x)) (sym h ∙ e)

    pub skipping_repeats : {l m : List X} → Repeats l m → (s : S) → Good s → skipping skip step s l ≡ skipping skip step s m
    unfolding skipping
    skipping_repeats done s g = refl
    skipping_repeats (once {x} r) s g = skipping_repeats r (cond (skip s x) s (step s x)) (kept s x (skip s x) g)
    skipping_repeats (again {x} {l} r) s g = ap (λ (t : S). skipping skip step t l) (second s x g (skip s x) refl (skip (cond (skip s x) s (step s x)) x) refl) ∙ skipping_repeats r s g

-- ---- boxes
same_cond : {X : Type 0} (b : Bool) (x : X) → cond b x x ≡ x
same_cond true x = refl
same_cond false x = refl

-- minimum and maximum by what beats: NaN is dropped, of equals the first stays
module _ (beats : Float → Float → Bool) where
  abbrev extreme : Float → Float → Float
  extreme a x = cond (is_nan a) x (cond (beats a x) x a)

  self : (x : Float) → extreme x x ≡ x
  self x = ap (λ (y : Float). cond (is_nan x) x y) (same_cond (beats x x) x) ∙ same_cond (is_nan x) x

  twice : (a x : Float) → extreme (extreme a x) x ≡ extreme a x
  twice a x = go (is_nan a) refl (beats a x) refl
    where
      go : (p : Bool) → is_nan a ≡ p → (q : Bool) → beats a x ≡ q → extreme (cond p x (cond q x a)) x ≡ cond p x (cond q x a)
      go true e q k = self x
      go false e true k = self x
      go false e false k = ap (λ (t : Bool). cond t x (cond (beats a x) x a)) e ∙ ap (λ (t : Bool). cond t x a) k

-- a point added twice is added once
pub add_twice : (b : Aabb) (p : Point) → add_point (add_point b p) p ≡ add_point b p
unfolding add_point
add_twice b p = λ i. record {
  lo = record { x = twice shorter b.lo.x p.x i; y = twice shorter b.lo.y p.y i; z = twice shorter b.lo.z p.z i };
  hi = record { x = twice longer b.hi.x p.x i; y = twice longer b.hi.y p.y i; z = twice longer b.hi.z p.z i };
}

pub add_own_point : (p : Point) → add_point (box_of_point p) p ≡ box_of_point p
unfolding add_point box_of_point
add_own_point p = λ i. record {
  lo = record { x = self shorter p.x i; y = self shorter p.y i; z = self shorter p.z i };
  hi = record { x = self longer p.x i; y = self longer p.y i; z = self longer p.z i };
}

-- the union with a point's box is the box with the point added
pub union_with_point : (b : Aabb) (p : Point) → union_of b (box_of_point p) ≡ add_point b p
union_with_point b p = unfold union_of box_of_point in add_twice b p

pub box_repeats : {l m : List Point} → Repeats l m → box_of_all l ≡ box_of_all m
unfolding box_of_all
box_repeats done = refl
box_repeats (once {x} r) = ap {B = Option Aabb} Some (fold_repeats add_point (λ b. Unit {0}) (λ b p g. tt) (λ b p g. add_twice b p) r (box_of_point x) tt)
box_repeats (again {x} {l} r) = ap (λ (b : Aabb). Some (foldl add_point b l)) (add_own_point x) ∙ box_repeats r

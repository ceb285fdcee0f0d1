-- One axis of a box built by minimum and maximum: it holds every coordinate that is no NaN, and is NaN exactly if all are. Assumes nothing.
use mathlib.Core.Bool.{Bool, true, false, not, ◌&&◌, false≢true}
use mathlib.Core.List.{List, [], ◌∷◌}
use mathlib.Core.Logic.{◌↔◌}
use mathlib.Core.Option.{some, some-injective, none-ne-some}
use mathlib.Core.Path.{◌≡◌, refl, sym, ap, ◌∙◌, subst}
use Prim.Native.Nat.{ℕ, zero, suc}
use lib.Dec.{T}
use lib.Ieee.{Float, binary64, le, is_nan, fits}
use lib.ListN.{get_elem?}
use Rattle.ieee754.specs.MinMax.{minimum_of, maximum_of}
use Rattle.ieee754.proofs.FloatOrder.{le_reflexive}
use Rattle.ieee754.proofs.MinMaxLaws.{below_maximum_left, below_maximum_right, above_minimum_left, above_minimum_right, minimum_fits, maximum_fits, minimum_nan, maximum_nan}

-- x is within lo .. hi, if it is a number
abbrev pub Holds : Float → Float → Float → Type 0
Holds lo hi x = T (not (is_nan x)) → T (le lo x) × T (le x hi)

-- a choice of two carried over a list, from the left
abbrev pub over : (Float → Float → Float) → Float → List Float → Float
over choose a [] = a
over choose a (x ∷ l) = over choose (choose a x) l

abbrev pub least_over : Float → List Float → Float
least_over a l = over minimum_of a l

abbrev pub greatest_over : Float → List Float → Float
greatest_over a l = over maximum_of a l

-- a fact of each element
abbrev pub AtEach : (Float → Type 0) → List Float → Type 0
AtEach F l = (j : ℕ) (x : Float) → get_elem? l j ≡ some x → F x

abbrev Fit : Float → Type 0
Fit x = T (fits binary64 x)

pub own_held : (x : Float) → Fit x → Holds x x x
own_held x f n = let s = le_reflexive x n f in (s, s)

-- what is held stays held, and what is added is held
pub held_stays : (lo hi y x : Float) → Fit lo → Fit hi → Fit y → Fit x → Holds lo hi x → Holds (minimum_of lo y) (maximum_of hi y) x
held_stays lo hi y x f g h k i n = (above_minimum_left x lo y k f h (i n).0, below_maximum_left x hi y k g h (i n).1)

pub added_held : (lo hi x : Float) → Fit lo → Fit hi → Fit x → Holds (minimum_of lo x) (maximum_of hi x) x
added_held lo hi x f g h n = let s = le_reflexive x n h in (above_minimum_right x lo x h f h s, below_maximum_right x hi x h g h s)

rest : (F : Float → Type 0) (x : Float) (l : List Float) → AtEach F (x ∷ l) → AtEach F l
rest F x l f j y h = f (suc j) y h

held_over : (lo hi x : Float) (l : List Float) → Fit lo → Fit hi → Fit x → AtEach Fit l → Holds lo hi x → Holds (least_over lo l) (greatest_over hi l) x
held_over lo hi x [] f g h a i = i
held_over lo hi x (y ∷ l) f g h a i = let k = a zero y refl in held_over (minimum_of lo y) (maximum_of hi y) x l (minimum_fits lo y f k) (maximum_fits hi y g k) h (rest Fit y l a) (held_stays lo hi y x f g k h i)

held_each : (lo hi : Float) (l : List Float) → Fit lo → Fit hi → AtEach Fit l → AtEach (Holds (least_over lo l) (greatest_over hi l)) l
held_each lo hi [] f g a j x h = absurd (none-ne-some x h)
held_each lo hi (y ∷ l) f g a zero x h =
    let k = a zero y refl in
    subst (Holds (least_over (minimum_of lo y) l) (greatest_over (maximum_of hi y) l)) (some-injective y x h) (held_over (minimum_of lo y) (maximum_of hi y) y l (minimum_fits lo y f k) (maximum_fits hi y g k) k (rest Fit y l a) (added_held lo hi y f g k))
held_each lo hi (y ∷ l) f g a (suc j) x h = let k = a zero y refl in held_each (minimum_of lo y) (maximum_of hi y) l (minimum_fits lo y f k) (maximum_fits hi y g k) (rest Fit y l a) j x h

-- the axis holds every coordinate that is no NaN
pub axis_holds_each : (a : Float) (l : List Float) → AtEach (λ x. T (fits binary64 x)) (a ∷ l) → AtEach (Holds (least_over a l) (greatest_over a l)) (a ∷ l)
axis_holds_each a l f zero x h = let k = f zero a refl in subst (Holds (least_over a l) (greatest_over a l)) (some-injective a x h) (held_over a a a l k k k (rest Fit a l f) (own_held a k))
axis_holds_each a l f (suc j) x h = let k = f zero a refl in held_each a a l k k (rest Fit a l f) j x h

-- ---- NaN exactly if all are
abbrev IsNan : Float → Type 0
IsNan x = is_nan x ≡ true

module _ (choose : Float → Float → Float) (law : (a b : Float) → is_nan (choose a b) ≡ (is_nan a && is_nan b)) where
  both : (a b : Bool) → (a && b) ≡ true → (a ≡ true) × (b ≡ true)
  both true b h = (refl, h)
  both false b h = absurd (false≢true h)

  apart : (a y : Float) (l : List Float) → AtEach IsNan (choose a y ∷ l) → AtEach IsNan (a ∷ y ∷ l)
  apart a y l f zero x h = subst IsNan (some-injective a x h) (both (is_nan a) (is_nan y) (sym (law a y) ∙ f zero (choose a y) refl)).0
  apart a y l f (suc zero) x h = subst IsNan (some-injective y x h) (both (is_nan a) (is_nan y) (sym (law a y) ∙ f zero (choose a y) refl)).1
  apart a y l f (suc (suc j)) x h = f (suc j) x h

  joined : (a y : Float) (l : List Float) → AtEach IsNan (a ∷ y ∷ l) → AtEach IsNan (choose a y ∷ l)
  joined a y l f zero x h = subst IsNan (some-injective (choose a y) x h) (law a y ∙ ap (λ (b : Bool). b && is_nan y) (f zero a refl) ∙ f (suc zero) y refl)
  joined a y l f (suc j) x h = f (suc (suc j)) x h

  each_nan : (a : Float) (l : List Float) → IsNan (over choose a l) → AtEach IsNan (a ∷ l)
  each_nan a [] n zero x h = subst IsNan (some-injective a x h) n
  each_nan a [] n (suc j) x h = absurd (none-ne-some x h)
  each_nan a (y ∷ l) n j x h = apart a y l (each_nan (choose a y) l n) j x h

  over_nan : (a : Float) (l : List Float) → AtEach IsNan (a ∷ l) → IsNan (over choose a l)
  over_nan a [] f = f zero a refl
  over_nan a (y ∷ l) f = over_nan (choose a y) l (joined a y l f)

pub least_nan_exactly : (a : Float) (l : List Float) → (is_nan (least_over a l) ≡ true) ↔ AtEach (λ x. is_nan x ≡ true) (a ∷ l)
least_nan_exactly a l = (each_nan minimum_of minimum_nan a l, over_nan minimum_of minimum_nan a l)

pub greatest_nan_exactly : (a : Float) (l : List Float) → (is_nan (greatest_over a l) ≡ true) ↔ AtEach (λ x. is_nan x ≡ true) (a ∷ l)
greatest_nan_exactly a l = (each_nan maximum_of maximum_nan a l, over_nan maximum_of maximum_nan a l)

-- A fact of each element of a list, or of each before a position; the element at a position of a mapped list. Assumes nothing.
use mathlib.Core.Path.{◌≡◌, refl, subst}
use mathlib.Core.List.{List, [], ◌∷◌, ◌++◌, map}
use mathlib.Core.Option
use mathlib.Core.Option.{some, some-injective, none-ne-some}
use Prim.Native.Nat.{ℕ, zero, suc, ◌<◌}
use native.Mathlib.Nat.{le_of_suc-le-suc, not-suc-le-zero}
use lib.ListN.{get_elem?}

module _ {X : Type 0} where
  abbrev pub Each : (X → Type 0) → List X → Type 0
  Each F [] = Unit {0}
  Each F (x ∷ l) = F x × Each F l

  abbrev pub Before : (X → Type 0) → ℕ → List X → Type 0
  Before F zero l = Unit {0}
  Before F (suc k) [] = Unit {0}
  Before F (suc k) (x ∷ l) = F x × Before F k l

  pub each_at : (F : X → Type 0) (l : List X) → Each F l → (j : ℕ) (x : X) → get_elem? l j ≡ some x → F x
  each_at F [] e j x h = absurd (none-ne-some x h)
  each_at F (y ∷ l) e zero x h = subst F (some-injective y x h) e.0
  each_at F (y ∷ l) e (suc j) x h = each_at F l e.1 j x h

  pub before_at : (F : X → Type 0) (k : ℕ) (l : List X) → Before F k l → (j : ℕ) (x : X) → j < k → get_elem? l j ≡ some x → F x
  before_at F zero l b j x m h = absurd (not-suc-le-zero m)
  before_at F (suc k) [] b j x m h = absurd (none-ne-some x h)
  before_at F (suc k) (y ∷ l) b zero x m h = subst F (some-injective y x h) b.0
  before_at F (suc k) (y ∷ l) b (suc j) x m h = before_at F k l b.1 j x (le_of_suc-le-suc m) h

  pub at_each : (F : X → Type 0) (l : List X) → ((j : ℕ) (x : X) → get_elem? l j ≡ some x → F x) → Each F l
  at_each F [] f = tt
  at_each F (x ∷ l) f = (f zero x refl, at_each F l (λ j y h. f (suc j) y h))

  pub each_all : (F : X → Type 0) → ((x : X) → F x) → (l : List X) → Each F l
  each_all F f [] = tt
  each_all F f (x ∷ l) = (f x, each_all F f l)

  pub each_weaken : (F G : X → Type 0) → ((x : X) → F x → G x) → (l : List X) → Each F l → Each G l
  each_weaken F G f [] e = tt
  each_weaken F G f (x ∷ l) e = (f x e.0, each_weaken F G f l e.1)

  pub each_both : (F G : X → Type 0) (l : List X) → Each F l → Each G l → Each (λ (x : X). F x × G x) l
  each_both F G [] e f = tt
  each_both F G (x ∷ l) e f = ((e.0, f.0), each_both F G l e.1 f.1)

  pub each_append : (F : X → Type 0) (l m : List X) → Each F l → Each F m → Each F (l ++ m)
  each_append F [] m e f = f
  each_append F (x ∷ l) m e f = (e.0, each_append F l m e.1 f)

module _ {X Y : Type 0} (f : X → Y) where
  pub each_mapped : (F : Y → Type 0) (l : List X) → Each (λ (x : X). F (f x)) l → Each F (map f l)
  each_mapped F [] e = tt
  each_mapped F (x ∷ l) e = (e.0, each_mapped F l e.1)

  pub mapped_each : (F : Y → Type 0) (l : List X) → Each F (map f l) → Each (λ (x : X). F (f x)) l
  mapped_each F [] e = tt
  mapped_each F (x ∷ l) e = (e.0, mapped_each F l e.1)

  pub all_mapped : (F : Y → Type 0) → ((x : X) → F (f x)) → (l : List X) → Each F (map f l)
  all_mapped F h l = each_mapped F l (each_all (λ (x : X). F (f x)) h l)

  pub get_mapped : (l : List X) (j : ℕ) → get_elem? (map f l) j ≡ Option.map f (get_elem? l j)
  get_mapped [] j = refl
  get_mapped (x ∷ l) zero = refl
  get_mapped (x ∷ l) (suc j) = get_mapped l j

-- A fact of each element of a list. Assumes nothing.
use mathlib.Core.Path.{◌≡◌, refl, subst}
use mathlib.Core.Bool.{Bool, true, false, cond}
use mathlib.Core.List.{List, [], ◌∷◌, ◌++◌}
use mathlib.Core.Option.{some, some-injective, none-ne-some}
use Prim.Native.Nat.{ℕ, zero, suc}
use lib.ListN.{get_elem?}

module _ {A : Type 0} where
  abbrev pub Each : (A → Type 0) → List A → Type 0
  Each P [] = Unit {0}
  Each P (x ∷ l) = P x × Each P l

  -- so it is of the element at a position
  pub each_at : (P : A → Type 0) (l : List A) → Each P l → (i : ℕ) (x : A) → get_elem? l i ≡ some x → P x
  each_at P [] e i x h = absurd (none-ne-some x h)
  each_at P (y ∷ l) e zero x h = subst P (some-injective y x h) e.0
  each_at P (y ∷ l) e (suc i) x h = each_at P l e.1 i x h

  -- and of each element, where it is of the one at every position
  pub at_each : (P : A → Type 0) (l : List A) → ((i : ℕ) (x : A) → get_elem? l i ≡ some x → P x) → Each P l
  at_each P [] f = tt
  at_each P (x ∷ l) f = (f zero x refl, at_each P l (λ i y h. f (suc i) y h))

  pub each_append : (P : A → Type 0) (l m : List A) → Each P l → Each P m → Each P (l ++ m)
  each_append P [] m e f = f
  each_append P (x ∷ l) m e f = (e.0, each_append P l m e.1 f)

  pub each_cond : (P : A → Type 0) (b : Bool) (l : List A) → Each P l → Each P (cond b l [])
  each_cond P true l e = e
  each_cond P false l e = tt

  pub each_weaker : (P Q : A → Type 0) → ((x : A) → P x → Q x) → (l : List A) → Each P l → Each Q l
  each_weaker P Q f [] e = tt
  each_weaker P Q f (x ∷ l) e = (f x e.0, each_weaker P Q f l e.1)

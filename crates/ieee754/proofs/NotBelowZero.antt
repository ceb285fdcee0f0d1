-- A root is never below 0. Assumes nothing.
use mathlib.Core.Path.{◌≡◌, refl, sym, ◌∙◌}
use mathlib.Core.Bool.{Bool, true, false, ◌&&◌, false≢true}
use Prim.Native.Nat.{ℕ, zero, suc, ◌*◌}
use native.Mathlib.Nat.{zero-mul, mul-one}
use native.Mathlib.Omega.{arith}
use borrow.Author.Tests.{eqb-true, le-ltb}
use lib.IntN.{ℤ}
use lib.Dec.{T, ltb}
use lib.Ieee.{Float, nan, inf, fin, binary64, up, down, lt, eq, fits}
use Rattle.ieee754.specs.MinMax.{positive_zero}
use Rattle.ieee754.specs.Root.{root_of}
use Rattle.ieee754.proofs.SignClear.{sign_clear}
use Rattle.ieee754.proofs.RootLaws.{root_sign_clear}

-- not less than +0 or -0
abbrev pub NotBelow : Float → Type 0
NotBelow x = (z : Float) → eq z positive_zero ≡ true → lt x z ≡ false

pub both_left : (a b : Bool) → (a && b) ≡ true → a ≡ true
both_left true b e = refl
both_left false b e = absurd (false≢true e)

pub zero_value : (t : Bool) (n : ℕ) (d : ℤ) → eq (fin t n d) positive_zero ≡ true → n * up d ≡ 0
unfolding eq
zero_value t n d e = sym (mul-one (n * up d)) ∙ eqb-true _ _ (both_left _ _ e) ∙ zero-mul (down d)

none_below : (a b k : ℕ) → b ≡ 0 → ltb a (b * k) ≡ false
none_below a b k e = rw e (rw (zero-mul k) (le-ltb a 0 (omega arith)))

pub clear_not_below : (x : Float) → T (sign_clear x) → NotBelow x
clear_not_below (inf false) c nan e = unfold lt in refl
clear_not_below (inf false) c (inf t) e = unfold lt in refl
clear_not_below (inf false) c (fin t n d) e = unfold lt in refl
clear_not_below (fin false m k) c nan e = unfold lt in refl
clear_not_below (fin false m k) c (inf t) e = absurd (false≢true (unfold eq in e))
clear_not_below (fin false m k) c (fin true n d) e = unfold lt in refl
clear_not_below (fin false m k) c (fin false n d) e = unfold lt in none_below (m * up k * down d) (n * up d) (down k) (zero_value false n d e)
clear_not_below nan c z e = elim c [ ]
clear_not_below (inf true) c z e = elim c [ ]
clear_not_below (fin true m k) c z e = elim c [ ]

pub nan_not_below : NotBelow nan
unfolding lt
nan_not_below z e = refl

pub negative_zero_not_below : (k : ℤ) → NotBelow (fin true 0 k)
negative_zero_not_below k nan e = unfold lt in refl
negative_zero_not_below k (inf t) e = absurd (false≢true (unfold eq in e))
negative_zero_not_below k (fin true n d) e = unfold lt in rw (zero-mul (up k)) (none_below (n * up d * down k) 0 (down d) refl)
negative_zero_not_below k (fin false n d) e = unfold lt in rw (zero-mul (up k), zero-mul (down d), zero_value false n d e, zero-mul (down k))

pub root_not_below : (x : Float) → T (fits binary64 x) → NotBelow (root_of x)
root_not_below nan f = unfold root_of in nan_not_below
root_not_below (inf true) f = unfold root_of in nan_not_below
root_not_below (inf false) f = clear_not_below (root_of (inf false)) (root_sign_clear (inf false) tt f)
root_not_below (fin true zero e) f = unfold root_of in negative_zero_not_below e
root_not_below (fin true (suc m) e) f = unfold root_of in nan_not_below
root_not_below (fin false m e) f = clear_not_below (root_of (fin false m e)) (root_sign_clear (fin false m e) tt f)

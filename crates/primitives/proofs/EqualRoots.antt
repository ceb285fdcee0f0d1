-- Two sums whose roots compare equal have the same root, where the first is not at most the second: no root is +0 and the other -0. Assumes nothing.
use mathlib.Core.Path.{◌≡◌, refl, sym, ap, ◌∙◌, subst}
use mathlib.Core.Bool.{Bool, true, false, ◌&&◌, ◌||◌, beq, true≢false, false≢true}
use Prim.Native.Nat.{ℕ, zero, suc, ◌+◌, ◌*◌, ◌<◌}
use native.Mathlib.Nat.{zero-mul, mul-pos, zero-lt-suc}
use native.Mathlib.Omega.{arith}
use borrow.Author.Tests.{eqb-true, ltb-true, ltb-false}
use lib.Dec.{T, ltb, eqb, lt→ltb}
use lib.IntN.{ℤ}
use lib.Ieee.{Float, nan, inf, fin, binary64, up, down, lt, le, eq, fits, of_bits, to_bits, is_nan}
use lib.Ieee.Bits.{of_bits-to_bits}
use lib.Ieee.Fits.{up_pos, down_pos}
use lib.Ieee.Positive.{positive}
use Rattle.ieee754.specs.Root.{units_of, root_of}
use Rattle.ieee754.specs.InnerRoot.{units_of_pattern}
use Rattle.ieee754.proofs.FloatRanks.{rank_of, eq_by_rank}
use Rattle.ieee754.proofs.NotBelowZero.{both_left}
use Rattle.ieee754.proofs.PatternUnits.{units_step, units_keep_order}
use Rattle.ieee754.proofs.PatternValues.{units_of_float}
use Rattle.ieee754.proofs.RootBounds.{top}
use Rattle.ieee754.proofs.RootRelation.{root_is_root}

-- ---- a positive number is known by its value
not_below : (a b : ℕ) → units_of_pattern a ≡ units_of_pattern b → a < b → ⊥
not_below a b e h = omega (arith, units_step a, units_keep_order (suc a) b h)

same_pattern : (a b : ℕ) → units_of_pattern a ≡ units_of_pattern b → a ≡ b
same_pattern a b e = go (ltb a b) refl (ltb b a) refl
  where
    go : (c : Bool) → ltb a b ≡ c → (d : Bool) → ltb b a ≡ d → a ≡ b
    go true h d k = absurd (not_below a b e (ltb-true a b h))
    go false h true k = absurd (not_below b a (sym e) (ltb-true b a k))
    go false h false k = omega (arith, ltb-false a b h, ltb-false b a k)

cancelled : (M a b : ℕ) → M + a ≡ M + b → a ≡ b
cancelled M a b e = omega arith

same_number : (m : ℕ) (e : ℤ) (n : ℕ) (d : ℤ) → T (fits binary64 (fin false (suc m) e)) → T (fits binary64 (fin false (suc n) d)) → eq (fin false (suc m) e) (fin false (suc n) d) ≡ true → fin false (suc m) e ≡ fin false (suc n) d
same_number m e n d f g h =
    let x = fin false (suc m) e in
    let y = fin false (suc n) d in
    let units : units_of x ≡ units_of y = cancelled top (units_of x) (units_of y) (eqb-true (rank_of x) (rank_of y) (sym (eq_by_rank x y (unfold is_nan in tt) (unfold is_nan in tt) f g) ∙ h)) in
    let p : T (positive x) = lt→ltb 0 (suc m) (zero-lt-suc m) in
    let q : T (positive y) = lt→ltb 0 (suc n) (zero-lt-suc n) in
    sym (of_bits-to_bits binary64 x f)
    ∙ ap (of_bits binary64) (same_pattern (to_bits binary64 x) (to_bits binary64 y) (sym (units_of_float x f p) ∙ units ∙ units_of_float y g q))
    ∙ of_bits-to_bits binary64 y g

-- ---- a sum and its root
data RootOf : Float → Float → Type 0 where
  not_real : {s : Float} → RootOf s nan
  nought : {b : Bool} {e : ℤ} → RootOf (fin b zero e) (fin b zero e)
  endless : RootOf (inf false) (inf false)
  above : {s : Float} (m : ℕ) (e : ℤ) → T (fits binary64 (fin false (suc m) e)) → RootOf s (fin false (suc m) e)

is_above : {s : Float} (x : Float) → T (positive x) → T (fits binary64 x) → RootOf s x
is_above nan p f = absurd p
is_above (inf b) p f = absurd p
is_above (fin true m e) p f = absurd p
is_above (fin false zero e) p f = absurd p
is_above (fin false (suc m) e) p f = above m e f

root_of_lem : (s : Float) → T (fits binary64 s) → RootOf s (root_of s)
root_of_lem nan f = unfold root_of in not_real
root_of_lem (inf true) f = unfold root_of in not_real
root_of_lem (inf false) f = unfold root_of in endless
root_of_lem (fin b zero e) f = unfold root_of in nought
root_of_lem (fin true (suc m) e) f = unfold root_of in not_real
root_of_lem (fin false (suc m) e) f =
    let s = fin false (suc m) e in
    let p : T (positive s) = lt→ltb 0 (suc m) (zero-lt-suc m) in
    let r = root_is_root s f p in
    is_above (root_of s) r.is_positive r.is_float

-- no number above 0 equals 0
positive_value : (n : ℕ) (d e : ℤ) → 0 < suc n * up d * down e
positive_value n d e = mul-pos (mul-pos (zero-lt-suc n) (up_pos d)) (down_pos e)

apart : (a b : ℕ) → 0 < b → a ≡ b → a ≡ 0 → ⊥
apart a b h e z = omega arith

zero_value : (e d : ℤ) → 0 * up e * down d ≡ 0
zero_value e d = rw (zero-mul (up e), zero-mul (down d))

clash : (a b : Bool) → (a || b) ≡ false → b ≡ true → ⊥
clash true b l h = true≢false l
clash false b l h = true≢false (sym h ∙ l)

not_both : (x y : Float) → le x y ≡ false → eq x y ≡ true → ⊥
unfolding le
not_both x y l h = clash (lt x y) (eq x y) l h

equal : {s t x y : Float} → RootOf s x → RootOf t y → le s t ≡ false → eq x y ≡ true → x ≡ y
unfolding eq
equal not_real k l h = absurd (false≢true h)
equal nought not_real l h = absurd (false≢true h)
equal (nought {b} {e}) (nought {b = c} {e = d}) l h = absurd (not_both (fin b zero e) (fin c zero d) l h)
equal nought endless l h = absurd (false≢true h)
equal (nought {b} {e}) (above n d g) l h = absurd (apart _ _ (positive_value n d e) (eqb-true _ _ (both_left _ _ h)) (zero_value e d))
equal endless not_real l h = absurd (false≢true h)
equal endless nought l h = absurd (false≢true h)
equal endless endless l h = refl
equal endless (above n d g) l h = absurd (false≢true h)
equal (above m e f) not_real l h = absurd (false≢true h)
equal (above m e f) (nought {b} {e = d}) l h = absurd (apart _ _ (positive_value m e d) (sym (eqb-true _ _ (both_left _ _ h))) (zero_value d e))
equal (above m e f) endless l h = absurd (false≢true h)
equal (above m e f) (above n d g) l h = same_number m e n d f g h

pub equal_roots : (s t : Float) → T (fits binary64 s) → T (fits binary64 t) → le s t ≡ false → eq (root_of s) (root_of t) ≡ true → root_of s ≡ root_of t
equal_roots s t f g l h = equal (root_of_lem s f) (root_of_lem t g) l h

-- ---- equality of floats, either way round
like_either_way : (s t : Bool) → beq t s ≡ beq s t
like_either_way true true = refl
like_either_way true false = refl
like_either_way false true = refl
like_either_way false false = refl

level_either_way : (s : Bool) (a : ℕ) (t : Bool) (b : ℕ) → (eqb a b && (beq s t || eqb a 0)) ≡ true → (eqb b a && (beq t s || eqb b 0)) ≡ true
level_either_way s a t b h =
    subst (λ (n : ℕ). (eqb a n && (beq s t || eqb a 0)) ≡ true → (eqb n a && (beq t s || eqb n 0)) ≡ true) (eqb-true a b (both_left _ _ h))
    (λ k. ap (λ (z : Bool). eqb a a && (z || eqb a 0)) (like_either_way s t) ∙ k) h

pub equal_either_way : (x y : Float) → eq x y ≡ true → eq y x ≡ true
unfolding eq
equal_either_way nan y h = absurd (false≢true h)
equal_either_way (inf s) nan h = absurd (false≢true h)
equal_either_way (inf s) (inf t) h = like_either_way s t ∙ h
equal_either_way (inf s) (fin t n d) h = absurd (false≢true h)
equal_either_way (fin s m e) nan h = absurd (false≢true h)
equal_either_way (fin s m e) (inf t) h = absurd (false≢true h)
equal_either_way (fin s m e) (fin t n d) h = level_either_way s (m * up e * down d) t (n * up d * down e) h

-- Laws of the floats of coordinates, of of those that are put one behind the other, and of the test for 15. Assumes nothing.
use mathlib.Core.Path.{◌≡◌, refl, sym, ap, subst, ◌∙◌}
use mathlib.Core.List.{List, ◌++◌, append_assoc, append-nil}
use Prim.Native.Nat.{ℕ, zero, suc, ◌+◌, ◌*◌, ◌/◌, ◌<◌, ◌≤◌}
use native.Mathlib.Nat.{suc-mul, zero-mul, add-zero, mul-le-mul_right}
use native.Mathlib.Numerals.{add-one}
use native.Mathlib.Omega.{arith}
use lib.ListN.{length, length-append}
use lib.Seq.{sets}
use lib.Ieee.{Float}
use lib.Dec.{ltb}
use borrow.Author.Tests.{lt-ltb, le-ltb, ltb-true, ltb-false}
use mathlib.Core.Bool.{Bool, true, false, ◌||◌, true≢false}
use Rattle.fields.proofs.Stores.{sets_append}
use Rattle.coords.specs.Walk.{Coordinate, stride_of, stride, m_offset, coordinate_at, coordinates_from}
use Rattle.coords.specs.declared.WkbHeader.{WkbHeader}
use Rattle.coords.proofs.Laws.{wide, wide_with_z, wide_with_m}
use Rattle.workspace.specs.Workspace.{floats_per_coordinate, numbers_per_run, coordinate_floats, coordinates_floats, too_small_for}

pub length_coordinate_floats : (c : Coordinate) → length (coordinate_floats c) ≡ floats_per_coordinate
unfolding coordinate_floats
length_coordinate_floats c = refl

-- ordinates that are there lie in the coordinate
pub z_inside : (h : WkbHeader) (at n : ℕ) → at + stride h ≤ n → h.z ≡ true → at + 16 + 8 ≤ n
z_inside h at n l e = let wide : 24 ≤ stride h = subst (λ (z : Bool). 24 ≤ stride_of z h.m) (sym e) (wide_with_z h.m) in omega arith

pub m_inside : (h : WkbHeader) (at n : ℕ) → at + stride h ≤ n → h.m ≡ true → at + m_offset h.z + 8 ≤ n
m_inside h at n l e = let wide : m_offset h.z + 8 ≤ stride h = subst (λ (m : Bool). m_offset h.z + 8 ≤ stride_of h.z m) (sym e) (wide_with_m h.z) in omega arith

-- and one that is missing would start in it
pub m_starts : (h : WkbHeader) → m_offset h.z ≤ stride h
unfolding m_offset stride_of
m_starts h = go h.z h.m
  where
    go : (z m : Bool) → m_offset z ≤ stride_of z m
    go true true = omega arith
    go true false = omega arith
    go false true = omega arith
    go false false = omega arith

-- ---- coordinates that are put one behind the other

pub coordinates_begin : (h : WkbHeader) (s : List ℕ) (at i : ℕ) (l : List Float) → l ≡ sets l i (coordinates_floats (coordinates_from h s 0 at))
unfolding coordinates_from coordinates_floats
coordinates_begin h s at i l = refl

one_behind : (h : WkbHeader) (s : List ℕ) (n at : ℕ) → coordinates_floats (coordinates_from h s (suc n) at) ≡ coordinates_floats (coordinates_from h s n at) ++ coordinate_floats (coordinate_at h s (at + n * stride h))
unfolding coordinates_from coordinates_floats
one_behind h s zero at = simp (zero-mul, add-zero, append-nil)
one_behind h s (suc n) at =
    let e : at + stride h + n * stride h ≡ at + suc n * stride h = omega (arith, suc-mul n (stride h)) in
    ap (λ (l : List Float). coordinate_floats (coordinate_at h s at) ++ l) (one_behind h s n (at + stride h) ∙ ap (λ (p : ℕ). coordinates_floats (coordinates_from h s n (at + stride h)) ++ coordinate_floats (coordinate_at h s p)) e)
    ∙ sym (append_assoc (coordinate_floats (coordinate_at h s at)) (coordinates_floats (coordinates_from h s n (at + stride h))) (coordinate_floats (coordinate_at h s (at + suc n * stride h))))

length_coordinates_floats : (h : WkbHeader) (s : List ℕ) (n at : ℕ) → length (coordinates_floats (coordinates_from h s n at)) ≡ floats_per_coordinate * n
unfolding coordinates_from coordinates_floats
length_coordinates_floats h s zero at = refl
length_coordinates_floats h s (suc n) at = length-append (coordinate_floats (coordinate_at h s at)) (coordinates_floats (coordinates_from h s n (at + stride h))) ∙ omega (arith, length_coordinate_floats (coordinate_at h s at), length_coordinates_floats h s n (at + stride h))

pub coordinates_next : (h : WkbHeader) (s : List ℕ) (n at i : ℕ) (l : List Float) → sets (sets l (floats_per_coordinate * i) (coordinates_floats (coordinates_from h s n at))) (floats_per_coordinate * (i + n)) (coordinate_floats (coordinate_at h s (at + n * stride h))) ≡ sets l (floats_per_coordinate * i) (coordinates_floats (coordinates_from h s (n + 1) at))
coordinates_next h s n at i l =
    let done = coordinates_floats (coordinates_from h s n at) in
    let next = coordinate_floats (coordinate_at h s (at + n * stride h)) in
    let e : floats_per_coordinate * (i + n) ≡ floats_per_coordinate * i + length done = omega (arith, length_coordinates_floats h s n at) in
    ap (λ (k : ℕ). sets (sets l (floats_per_coordinate * i) done) k next) e
    ∙ (sym (sets_append done next l (floats_per_coordinate * i)) ∙ rw add-one (ap (sets l (floats_per_coordinate * i)) (sym (one_behind h s n at))))

-- the next of n coordinates lies in the bytes that hold them
pub next_inside : (h : WkbHeader) (j n at len : ℕ) → j < n → at + n * stride h ≤ len → at + j * stride h + stride h ≤ len
next_inside h j n at len l r =
    let e : suc j * stride h ≤ n * stride h = mul-le-mul_right (stride h) (omega arith) in
    omega (arith, suc-mul j (stride h))

-- what a shorter side of the workspace gives, tried by division
pub floats_short : (coords runs floats numbers : ℕ) → floats / floats_per_coordinate < coords → true ≡ too_small_for coords runs floats numbers
unfolding too_small_for
floats_short coords runs floats numbers h = simp (lt-ltb floats (floats_per_coordinate * coords) (omega arith))

pub numbers_short : (coords runs floats numbers : ℕ) → coords ≤ floats / floats_per_coordinate → ltb (numbers / numbers_per_run) runs ≡ too_small_for coords runs floats numbers
unfolding too_small_for
numbers_short coords runs floats numbers h = simp (le-ltb floats (floats_per_coordinate * coords) (omega arith)) (go (ltb (numbers / numbers_per_run) runs) refl)
  where
    go : (b : Bool) → ltb (numbers / numbers_per_run) runs ≡ b → b ≡ ltb numbers (numbers_per_run * runs)
    go true e = sym (lt-ltb numbers (numbers_per_run * runs) (omega (arith, ltb-true (numbers / numbers_per_run) runs e)))
    go false e = sym (le-ltb numbers (numbers_per_run * runs) (omega (arith, ltb-false (numbers / numbers_per_run) runs e)))

-- memory that is not too small has room
pub not_too_small : (coords runs floats numbers : ℕ) → too_small_for coords runs floats numbers ≡ false → (floats_per_coordinate * coords ≤ floats) × (numbers_per_run * runs ≤ numbers)
unfolding too_small_for
not_too_small coords runs floats numbers e = go (ltb floats (floats_per_coordinate * coords)) (ltb numbers (numbers_per_run * runs)) refl refl e
  where
    go : (a b : Bool) → ltb floats (floats_per_coordinate * coords) ≡ a → ltb numbers (numbers_per_run * runs) ≡ b → a || b ≡ false → (floats_per_coordinate * coords ≤ floats) × (numbers_per_run * runs ≤ numbers)
    go true b p q r = absurd (true≢false r)
    go false true p q r = absurd (true≢false r)
    go false false p q r = (ltb-false floats (floats_per_coordinate * coords) p, ltb-false numbers (numbers_per_run * runs) q)

-- where an ordinate lies, and where the next coordinate is put
pub ruleset ordinates = (wide, z_inside, m_inside, m_starts)

pub ruleset rows = (next_inside, coordinates_next, coordinates_begin)

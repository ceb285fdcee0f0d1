-- Laws of the walk's definitions, for the proofs of the functions. Assumes nothing.
use mathlib.Core.Path.{◌≡◌, refl, sym, ap, ◌∙◌}
use mathlib.Core.Bool.{Bool, true, false}
use mathlib.Core.List.{List}
use Prim.Native.Nat.{ℕ, zero, suc, ◌+◌, ◌-◌, ◌*◌, ◌^◌, ◌<◌, ◌≤◌}
use native.Mathlib.Nat.{add-zero}
use native.Mathlib.Omega.{arith}
use lib.Dec.{ltb}
use lib.ListN.{length}
use borrow.Author.Tests.{ltb-true, ltb-false, lt-ltb, le-ltb}
use Rattle.std.specs.Prelude.{Ok}
use Rattle.coords.specs.Walk.{ok, stride_of, m_offset, stride, coordinates_from}
use Rattle.coords.specs.Parts.{non_empty_run, coordinate_count, other_if, other_count}
use Rattle.coords.specs.Inner.{coordinates_runs}
use Rattle.coords.proofs.Runs.{coordinates_runs_lem}
use Rattle.coords.specs.Counts.{run_counts}
use Rattle.coords.specs.declared.WkbHeader.{WkbHeader}

pub same_short : (len at want : ℕ) → want ≤ len → ltb (len - want) at ≡ ltb len (at + want)
same_short len at want h = go (ltb (len - want) at) refl
  where
    go : (b : Bool) → ltb (len - want) at ≡ b → b ≡ ltb len (at + want)
    go true e = sym (lt-ltb len (at + want) (omega (arith, ltb-true (len - want) at e)))
    go false e = sym (le-ltb len (at + want) (omega (arith, ltb-false (len - want) at e)))

-- what a test that was false says
pub room : (b : Bool) (len n : ℕ) → b ≡ ltb len n → b ≡ false → n ≤ len
room b len n p q = ltb-false len n (sym p ∙ q)

pub product_fits : (z m : Bool) (n : ℕ) → n < 2 ^ 32 → n * stride_of z m < 2 ^ 37
unfolding stride_of
product_fits true true n h = omega arith
product_fits true false n h = omega arith
product_fits false true n h = omega arith
product_fits false false n h = omega arith

pub length_coordinates : (h : WkbHeader) (s : List ℕ) (n at : ℕ) → length (coordinates_from h s n at) ≡ n
unfolding coordinates_from
length_coordinates h s zero at = refl
length_coordinates h s (suc n) at = ap suc (length_coordinates h s n (at + stride h))

-- 1 for a run that is there
abbrev pub one_if : ℕ → ℕ
one_if zero = 0
one_if (suc n) = 1

-- 1 for a run of a point or face that is there
abbrev pub other_of : ℕ → ℕ → ℕ
other_of zero kind = 0
other_of (suc n) kind = other_if kind

counts_ok : (h : WkbHeader) (s : List ℕ) (n at e : ℕ) → run_counts (ok (non_empty_run h.kind (coordinates_from h s n at)) e) ≡ Ok (record { coords = n; runs = one_if n; others = other_of n h.kind; end = e })
unfolding run_counts coordinate_count other_count non_empty_run coordinates_from
counts_ok h s zero at e = refl
counts_ok h s (suc n) at e = rw (length_coordinates h s n (at + stride h)) (simp add-zero)

pub counts_run : (h : WkbHeader) (s : List ℕ) (n at : ℕ) → ltb (length s) (at + n * stride h) ≡ false → run_counts (coordinates_runs h s n at) ≡ Ok (record { coords = n; runs = one_if n; others = other_of n h.kind; end = at + n * stride h })
counts_run h s n at e = ap run_counts (coordinates_runs_lem h s n at) ∙ rw e (counts_ok h s n at (at + n * stride h))

pub one : (n : ℕ) → (n ≡ 0 → ⊥) → one_if n ≡ 1
one zero f = absurd (f refl)
one (suc n) f = refl

pub other : (n kind : ℕ) → (n ≡ 0 → ⊥) → other_of n kind ≡ other_if kind
other zero kind f = absurd (f refl)
other (suc n) kind f = refl

-- an XY coordinate is the shortest
pub wide : (z m : Bool) → 16 ≤ stride_of z m
unfolding stride_of
wide true true = omega arith
wide true false = omega arith
wide false true = omega arith
wide false false = omega arith

pub wide_with_z : (m : Bool) → 24 ≤ stride_of true m
unfolding stride_of
wide_with_z true = omega arith
wide_with_z false = omega arith

pub wide_with_m : (z : Bool) → m_offset z + 8 ≤ stride_of z true
unfolding stride_of m_offset
wide_with_m true = omega arith
wide_with_m false = omega arith

pub ruleset runs = (counts_run, one, other, product_fits)

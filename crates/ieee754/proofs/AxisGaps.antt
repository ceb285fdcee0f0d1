-- The greatest and the least gap on one axis bound every difference there. Assumes nothing.
use mathlib.Core.Bool.{true, false, cond, Bool, not}
use mathlib.Core.Logic.{inl, inr}
use mathlib.Core.Path.{refl, ◌≡◌, sym, subst}
use Prim.Native.Nat.{ℕ, ◌+◌, ◌-◌, ◌≤◌, ◌<◌}
use native.Mathlib.Nat.{le_trans, le_of_eq, not-le_of_lt}
use native.Mathlib.Omega.{arith}
use lib.Dec.{le→leb, T}
use lib.Ieee.{Float, nan, inf, fin, binary64, sub, lt, le, is_nan, fits}
use lib.Ieee.Fits.{sub-fits}
use lib.IntN.{pos}
use lib.Pow.{pow_pos}
use Rattle.ieee754.specs.MinMax.{positive_zero, maximum_of, absolute_of}
use Rattle.ieee754.specs.Root.{units_of}
use Rattle.ieee754.proofs.AxisBounds.{Holds}
use Rattle.ieee754.proofs.Differences.{difference_either_way, difference_nan_either_way, difference_number}
use Rattle.ieee754.proofs.FloatOrder.{le→rank, not_lt→le}
use Rattle.ieee754.proofs.FloatRanks.{rank_of, le_by_rank}
use Rattle.ieee754.proofs.FloatUnits.{units_below_top}
use Rattle.ieee754.proofs.MinMaxLaws.{below_maximum_left, below_maximum_right, maximum_below, maximum_fits}
use Rattle.ieee754.proofs.NearDifferences.{zero_fits, near_ends, difference_at_most_an_end}
use Rattle.ieee754.proofs.RootBounds.{top}
use Rattle.ieee754.proofs.SignClear.{absolute_sign_clear, absolute_number, zero_below_clear}
use Rattle.ieee754.proofs.SumsAndSquares.{absolute_fits}

-- ---- the greatest gap
-- of p to lo .. hi on one axis, before it is squared (document 01, witness and boxes)
abbrev pub greatest_gap : Float → Float → Float → Float
greatest_gap p lo hi = maximum_of (absolute_of (sub binary64 p lo)) (absolute_of (sub binary64 hi p))

pub greatest_gap_fits : (p lo hi : Float) → T (fits binary64 (greatest_gap p lo hi))
greatest_gap_fits p lo hi = maximum_fits (absolute_of (sub binary64 p lo)) (absolute_of (sub binary64 hi p)) (absolute_fits (sub binary64 p lo) (sub-fits binary64 p lo)) (absolute_fits (sub binary64 hi p) (sub-fits binary64 hi p))

absolute_twice : (x : Float) → absolute_of (absolute_of x) ≡ absolute_of x
absolute_twice nan = refl
absolute_twice (inf s) = refl
absolute_twice (fin s m e) = refl

greatest_gap_absolute : (p lo hi : Float) → absolute_of (greatest_gap p lo hi) ≡ greatest_gap p lo hi
greatest_gap_absolute p lo hi = go (is_nan (absolute_of (sub binary64 p lo))) (lt (absolute_of (sub binary64 p lo)) (absolute_of (sub binary64 hi p)))
  where
    a : Float
    a = sub binary64 p lo

    b : Float
    b = sub binary64 hi p

    go : (p q : Bool) → absolute_of (cond p (absolute_of b) (cond q (absolute_of b) (absolute_of a))) ≡ cond p (absolute_of b) (cond q (absolute_of b) (absolute_of a))
    go true q = absolute_twice b
    go false true = absolute_twice b
    go false false = absolute_twice a

-- |p - x| is at most the greatest gap
pub difference_below_greatest_gap : (p x lo hi : Float) → T (fits binary64 p) → T (fits binary64 x) → T (fits binary64 lo) → T (fits binary64 hi) → Holds lo hi x → T (not (is_nan (sub binary64 p x)))
    → T (le (absolute_of (sub binary64 p x)) (greatest_gap p lo hi))
difference_below_greatest_gap p x lo hi fp fx fl fh i n =
    let d = absolute_of (sub binary64 p x) in
    let a = absolute_of (sub binary64 p lo) in
    let b = absolute_of (sub binary64 hi p) in
    let fd = absolute_fits (sub binary64 p x) (sub-fits binary64 p x) in
    let fa = absolute_fits (sub binary64 p lo) (sub-fits binary64 p lo) in
    let fb = absolute_fits (sub binary64 hi p) (sub-fits binary64 hi p) in
    let v = i (difference_number p x n).1 in
    elim (difference_at_most_an_end p x lo hi fp fx fl fh n v.0 v.1) [ inl h ↦ below_maximum_left d a b fd fa fb h | inr h ↦ below_maximum_right d a b fd fa fb h ]

-- the same, with the gap's absolute value
pub difference_below_greatest_gap_absolute : (p x lo hi : Float) → T (fits binary64 p) → T (fits binary64 x) → T (fits binary64 lo) → T (fits binary64 hi) → Holds lo hi x → T (not (is_nan (sub binary64 p x)))
    → T (le (absolute_of (sub binary64 p x)) (absolute_of (greatest_gap p lo hi)))
difference_below_greatest_gap_absolute p x lo hi fp fx fl fh i n = subst (λ (z : Float). T (le (absolute_of (sub binary64 p x)) z)) (sym (greatest_gap_absolute p lo hi)) (difference_below_greatest_gap p x lo hi fp fx fl fh i n)

-- ---- the least gap
-- of alo .. ahi to blo .. bhi on one axis, before it is squared (document 01, witness and boxes)
abbrev pub least_gap : Float → Float → Float → Float → Float
least_gap alo ahi blo bhi = maximum_of (maximum_of (sub binary64 alo bhi) (sub binary64 blo ahi)) positive_zero

pub zero_number : T (not (is_nan positive_zero))
unfolding is_nan
zero_number = tt

zero_rank : rank_of positive_zero ≡ top
unfolding units_of
zero_rank = refl

-- the larger of z and +0 is a number of at least +0
pub at_least_zero : (z : Float) → T (fits binary64 z) → T (not (is_nan (maximum_of z positive_zero))) × (top ≤ rank_of (maximum_of z positive_zero))
at_least_zero z f = go (is_nan z) refl (lt z positive_zero) refl
  where
    go : (p : Bool) → is_nan z ≡ p → (q : Bool) → lt z positive_zero ≡ q → T (not (is_nan (cond p positive_zero (cond q positive_zero z)))) × (top ≤ rank_of (cond p positive_zero (cond q positive_zero z)))
    go true e q l = (zero_number, le_of_eq (sym zero_rank))
    go false e true l = (zero_number, le_of_eq (sym zero_rank))
    go false e false l =
        let n : T (not (is_nan z)) = subst (λ (t : Bool). T (not t)) (sym e) tt in
        (n, le_trans (le_of_eq (sym zero_rank)) (le→rank positive_zero z zero_fits f (not_lt→le z positive_zero n zero_number f zero_fits l)))

pub absolute_rank : (g : Float) → T (not (is_nan g)) → T (fits binary64 g) → top ≤ rank_of g → rank_of (absolute_of g) ≡ rank_of g
absolute_rank nan n f h = absurd (unfold is_nan in n)
absolute_rank (inf true) n f h = absurd (none h)
  where
    none : top ≤ 0 → ⊥
    none k = not-le_of_lt (pow_pos 2098) k
absolute_rank (inf false) n f h = refl
absolute_rank (fin true m e) n f h = flat top (units_of (fin true m e)) (units_of (fin false m e)) (unfold units_of in refl) (units_below_top true m e f) h
  where
    flat : (M w v : ℕ) → v ≡ w → w < M → M ≤ M - w → M + v ≡ M - w
    flat M w v e l h = omega arith
absolute_rank (fin false m e) n f h = refl

pub least_gap_fits : (alo ahi blo bhi : Float) → T (fits binary64 (least_gap alo ahi blo bhi))
least_gap_fits alo ahi blo bhi = maximum_fits (maximum_of (sub binary64 alo bhi) (sub binary64 blo ahi)) positive_zero (maximum_fits (sub binary64 alo bhi) (sub binary64 blo ahi) (sub-fits binary64 alo bhi) (sub-fits binary64 blo ahi)) zero_fits

module _ (x y alo ahi blo bhi : Float) (fx : T (fits binary64 x)) (fy : T (fits binary64 y)) (fal : T (fits binary64 alo)) (fah : T (fits binary64 ahi)) (fbl : T (fits binary64 blo)) (fbh : T (fits binary64 bhi))
    (i : Holds alo ahi x) (j : Holds blo bhi y) (n : T (not (is_nan (sub binary64 x y)))) where
  abbrev d : Float
  d = sub binary64 x y

  abbrev a : Float
  a = sub binary64 alo bhi

  abbrev b : Float
  b = sub binary64 blo ahi

  n' : T (not (is_nan (sub binary64 y x)))
  n' = subst (λ (t : Bool). T (not t)) (difference_nan_either_way x y fx fy) n

  at_least : T (not (is_nan (least_gap alo ahi blo bhi))) × (top ≤ rank_of (least_gap alo ahi blo bhi))
  at_least = at_least_zero (maximum_of a b) (maximum_fits a b (sub-fits binary64 alo bhi) (sub-fits binary64 blo ahi))

  below_a : T (not (is_nan a)) → T (le a (absolute_of d))
  below_a p = near_ends alo bhi x y fal fbh fx fy p n (i (difference_number x y n).0).0 (j (difference_number x y n).1).1

  below_b : T (not (is_nan b)) → T (le b (absolute_of d))
  below_b p = subst (λ (w : Float). T (le b w)) (sym (difference_either_way x y fx fy)) (near_ends blo ahi y x fbl fah fy fx p n' (j (difference_number x y n).1).0 (i (difference_number x y n).0).1)

  -- the least gap is at most |x - y|
  pub least_gap_below_difference : T (le (least_gap alo ahi blo bhi) (absolute_of d))
  least_gap_below_difference =
      maximum_below (maximum_of a b) positive_zero (absolute_of d) (maximum_below a b (absolute_of d) below_a below_b)
      (λ p. zero_below_clear (pos 0) (absolute_of d) (absolute_sign_clear d n) zero_fits (absolute_fits d (sub-fits binary64 x y))) at_least.0

  -- the same, with the gap's absolute value
  pub least_gap_below_difference_absolute : T (le (absolute_of (least_gap alo ahi blo bhi)) (absolute_of d))
  least_gap_below_difference_absolute =
      let g = least_gap alo ahi blo bhi in
      let f = least_gap_fits alo ahi blo bhi in
      let fd = absolute_fits d (sub-fits binary64 x y) in
      subst T (sym (le_by_rank (absolute_of g) (absolute_of d) (absolute_number g at_least.0) (absolute_number d n) (absolute_fits g f) fd))
      (le→leb (rank_of (absolute_of g)) (rank_of (absolute_of d)) (le_trans (le_of_eq (absolute_rank g at_least.0 f at_least.1)) (le→rank g (absolute_of d) f fd least_gap_below_difference)))

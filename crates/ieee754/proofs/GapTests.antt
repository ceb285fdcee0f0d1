-- The greatest of two numbers and 0 by two tests: its square is that of the maxima. Assumes nothing.
use mathlib.Core.Bool.{Bool, true, false, not, cond, true≢false}
use mathlib.Core.Path.{◌≡◌, refl, sym, ap, ◌∙◌}
use native.Mathlib.Nat.{le_antisymm}
use lib.Dec.{T, eqb_refl}
use lib.Ieee.{Float, binary64, mul, lt, eq, is_nan, fits, of_bits}
use lib.Ieee.Bits.{is_true, is_false}
use Rattle.ieee754.specs.MinMax.{positive_zero, maximum_of}
use Rattle.ieee754.proofs.AxisGaps.{zero_number}
use Rattle.ieee754.proofs.NearDifferences.{zero_fits}
use Rattle.ieee754.proofs.FloatRanks.{rank_of, eq_by_rank}
use Rattle.ieee754.proofs.MinMaxLaws.{maximum_fits}
use Rattle.ieee754.proofs.FloatOrder.{le→rank, not_lt→le, lt→le, le→not_lt, le_transitive, lt_number_right, lt_transitive}
use Rattle.ieee754.proofs.MinMaxCases.{absolute_of_zero}
use Rattle.ieee754.proofs.SumsAndSquares.{square_of_absolute}

abbrev square : Float → Float
square x = mul binary64 x x

is_number : (b : Bool) → b ≡ false → T (not b)
is_number true e = absurd (true≢false e)
is_number false e = tt

-- a number above 0 is the greater one
positive_stays : (m : Float) → T (fits binary64 m) → lt positive_zero m ≡ true → maximum_of m positive_zero ≡ m
positive_stays m f h =
    let n = lt_number_right positive_zero m h in
    rw (is_false (is_nan m) n, le→not_lt m positive_zero f zero_fits (lt→le positive_zero m zero_number n zero_fits f h))

-- neither below nor above 0
a_zero : (m : Float) → T (fits binary64 m) → T (not (is_nan m)) → lt positive_zero m ≡ false → lt m positive_zero ≡ false → eq m (of_bits binary64 0) ≡ true
unfolding of_bits
a_zero m f n h k =
    let below = le→rank m positive_zero f zero_fits (not_lt→le positive_zero m zero_number n zero_fits f h) in
    let above = le→rank positive_zero m zero_fits f (not_lt→le m positive_zero n zero_number f zero_fits k) in
    let same : rank_of m ≡ rank_of positive_zero = le_antisymm below above in
    eq_by_rank m positive_zero n zero_number f zero_fits ∙ rw same (is_true _ (eqb_refl (rank_of positive_zero)))

-- one that is not gives 0 or a zero
naught_square : (m : Float) → T (fits binary64 m) → lt positive_zero m ≡ false → square positive_zero ≡ square (maximum_of m positive_zero)
unfolding of_bits
naught_square m f h = go (is_nan m) refl (lt m positive_zero) refl
  where
    go : (n : Bool) → is_nan m ≡ n → (l : Bool) → lt m positive_zero ≡ l → square positive_zero ≡ square (cond n positive_zero (cond l positive_zero m))
    go true e l k = refl
    go false e true k = refl
    go false e false k = ap square (absolute_of_zero m f (a_zero m f (is_number (is_nan m) e) h k)) ∙ sym (square_of_absolute m)

-- a number above 0 after a: the greater of both
second_greater : (a b : Float) → T (fits binary64 a) → T (fits binary64 b) → lt positive_zero a ≡ false → lt positive_zero b ≡ true → maximum_of a b ≡ b
second_greater a b f g h k = go (is_nan a) refl (lt a b) refl
  where
    go : (n : Bool) → is_nan a ≡ n → (l : Bool) → lt a b ≡ l → cond n b (cond l b a) ≡ b
    go true e l i = refl
    go false e true i = refl
    go false e false i =
        let n = is_number (is_nan a) e in
        let p = lt_number_right positive_zero b k in
        absurd (true≢false (sym k ∙ le→not_lt positive_zero b zero_fits g (le_transitive b a positive_zero g f zero_fits (not_lt→le a b n p f g i) (not_lt→le positive_zero a zero_number n zero_fits f h))))

-- neither above 0, nor the greater of both
neither_above : (a b : Float) → lt positive_zero a ≡ false → lt positive_zero b ≡ false → lt positive_zero (maximum_of a b) ≡ false
neither_above a b h k = go (is_nan a) (lt a b)
  where
    go : (n l : Bool) → lt positive_zero (cond n b (cond l b a)) ≡ false
    go true l = k
    go false true = k
    go false false = h

-- p and q: whether a is above 0, and whether b is above what that leaves
pub square_by_tests : (a b : Float) → T (fits binary64 a) → T (fits binary64 b) → (p q : Bool) → lt positive_zero a ≡ p → lt (cond p a positive_zero) b ≡ q
    → square (cond q b (cond p a positive_zero)) ≡ square (maximum_of (maximum_of a b) positive_zero)
square_by_tests a b f g true true h k =
    rw (is_false (is_nan a) (lt_number_right positive_zero a h), k, positive_stays b g (lt_transitive positive_zero a b zero_fits f g h k))
square_by_tests a b f g true false h k = rw (is_false (is_nan a) (lt_number_right positive_zero a h), k, positive_stays a f h)
square_by_tests a b f g false true h k = rw (second_greater a b f g h k, positive_stays b g k)
square_by_tests a b f g false false h k = naught_square (maximum_of a b) (maximum_fits a b f g) (neither_above a b h k)

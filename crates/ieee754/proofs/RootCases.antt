-- The cases of `root_of`, by the tests that the code makes. Assumes nothing.
use mathlib.Core.Bool.{Bool, true, false, cond, ◌&&◌, ◌||◌, beq, true≢false}
use mathlib.Core.Path.{◌≡◌, refl, sym, ap, ◌∙◌, subst}
use Prim.Native.Nat.{ℕ, zero, suc, ◌+◌, ◌*◌, ◌<◌}
use native.Mathlib.Nat.{mul-pos, zero-lt-suc}
use native.Mathlib.Omega.{arith}
use lib.Dec.{T, ltb, eqb, lt→ltb, eqb→eq}
use lib.Ieee.{Float, nan, inf, fin, binary64, up, down, lt, eq, fits, of_bits, to_bits}
use lib.Ieee.Bits.{is_true}
use lib.Ieee.Fits.{up_pos, and_l}
use lib.Ieee.Positive.{positive}
use lib.IntN.{ℤ}
use Rattle.ieee754.specs.Root.{units_of, root_of}
use Rattle.ieee754.specs.InnerRoot.{units_of_pattern, root_pattern, PositiveFinite}
use Rattle.ieee754.proofs.FloatOrder.{le_number_right_test}
use Rattle.ieee754.proofs.PatternValues.{units_of_float, positive_finite_pattern, finite_pattern_no_nan}

pub root_of_positive : (s : Float) → T (positive s) → of_bits binary64 (root_pattern (units_of s)) ≡ root_of s
unfolding root_of
root_of_positive (fin true m e) p = absurd p
root_of_positive (fin false zero e) p = absurd p
root_of_positive (fin false (suc m) e) p = refl
root_of_positive nan p = elim p [ ]
root_of_positive (inf _) p = elim p [ ]

root_of_positive_pattern : (s : Float) → T (fits binary64 s) → T (positive s) → of_bits binary64 (root_pattern (units_of_pattern (to_bits binary64 s))) ≡ root_of s
root_of_positive_pattern s f p = ap (λ (z : ℕ). of_bits binary64 (root_pattern z)) (sym (units_of_float s f p)) ∙ root_of_positive s p

pub naught : (k : ℕ) → 0 * k ≡ 0
naught k = omega arith

pub not_zero : (s : Bool) (m : ℕ) (e : ℤ) → eq (fin s (suc m) e) (of_bits binary64 0) ≡ true → ⊥
unfolding eq of_bits
not_zero s m e h = clash (suc m * up e) (0 * down e) (mul-pos (zero-lt-suc m) (up_pos e)) (naught (down e)) (eqb→eq (suc m * up e * 1) (0 * down e) (and_l (eqb (suc m * up e * 1) (0 * down e)) (beq s false || eqb (suc m * up e * 1) 0) (subst T (sym h) tt)))
  where
    clash : (a b : ℕ) → 0 < a → b ≡ 0 → a * 1 ≡ b → ⊥
    clash a b h k e = omega arith

pub more_than_zero : (a b : ℕ) → 0 < a → 0 < a * 1 + b
more_than_zero a b h = omega arith

-- of what is not above 0 and finite: below 0 the NaN, else the number itself
pub root_of_other : (s : Float) → positive s ≡ false → root_of s ≡ cond (lt s (of_bits binary64 0)) nan s
unfolding lt of_bits root_of
root_of_other nan p = refl
root_of_other (inf true) p = refl
root_of_other (inf false) p = refl
root_of_other (fin true zero e) p = rw (naught (up e), naught (down e))
root_of_other (fin true (suc m) e) p = sym (ap (λ (t : Bool). cond t nan (fin true (suc m) e)) (is_true (ltb 0 (suc m * up e * 1 + 0 * down e)) (lt→ltb 0 (suc m * up e * 1 + 0 * down e) (more_than_zero (suc m * up e) (0 * down e) (mul-pos (zero-lt-suc m) (up_pos e))))))
root_of_other (fin false zero e) p = rw (naught (up e), naught (down e))
root_of_other (fin false (suc m) e) p = absurd (true≢false (sym (is_true (ltb 0 (suc m)) (lt→ltb 0 (suc m) (zero-lt-suc m))) ∙ p))

-- above 0 and below infinity is positive and finite
pub positive_by_tests : (s : Float) → positive s ≡ (lt (of_bits binary64 0) s && lt s (of_bits binary64 0x7ff0_0000_0000_0000))
unfolding lt of_bits
positive_by_tests nan = refl
positive_by_tests (inf true) = refl
positive_by_tests (inf false) = refl
positive_by_tests (fin true m e) = refl
positive_by_tests (fin false zero e) = rw (naught (down e), naught (up e))
positive_by_tests (fin false (suc m) e) =
    is_true (ltb 0 (suc m)) (lt→ltb 0 (suc m) (zero-lt-suc m))
    ∙ sym (ap (λ (t : Bool). t && true) (is_true (ltb (0 * down e) (suc m * up e * 1)) (lt→ltb (0 * down e) (suc m * up e * 1) (omega (arith, naught (down e), mul-pos (zero-lt-suc m) (up_pos e))))))

-- a number that passes both tests
pub positive_from_tests : (s : Float) → lt (of_bits binary64 0) s ≡ true → lt s (of_bits binary64 0x7ff0_0000_0000_0000) ≡ true → T (positive s)
positive_from_tests s h k = rw (positive_by_tests s, h, k) tt

pub pattern_from_tests : (s : Float) → fits binary64 s ≡ true → lt (of_bits binary64 0) s ≡ true → lt s (of_bits binary64 0x7ff0_0000_0000_0000) ≡ true → PositiveFinite (to_bits binary64 s)
pattern_from_tests s f h k = positive_finite_pattern s (subst T (sym f) tt) (positive_from_tests s h k)

-- what `guess_root` needs: its radicand's pattern is finite, and what is at least 1 is no NaN
pub ruleset guesses = (finite_pattern_no_nan, le_number_right_test)

-- what `root` needs: two tests find a positive finite number, and the pattern of its root is finite
pub ruleset finds = (pattern_from_tests, finite_pattern_no_nan)

pub root_from_tests : (s : Float) → fits binary64 s ≡ true → lt (of_bits binary64 0) s ≡ true → lt s (of_bits binary64 0x7ff0_0000_0000_0000) ≡ true → of_bits binary64 (root_pattern (units_of_pattern (to_bits binary64 s))) ≡ root_of s
root_from_tests s f h k = root_of_positive_pattern s (subst T (sym f) tt) (positive_from_tests s h k)

-- Rounding to the nearest multiple of a unit is within half a unit; and the square of a root, so rounded. Assumes nothing.
use mathlib.Core.Bool.{not}
use mathlib.Core.Path.{◌≡◌, subst}
use Prim.Native.Nat.{ℕ, zero, suc, ◌+◌, ◌-◌, ◌*◌, ◌/◌, ◌%◌, ◌^◌, ◌≤◌, ◌<◌, compare, Ordering}
use native.Mathlib.Nat.{le_trans, le_of_eq, le_antisymm, lt_of_not-le, le_of_suc-le-suc, mul_comm, mul_assoc, add-mul, suc-mul, mul-le-mul_right, div-add-mod', mod-lt, mul-pos, lt_of_mul-lt-mul_left}
use native.Mathlib.Omega.{arith}
use lib.Arith.{lt_of_le-ne}
use lib.Dec.{T, is_le, compare_is_eq, eqb, leb→le, nleb→lt, eqb→eq, eqb_refl}
use lib.Ieee.{nearest}
use lib.Ieee.Nearest.{closest}

abbrev Cmp : Ordering → ℕ → ℕ → Type 0
Cmp Ordering.lt a b = a < b
Cmp Ordering.eq a b = a ≡ b
Cmp Ordering.gt a b = b < a

cmp : (a b : ℕ) → Cmp (compare a b) a b
cmp a b = go (compare a b) (leb→le a b) (nleb→lt a b) (eqb→eq a b) (λ (e : a ≡ b). subst (λ (x : ℕ). T (eqb a x)) e (eqb_refl a))
  where
    go : (o : Ordering) → (T (is_le o) → a ≤ b) → (T (not (is_le o)) → b < a) → (T (compare_is_eq o) → a ≡ b) → (a ≡ b → T (compare_is_eq o)) → Cmp o a b
    go Ordering.lt h k e n = lt_of_le-ne (h tt) n
    go Ordering.eq h k e n = e tt
    go Ordering.gt h k e n = k tt

-- W is within half of u of n
abbrev pub Half : ℕ → ℕ → ℕ → Type 0
Half W n u = (2 * n ≤ 2 * W + u) × (2 * W ≤ 2 * n + u)

half_of : (w r u n : ℕ) (o : Ordering) → Cmp o (r * 2) u → r < u → w * u + r ≡ n → Half (nearest w o * u) n u
half_of w r u n Ordering.lt c l e = (omega arith, omega arith)
half_of w r u n Ordering.gt c l e = let s : suc w * u ≡ w * u + u = suc-mul w u in (omega arith, omega arith)
half_of w r u n Ordering.eq c l e = go (w % 2) (bit w)
  where
    bit : (w : ℕ) → w % 2 < 2
    bit w = omega arith

    go : (b : ℕ) → b < 2 → Half ((w + b) * u) n u
    go zero k = let s : (w + 0) * u ≡ w * u + 0 * u = add-mul w 0 u in (omega arith, omega arith)
    go (suc zero) k = let s : (w + 1) * u ≡ w * u + 1 * u = add-mul w 1 u in (omega arith, omega arith)
    go (suc (suc b)) k = absurd (no b k)
      where
        no : (b : ℕ) → suc (suc b) < 2 → ⊥
        no b k = omega arith

pub closest_half : (n u : ℕ) → 0 < u → Half (closest n u * u) n u
closest_half n u h = half_of (n / u) (n % u) u n (compare (n % u * 2) u) (cmp (n % u * 2) u) (mod-lt n h) (div-add-mod' n u)

-- a multiple of u that is nearer than half is the one
pub only : (a b u : ℕ) → 0 < u → 2 * (a * u) < 2 * (b * u) + u + u → a ≤ b
only a b u h l = le_of_suc-le-suc (lt_of_not-le (λ (g : suc b ≤ a). clash (mul-le-mul_right u g)))
  where
    clash : suc b * u ≤ a * u → ⊥
    clash k = omega (arith, suc-mul b u)

pub closest_at : (n u S : ℕ) → 0 < u → 2 * n < 2 * (S * u) + u → 2 * (S * u) < 2 * n + u → closest n u ≡ S
closest_at n u S h lo hi =
    let e = closest_half n u h in
    le_antisymm (only (closest n u) S u h (omega arith)) (only S (closest n u) u h (omega arith))

-- an exact multiple stays
pub closest_exact : (n u j : ℕ) → 0 < u → n ≡ j * u → closest n u ≡ j
closest_exact n u j h e = closest_at n u j h (omega arith) (omega arith)

-- ---- the square of q * P, rounded to W with a unit U, between the squares half way to its neighbours
pub between : (q P U W : ℕ) → 2 ^ 52 ≤ q → q < 2 ^ 53 → 0 < P → U * 2 ^ 52 ≤ q * q * (P * P) → Half W (q * q * (P * P)) U
    → (4 * (q * q * (P * P)) + P * P < 4 * W + 4 * (q * (P * P))) × (4 * W < 4 * (q * q * (P * P)) + 4 * (q * (P * P)) + P * P)
between q P U W lo hi p u h =
    let C = P * P in
    let c : 0 < C = mul-pos p p in
    let a : q * q * C ≤ (2 ^ 53 - 1) * (q * C) = le_trans (le_of_eq (mul_assoc q q C)) (mul-le-mul_right (q * C) (omega arith)) in
    let b : 2 ^ 52 * C ≤ q * C = mul-le-mul_right C lo in
    let k : 2 * U + C < 4 * (q * C) = room (q * C) C U c (le_trans u a) b in
    (lower (q * q * C) (q * C) C U W k h.0, upper (q * q * C) (q * C) C U W k h.1)
  where
    room : (B C U : ℕ) → 0 < C → U * 2 ^ 52 ≤ (2 ^ 53 - 1) * B → 2 ^ 52 * C ≤ B → 2 * U + C < 4 * B
    room B C U c u b = lt_of_mul-lt-mul_left (2 ^ 52) (scaled (le_trans (le_of_eq (mul_comm (2 ^ 52) U)) u))
      where
        scaled : 2 ^ 52 * U ≤ (2 ^ 53 - 1) * B → 2 ^ 52 * (2 * U + C) < 2 ^ 52 * (4 * B)
        scaled v = omega arith

    lower : (A B C U W : ℕ) → 2 * U + C < 4 * B → 2 * A ≤ 2 * W + U → 4 * A + C < 4 * W + 4 * B
    lower A B C U W k h = omega arith

    upper : (A B C U W : ℕ) → 2 * U + C < 4 * B → 2 * W ≤ 2 * A + U → 4 * W < 4 * A + 4 * B + C
    upper A B C U W k h = omega arith

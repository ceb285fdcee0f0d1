-- How many binary digits of a root are needed so that their square is exact (document 02, 2/13). Definitions only.
use Rattle.std.specs.Prelude.{Bool, cond, ℕ, zero, suc, ◌-◌, ◌*◌, ◌/◌, ◌^◌, eqb, Float}
use Rattle.std.specs.Float.Ieee.{size}
use Rattle.std.specs.Float.Ieee.Positive.{positive}
use Rattle.ieee754.specs.Root.{units_of, square, root_of}

-- document 02, 2/13: a number's first k binary digits, from its first 1, with zeros for the digits after them
unfoldable pub leading_digits : ℕ → ℕ → ℕ
leading_digits k n = n / 2 ^ (size n - k) * 2 ^ (size n - k)

-- document 02, 2/13: whether the square of the root's first k digits is s, exactly. In units of 2 ^ -1074, so that s, which is not squared, has one factor 2 ^ 1074 more
unfoldable pub enough_digits : Float → ℕ → Bool
enough_digits s k = eqb (square (leading_digits k (units_of (root_of s)))) (units_of s * 2 ^ 1074)

-- the first of k, k + 1, .., k + n - 1 that passes a test, else k + n
unfoldable pub first_from : (ℕ → Bool) → ℕ → ℕ → ℕ
first_from test zero k = k
first_from test (suc n) k = cond (test k) k (first_from test n (suc k))

-- document 02, 2/13: for positive finite s the fewest of 1 to 52 digits that are enough, 53 if none; for other s 0
unfoldable pub digits_needed : Float → ℕ
digits_needed s = cond (positive s) (first_from (enough_digits s) 52 1) 0

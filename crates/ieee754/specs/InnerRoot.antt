-- How the root is searched for among bit patterns, by which `root_of` is a function, and what the steps of the code give, for inner contracts. Of the root itself `IsRoot` says all. Definitions only.
use Rattle.std.specs.Prelude.{◌≡◌, Bool, cond, Some, None, ◌&&◌, ℕ, zero, suc, ◌+◌, ◌-◌, ◌*◌, ◌/◌, ◌%◌, ◌^◌, ◌≤◌, ◌<◌, leb, ltb}
use Rattle.std.specs.declared.option.Option.{Option}

-- ---- the search

-- IEEE 754, binary64: the value of an exponent field and a fraction field, in units of 2 ^ -1074
abbrev pub units_of_fields : ℕ → ℕ → ℕ
units_of_fields zero t = t
units_of_fields (suc x) t = (2 ^ 52 + t) * 2 ^ x

-- IEEE 754, binary64: the value of a bit pattern with the sign bit clear, in units of 2 ^ -1074
unfoldable pub units_of_pattern : ℕ → ℕ
units_of_pattern b = units_of_fields (b / 2 ^ 52) (b % 2 ^ 52)

-- r⁻ + r for the number r of pattern b
abbrev pub units_with_below : ℕ → ℕ
units_with_below b = units_of_pattern (b - 1) + units_of_pattern b

-- whether (r⁻ + r)² < n for that number
unfoldable pub lower_holds : ℕ → ℕ → Bool
lower_holds n b = ltb (units_with_below b * units_with_below b) n

-- the greatest pattern from b to b + 2 ^ digits - 1 of which `lower_holds` is true, found digit by digit
unfoldable pub greatest_pattern : ℕ → ℕ → ℕ → ℕ
greatest_pattern n zero b = b
greatest_pattern n (suc digits) b = greatest_pattern n digits (cond (lower_holds n (b + 2 ^ digits)) (b + 2 ^ digits) b)

-- the pattern of the root of a number of that many units: the greatest r with (r⁻ + r)² < 4s
unfoldable pub root_pattern : ℕ → ℕ
root_pattern units = greatest_pattern (4 * (units * 2 ^ 1074)) 63 0

-- ---- what the steps of the code give

-- the pattern of a positive finite number (IEEE 754, binary64)
pub record PositiveFinite (b : ℕ) : Type 0 where
  pub above : 0 < b
  pub below : b < 9218868437227405312

-- that number is m * 2 ^ w / 2 ^ 52 units, m of 53 binary digits (subnormal numbers too)
pub record Normalized (b m w : ℕ) : Type 0 where
  pub low : 2 ^ 52 ≤ m
  pub high : m < 2 ^ 53
  pub span : w ≤ 2097
  pub same : units_of_pattern b * 2 ^ 52 ≡ m * 2 ^ w

-- that number is, in units of 2 ^ -2148, m * 2 ^ 52 times the square of 2 ^ c: m is `Normalized`'s, or twice it where w is odd
pub record EvenExponent (b m c : ℕ) : Type 0 where
  pub low : 2 ^ 52 ≤ m
  pub high : m < 2 ^ 54
  pub span : c ≤ 1600
  pub same : 4 * (units_of_pattern b * 2 ^ 1074) ≡ 4 * (m * 2 ^ 52) * (2 ^ c * 2 ^ c)

-- the whole root of m * 2 ^ 52 in binary digits, and the remainder
pub record RootDigits (m digits remainder : ℕ) : Type 0 where
  pub adds : digits * digits + remainder ≡ m * 2 ^ 52
  pub close : remainder ≤ 2 * digits
  pub small : digits < 2 ^ 53

-- a number of 53 binary digits cut to its first k, with zeros for the others
abbrev pub first_digits : ℕ → ℕ → ℕ
first_digits k digits = digits / 2 ^ (53 - k) * 2 ^ (53 - k)

-- the turns of the digit loop: the fewest first digits of the integer root whose square is m * 2 ^ 52, 53 if there are none
pub record DigitTurns (m digits turns : ℕ) : Type 0 where
  pub most : turns ≤ 53
  pub exact : turns < 53 → first_digits turns digits * first_digits turns digits ≡ m * 2 ^ 52
  pub fewest : (k : ℕ) → k < turns → first_digits k digits * first_digits k digits ≡ m * 2 ^ 52 → ⊥

-- whether q is that whole root
unfoldable pub is_integer_root : ℕ → ℕ → Bool
is_integer_root m q = leb (q * q) (m * 2 ^ 52) && leb (m * 2 ^ 52) (q * q + 2 * q)

-- the trial of q: the remainder, if q is that whole root
unfoldable pub trial_of : ℕ → ℕ → Option ℕ
trial_of m q = cond (is_integer_root m q) (Some (m * 2 ^ 52 - q * q)) None

-- an integer root rounded to the nearest: up exactly if the remainder is above it, since (n + 1/2)² is n² + n + 1/4
unfoldable pub rounded_root : ℕ → ℕ → ℕ
rounded_root digits remainder = cond (ltb digits remainder) (digits + 1) digits

-- Minimum, maximum, clamp and absolute value of binary64 numbers. Definitions only.
use Rattle.std.specs.Prelude.{false, cond, pos, Float}
use Rattle.std.specs.Float.{nan, inf, fin}
use Rattle.std.specs.Float.Ieee.{lt, is_nan}

-- +0 (IEEE 754)
abbrev pub positive_zero : Float
positive_zero = fin false 0 (pos 0)

-- 1 (IEEE 754)
abbrev pub one : Float
one = fin false 1 (pos 0)

-- document 01, root and float helpers: a NaN operand is dropped if the other is a number; of equal operands the first
abbrev pub minimum_of : Float → Float → Float
minimum_of a b = cond (is_nan a) b (cond (lt b a) b a)

-- document 01, root and float helpers: by the same rule
abbrev pub maximum_of : Float → Float → Float
maximum_of a b = cond (is_nan a) b (cond (lt a b) b a)

-- document 01, root and float helpers: below 0 gives 0, above 1 gives 1, else itself (NaN and -0 too)
abbrev pub clamp_of : Float → Float
clamp_of x = cond (lt x positive_zero) positive_zero (cond (lt one x) one x)

-- IEEE 754, abs: the sign bit is cleared
abbrev pub absolute_of : Float → Float
absolute_of nan = nan
absolute_of (inf s) = inf false
absolute_of (fin s m e) = fin false m e

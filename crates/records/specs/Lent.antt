-- What lent memory holds after a call, beside what a record says that it holds. From the layouts in tools/joins,
-- tools/jobs and crates/replay/data. By value, any pattern of a NaN is the NaN; by pattern, which the test programs ask
-- for, one alone is.
use Rattle.std.specs.Prelude.{ℕ, Bool, true, ◌==◌, ◌&&◌, List, [], ◌∷◌, length, take, drop, replicate, slice_index, nat_le, nat_eq, if◌then◌else◌}
use Rattle.std.specs.Float.{binary64}
use Rattle.std.specs.Float.Ieee.{Float, to_bits}
use Rattle.fields.specs.Fields.{u32_at, u64_at, f64_at}
use Rattle.records.specs.declared.lent.TheConstants.{FLOAT_MARK, NUMBER_MARK}

module _ {T : Type 0} (mark : T) (size : ℕ) (value : List ℕ → T) where
  -- the number that bytes begin with, and the mark where they hold none
  abbrev pub first_or_mark : List ℕ → T
  first_or_mark s = if nat_le size (length s) then value (take size s) else mark

module _ {T : Type 0} (is : T → T → Bool) (mark : T) (size : ℕ) (value : List ℕ → T) where
  -- whether memory begins with the numbers of these bytes, and keeps its marks after them
  abbrev pub holds_of : List T → List ℕ → Bool
  holds_of [] s = nat_eq (length s) 0
  holds_of (x ∷ xs) s = is x (first_or_mark mark size value s) && holds_of xs (drop size s)

module _ {T : Type 0} (is : T → T → Bool) (is_at : T → List ℕ → Bool) (mark : T) (size : ℕ) where
  -- whether bytes begin with a number; where they hold none, whether it is the mark
  abbrev pub is_next : T → List ℕ → Bool
  is_next x s = if nat_le size (length s) then is_at x (take size s) else is x mark

  -- the same by pattern
  abbrev pub holds_by_pattern : List T → List ℕ → Bool
  holds_by_pattern [] s = nat_eq (length s) 0
  holds_by_pattern (x ∷ xs) s = is_next x s && holds_by_pattern xs (drop size s)

-- whether floats are the same: by their patterns, every NaN by one
abbrev pub same_float : Float → Float → Bool
same_float x y = to_bits binary64 x == to_bits binary64 y

-- whether bytes begin with a float's pattern: of a NaN one alone stands in a record
abbrev pub pattern_at : Float → List ℕ → Bool
pattern_at x s = to_bits binary64 x == u64_at true s 0

-- a workspace's floats, and its numbers
abbrev pub floats_hold : List Float → List ℕ → Bool
floats_hold = holds_of same_float FLOAT_MARK 8 (λ s. f64_at true s 0)

abbrev pub floats_hold_by_pattern : List Float → List ℕ → Bool
floats_hold_by_pattern = holds_by_pattern same_float pattern_at FLOAT_MARK 8

abbrev pub numbers_hold : List ℕ → List ℕ → Bool
numbers_hold = holds_of (λ x y. x == y) NUMBER_MARK 4 (λ s. u32_at true s 0)

abbrev pub numbers_hold_by_pattern : List ℕ → List ℕ → Bool
numbers_hold_by_pattern = holds_by_pattern (λ x y. x == y) (λ x s. x == u32_at true s 0) NUMBER_MARK 4

-- an output's bytes
abbrev pub bytes_hold : List ℕ → List ℕ → Bool
bytes_hold = holds_of (λ x y. x == y) 165 1 (λ s. slice_index s 0)

abbrev pub bytes_hold_by_pattern : List ℕ → List ℕ → Bool
bytes_hold_by_pattern = holds_by_pattern (λ x y. x == y) (λ x s. x == slice_index s 0) 165 1

-- so many marks
abbrev pub floats_lent : ℕ → List Float
floats_lent n = replicate n FLOAT_MARK

abbrev pub numbers_lent : ℕ → List ℕ
numbers_lent n = replicate n NUMBER_MARK

abbrev pub bytes_lent : ℕ → List ℕ
bytes_lent n = replicate n 165

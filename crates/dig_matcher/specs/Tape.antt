-- A tape of one-byte commands with little-endian operands of fixed width (document 02, 5/13). Definitions only.
use Rattle.std.specs.Prelude.{ℕ, ◌+◌, Bool, true, false, cond, ltb, eqb, length, get_or, drop, Float}
use mathlib.Core.List.{List, [], ◌∷◌, ◌++◌, foldl}
use Rattle.std.specs.Prelude.{Option, None, Some}
use Rattle.fields.specs.Fields.{u32_at, f64_at}

-- ---- commands

-- 01 loads a blob under a number, 02 sets the tolerance, 03 matches the blobs of two numbers
pub data Command : Type 0 where
  load : ℕ → List ℕ → Command
  tolerance : Float → Command
  pair : ℕ → ℕ → Command

-- 04: end
abbrev pub is_end : List ℕ → Bool
is_end part = eqb (get_or part 0 0) 4

-- how many bytes a command has, the command byte included, as far as its first bytes tell: 01 u8 u32 and as many bytes as that says, 02 and a float,
-- 03 u8 u8; none: the first byte is none of these (04 is tested before)
unfoldable pub command_bytes : List ℕ → Option ℕ
command_bytes part =
    cond (eqb (get_or part 0 0) 1) (Some (cond (ltb (length part) 6) 6 (6 + u32_at true part 2)))
    (cond (eqb (get_or part 0 0) 2) (Some 9)
    (cond (eqb (get_or part 0 0) 3) (Some 3) None))

-- the command, by all its bytes, whose number `command_bytes` gave
unfoldable pub command_of : List ℕ → Command
command_of part =
    cond (eqb (get_or part 0 0) 1) (load (get_or part 1 0) (drop 6 part))
    (cond (eqb (get_or part 0 0) 2) (tolerance (f64_at true part 1))
    (pair (get_or part 1 0) (get_or part 2 0)))

-- ---- a tape, byte by byte

-- the commands so far: with the first bytes of the next, or up to 04, or up to a byte that is no command
pub data Reading : Type 0 where
  unfinished : List Command → List ℕ → Reading
  ended : List Command → Reading
  unknown : List Command → Reading

-- with the bytes of the next command so far, which has so many
unfoldable pub read_on : List Command → List ℕ → Option ℕ → Reading
read_on cs part None = unknown cs
read_on cs part (Some n) = cond (ltb (length part) n) (unfinished cs part) (unfinished (cs ++ (command_of part ∷ [])) [])

-- one byte more; after 04 "bytes after it are ignored"
unfoldable pub feed : Reading → ℕ → Reading
feed (unfinished cs part) byte = cond (is_end (part ++ (byte ∷ []))) (ended cs) (read_on cs (part ++ (byte ∷ [])) (command_bytes (part ++ (byte ∷ []))))
feed (ended cs) byte = ended cs
feed (unknown cs) byte = unknown cs

unfoldable pub tape_of : List ℕ → Reading
tape_of s = foldl feed (unfinished [] []) s

-- the commands before 04, or before where the tape breaks
unfoldable pub commands_of : Reading → List Command
commands_of (unfinished cs part) = cs
commands_of (ended cs) = cs
commands_of (unknown cs) = cs

-- 20: "an unknown command, or a tape that ends before 04 or inside a command"
unfoldable pub is_broken : Reading → Bool
is_broken (unfinished cs part) = true
is_broken (ended cs) = false
is_broken (unknown cs) = true

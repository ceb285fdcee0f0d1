-- A cursor over a surface's blob (document 01, Patches): its blob, its next patch, and the patch before which it stands. Definitions only.
use Rattle.std.specs.Prelude.{ℕ, List}
use Rattle.surface.specs.Patches.{Patch, patch_of, bytes_of, next_of, Before}
use Rattle.surface.specs.declared.Cursor.{Cursor}

-- the next patch, and patch n
abbrev pub next_by : Cursor → Patch
next_by c = next_of c.blob.now c.at c.left

abbrev pub patch_by : Cursor → ℕ → Patch
patch_by c n = patch_of c.blob.now n

-- the bytes of one of these
abbrev pub bytes_by : Cursor → Patch → List ℕ
bytes_by c p = bytes_of c.blob.now p

abbrev pub StandsBefore : Cursor → ℕ → Type 0
StandsBefore c n = Before c.blob.now c.at c.left n

-- How long a joined blob is. Assumes nothing.
use mathlib.Core.Path.{◌≡◌}
use mathlib.Core.List.{List}
use Prim.Native.Nat.{ℕ, ◌+◌}
use native.Mathlib.Omega.{arith}
use lib.ListN.{length, length-append}
use Rattle.fields.specs.Fields.{bytes_of_u32}
use Rattle.gpb.specs.Written.{header_bytes}
use Rattle.joining.specs.Joined.{own_bytes, joined_blob}

-- 13 bytes of header, 4 of the count, and both geometries' own
pub joined_size : (a b : List ℕ) → length (joined_blob a b) ≡ 17 + (length (own_bytes a) + length (own_bytes b))
unfolding joined_blob header_bytes bytes_of_u32
joined_size a b = simp length-append (omega arith)

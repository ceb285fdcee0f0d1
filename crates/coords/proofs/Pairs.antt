-- A collection of two: how a little-endian header of type 1007 and count 2 before two geometries is walked. Assumes nothing.
use mathlib.Core.Path.{◌≡◌}
use mathlib.Core.Bool.{true, false}
use mathlib.Core.List.{List}
use Prim.Native.Nat.{ℕ, suc, ◌+◌, ◌≤◌}
use native.Mathlib.Omega.{arith}
use lib.ListN.{length, get_or}
use borrow.Author.Tests.{le-ltb}
use Rattle.fields.specs.Fields.{u32_at}
use Rattle.std.specs.Prelude.{Ok}
use Rattle.coords.specs.Walk.{Geometry, geometry, members, no_members, one_more, ok, map_parsed, z_of, m_of, header_of_type, header_at, times, list_at, geometry_class_of, content_of, geometry_from, walk_of}

module _ (s : List ℕ) (p : ℕ) (order : get_or s p 0 ≡ 1) (type : u32_at true s (p + 1) ≡ 1007) where
  pair_header : p + 5 ≤ length s → header_at s p ≡ Ok (record { little = true; z = true; m = false; kind = 7; body = p + 5 })
  unfolding header_at header_of_type z_of m_of
  pair_header l = rw (le-ltb (length s) (p + 5) l, order, type)

  -- End theorem: it is read as a collection of the two, to the end of the second.
  pub pair_walk : (levels next end : ℕ) (g g' : Geometry) → p + 9 ≤ length s → u32_at true s (p + 5) ≡ 2 → walk_of levels s (p + 9) ≡ ok g next → walk_of levels s next ≡ ok g' end → walk_of (suc levels) s p ≡ ok (geometry 7 true false (members (one_more g (one_more g' no_members)))) end
  unfolding walk_of geometry_from content_of geometry_class_of map_parsed list_at times
  pair_walk levels next end g g' l count first second =
      let at : p + 5 + 4 ≡ p + 9 = omega arith in
      let room : p + 5 + 4 ≤ length s = omega arith in
      rw (pair_header (omega arith), le-ltb (length s) (p + 5 + 4) room, count, at, first, second)

-- Worked examples of the walk, computed by the checker: the last level that is read, and a flag that the thousands overrule. Assumes nothing.
use mathlib.Core.Path.{◌≡◌, refl}
use mathlib.Core.List.{List, [], ◌∷◌, ◌++◌}
use mathlib.Core.Bool.{true, false}
use Prim.Native.Nat.{ℕ, zero, suc}
use lib.ListN.{replicate}
use Rattle.fields.specs.Fields.{u32_at, u64_at}
use Rattle.refusals.specs.declared.Reason.TheVariants.{TooManyLevels}
use Rattle.coords.specs.Walk.{Geometry, geometry, point, line, members, no_members, one_more, ok, refused, map_parsed, z_of, m_of, header_of_type, header_at, stride_of, ordinate_if, m_offset, coordinate_at, coordinates_from, point_at, coordinates_at, line_at, times, list_at, geometry_class_of, content_of, geometry_from, walk_of, all_levels}

-- n collections of one member, big-endian, one in the other, and in the last an empty line
unfoldable pub nested : ℕ → List ℕ
nested zero = 1 ∷ 2 ∷ 0 ∷ 0 ∷ 0 ∷ 0 ∷ 0 ∷ 0 ∷ 0 ∷ []
nested (suc n) = 0 ∷ 0 ∷ 0 ∷ 3 ∷ 0xef ∷ 0 ∷ 0 ∷ 0 ∷ 1 ∷ nested n

unfoldable pub nested_tree : ℕ → Geometry
nested_tree zero = geometry 2 false false (line [])
nested_tree (suc n) = geometry 7 true false (members (one_more (nested_tree n) no_members))

-- End theorems: level 32 is read, level 33 is refused with 12, and 2001 with the Z flag is XYM.
pub level_32_is_read : walk_of all_levels (nested 32) 0 ≡ ok (nested_tree 32) 297
unfolding nested nested_tree u32_at map_parsed z_of m_of header_of_type header_at stride_of coordinates_from coordinates_at line_at times list_at geometry_class_of content_of geometry_from walk_of
level_32_is_read = refl

pub level_33_is_refused : walk_of all_levels (nested 33) 0 ≡ refused TooManyLevels
unfolding nested u32_at map_parsed z_of m_of header_of_type header_at times list_at geometry_class_of content_of geometry_from walk_of
level_33_is_refused = refl

-- type 80000000 hexadecimal + 2001, then x, y and an m of pattern 7
unfoldable pub flagged : List ℕ
flagged = (1 ∷ 0xd1 ∷ 7 ∷ 0 ∷ 0x80 ∷ replicate 16 0) ++ (7 ∷ replicate 7 0)

pub flagged_2001_is_xym : walk_of all_levels flagged 0 ≡ ok (geometry 1 false true (point (record { x = 0; y = 0; z = 0; m = 7 }))) 29
unfolding flagged u32_at u64_at map_parsed z_of m_of header_of_type header_at stride_of ordinate_if m_offset coordinate_at point_at geometry_class_of content_of geometry_from walk_of
flagged_2001_is_xym = refl

-- The levels of a geometry (document 01, Walk: "each member is read by the same rule, one level deeper; the top is level 0"). Definitions only.
use Rattle.std.specs.Prelude.{ℕ, suc, max}
use Rattle.coords.specs.Walk.{Geometry, geometry, Content, point, line, rings, members, Members, no_members, one_more}

unfoldable mutual
  -- the deepest level in a geometry, which is itself at level 0
  pub deepest_level : Geometry → ℕ
  deepest_level (geometry kind z m content) = content_level content

  pub content_level : Content → ℕ
  content_level (point c) = 0
  content_level (line cs) = 0
  content_level (rings rs) = 0
  content_level (members gs) = members_level gs

  -- of a collection's members; without any, the collection's own level
  pub members_level : Members → ℕ
  members_level no_members = 0
  members_level (one_more g gs) = max (suc (deepest_level g)) (members_level gs)

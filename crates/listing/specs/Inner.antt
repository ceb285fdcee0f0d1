-- A box that grows. Serves inner contracts. Definitions only.
use Rattle.std.specs.Prelude.{Some, None}
use Rattle.std.specs.declared.option.Option.{Option}
use Rattle.primitives.specs.declared.Aabb.{Aabb}
use Rattle.primitives.specs.Boxes.{union_of}

-- the box of some items, if there is one, with one more box in it
abbrev pub union_with : Option Aabb → Aabb → Aabb
union_with None b = b
union_with (Some all) b = union_of all b

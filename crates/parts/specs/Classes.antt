-- The classes of runs that the sweeps go through in order: points, lines, faces (document 01, Parts). Definitions only.
use Rattle.std.specs.Prelude.{ℕ, Bool}
use Rattle.coords.specs.Parts.{is_point, is_line, is_face}
use Rattle.parts.specs.declared.Class.{Class}
use Rattle.parts.specs.declared.Class.TheVariants.{Points, Lines, Faces}

-- whether a run of that kind is of the class
unfoldable pub is_of : Class → ℕ → Bool
is_of Points kind = is_point kind
is_of Lines kind = is_line kind
is_of Faces kind = is_face kind

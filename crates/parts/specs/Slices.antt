-- The points of floats by slices, four floats for each (document 01, Parts). Definitions only.
use Rattle.std.specs.Prelude.{List, [], ◌∷◌, Float}
use Rattle.coords.specs.Parts.{segments_by}
use Rattle.primitives.specs.declared.Point.{Point}

-- x, y and z of each four; a rest of fewer is no point
unfoldable pub points_in : List Float → List Point
points_in (x ∷ y ∷ z ∷ m ∷ floats) = record { x = x; y = y; z = z } ∷ points_in floats
points_in _ = []

-- the segments of a line, each by its two points
abbrev pub segments_in : List Point → List (Point × Point)
segments_in ps = segments_by (λ a b. (a, b)) ps

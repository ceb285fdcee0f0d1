-- The farthest sweep with its skip (document 01, Farthest sweep). Definitions only.
use Rattle.std.specs.Prelude.{Bool, false, Float, Some, None}
use mathlib.Core.List.{List, foldl}
use Rattle.std.specs.declared.option.Option.{Option}
use Rattle.std.specs.Float.{binary64}
use Rattle.std.specs.Float.Ieee.{mul, le}
use Rattle.primitives.specs.declared.Point.{Point}
use Rattle.primitives.specs.declared.Witness.{Witness}
use Rattle.primitives.specs.declared.Aabb.{Aabb}
use Rattle.primitives.specs.Witnesses.{between_of}
use Rattle.primitives.specs.Boxes.{box_of_point, squared, greatest_squared_gap}
use Rattle.extremes.specs.Sweeps.{skipping, taking, longer, box_of_all, one_plus_slack}

-- a greatest squared gap, times (1 + 2^-49), is at most best squared; none does not skip
abbrev pub no_longer : Option Witness → Float → Bool
no_longer None greatest = false
no_longer (Some best) greatest = le (mul binary64 greatest one_plus_slack) (squared best.d)

-- the skip, once a pair is taken: greatest squared gap to the box of all b, times (1 + 2^-49), is at most best squared
unfoldable pub no_farther : Aabb → Option Witness → Point → Bool
no_farther box best a = no_longer best (greatest_squared_gap (box_of_point a) box)

-- vertex a against each b in order: first pair taken, later ones only if strictly longer
unfoldable pub farthest_from : List Point → Option Witness → Point → Option Witness
farthest_from rs best a = foldl (λ found b. taking longer found (between_of a b)) best rs

-- each vertex of side 1 in order, unless it is skipped, against all of side 2, whose box is given
unfoldable pub farthest_within : Option Aabb → List Point → List Point → Option Witness
farthest_within None ls rs = None
farthest_within (Some box) ls rs = skipping (no_farther box) (farthest_from rs) None ls

-- the farthest pair of vertices; none if a side has no vertex
unfoldable pub farthest_of : List Point → List Point → Option Witness
farthest_of ls rs = farthest_within (box_of_all rs) ls rs

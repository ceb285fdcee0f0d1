-- The outcome of each operation for every input: report, workspaces, output (document 01, "What the operations say" and the table; document 02, 3/13: the rule
-- by which the closest sweep pairs items, 1 or 2).
-- Undecided is only the payload, sign included, of a NaN in a workspace or in an answered number: the model of floats has one NaN. Definitions only.
use Rattle.std.specs.Prelude.{ℕ, List, [], ◌∷◌, ◌++◌, map, false, cond, not, ◌||◌, length, drop, ltb, eqb, Float, Option, None, Some}
use Rattle.std.specs.Float.Ieee.{lt, le, eq}
use Rattle.ieee754.specs.MinMax.{positive_zero}
use Rattle.refusals.specs.Checks.{Check, check, first_of}
use Rattle.refusals.specs.Table.{sided}
use Rattle.refusals.specs.declared.Reason.{Reason}
use Rattle.refusals.specs.declared.Reason.TheVariants.{ToleranceBelowZero, OutputTooShort, UnknownRule}
use Rattle.refusals.specs.declared.Side.TheVariants.{Neither}
use Rattle.refusals.specs.declared.Refusal.{Refusal}
use Rattle.gpb.specs.Header.{srid_of}
use Rattle.gpb.specs.Written.{point_bytes, line_bytes, point_blob, line_blob}
use Rattle.primitives.specs.declared.Point.{Point}
use Rattle.primitives.specs.declared.Witness.{Witness}
use Rattle.parts.specs.Points.{point_of}
use Rattle.coords.specs.Walk.{Coordinate}
use Rattle.coords.specs.Parts.{map_runs, vertices_of}
use Rattle.blob.specs.Blob.{runs_of_blob}
use Rattle.operands.specs.Operands.{Workspaces, lent_checks, filled}
use Rattle.extremes.specs.Farthest.{farthest_of}
use Rattle.items.specs.Items.{items_of}
use Rattle.items.specs.declared.Item.{Item}
use Rattle.items.specs.Closest.{closest_of}
use Rattle.crossings.specs.Closest.{closest_by_rule2}
use Rattle.outcomes.specs.Answers.{Value, number, decided, blob, nothing, Report, refusing, answering}

-- what a call answers and leaves: a report, both workspaces, the output
pub record Outcome : Type 0 where
  pub report : Report
  pub memory : Workspaces
  pub output : List ℕ

abbrev pub outcome : Report → Workspaces → List ℕ → Outcome
outcome r w out = record { report = r; memory = w; output = out }

-- ---- refusals of no side

abbrev pub no_side : Reason → Refusal
no_side reason = sided Neither reason

-- 1: d < 0
unfoldable pub tolerance_checks : Float → List (Check Refusal)
tolerance_checks d = check (no_side ToleranceBelowZero) (lt d positive_zero) ∷ []

-- 17: a rule number other than 1 or 2, after 1 (document 02, 3/13)
unfoldable pub rule_checks : ℕ → List (Check Refusal)
rule_checks rule = check (no_side UnknownRule) (not (eqb rule 1 || eqb rule 2)) ∷ []

-- 16: output under so many bytes, even where the answer is none
unfoldable pub output_checks : ℕ → List ℕ → List (Check Refusal)
output_checks bytes output = check (no_side OutputTooShort) (ltb (length output) bytes) ∷ []

-- refused: all lent memory unchanged
abbrev pub unless : Option Refusal → Outcome → Workspaces → List ℕ → Outcome
unless (Some r) accepted w output = outcome (refusing r) w output
unless None accepted w output = accepted

-- ---- the farthest pair of vertices

-- the vertices of a blob, by the walk from its bytes (document 01, Farthest sweep)
abbrev pub vertices_of_blob : List ℕ → List Coordinate
vertices_of_blob s = vertices_of (runs_of_blob s)

-- the same as points
abbrev pub vertex_points : List ℕ → List Point
vertex_points s = map point_of (vertices_of_blob s)

abbrev pub farthest_pair : List ℕ → List ℕ → Option Witness
farthest_pair a b = farthest_of (vertex_points a) (vertex_points b)

-- ---- the closest pair of points, segments and triangles

-- what a blob gives to the closest sweep, by the walk from its bytes (document 01, Closest sweep)
abbrev pub items_of_blob : List ℕ → List Item
items_of_blob s = items_of (map_runs point_of (runs_of_blob s))

-- by rule 2 its own sweep (document 02, 3/13), by every other number that of document 01: numbers other than 1 and 2 are refused
unfoldable pub closest_by_rule : ℕ → List Item → List Item → Option Witness
closest_by_rule rule ls rs = cond (eqb rule 2) (closest_by_rule2 ls rs) (closest_of ls rs)

abbrev pub closest_pair : ℕ → List ℕ → List ℕ → Option Witness
closest_pair rule a b = closest_by_rule rule (items_of_blob a) (items_of_blob b)

-- ---- values

-- the distance, or none
abbrev pub distance_value : Option Witness → Value
distance_value None = nothing
distance_value (Some w) = number w.d

-- distance ≤ d; none gives no
abbrev pub within_value : Float → Option Witness → Value
within_value d None = decided false
within_value d (Some w) = decided (le w.d d)

-- distance = 0; none gives no
abbrev pub touching_value : Option Witness → Value
touching_value None = decided false
touching_value (Some w) = decided (eq w.d positive_zero)

-- a blob where there is a pair, or none
abbrev pub blob_value : Option Witness → Value
blob_value None = nothing
blob_value (Some w) = blob

-- the line in the output's first 65 bytes, rest unchanged; none leaves every byte
abbrev pub line_after : ℕ → Option Witness → List ℕ → List ℕ
line_after srid None output = output
line_after srid (Some w) output = line_blob srid w.a.x w.a.y w.a.z w.b.x w.b.y w.b.z ++ drop line_bytes output

-- the first point in the output's first 37 bytes, rest unchanged; none leaves every byte
abbrev pub point_after : ℕ → Option Witness → List ℕ → List ℕ
point_after srid None output = output
point_after srid (Some w) output = point_blob srid w.a.x w.a.y w.a.z ++ drop point_bytes output

-- ---- operations

-- st_3d_max_distance
unfoldable pub max_distance : List ℕ → List ℕ → Workspaces → Outcome
max_distance a b w =
    unless (first_of (lent_checks a b w))
    (outcome (answering (distance_value (farthest_pair a b))) (filled a b w) []) w []

-- st_3d_dfully_within
unfoldable pub fully_within : List ℕ → List ℕ → Float → Workspaces → Outcome
fully_within a b d w =
    unless (first_of (tolerance_checks d ++ lent_checks a b w))
    (outcome (answering (within_value d (farthest_pair a b))) (filled a b w) []) w []

-- the refusals of an operation that writes a line
unfoldable pub line_checks : List ℕ → List ℕ → Workspaces → List ℕ → List (Check Refusal)
line_checks a b w output = lent_checks a b w ++ output_checks line_bytes output

-- st_3d_longest_line; the SRID is A's only
unfoldable pub longest_line : List ℕ → List ℕ → Workspaces → List ℕ → Outcome
longest_line a b w output =
    unless (first_of (line_checks a b w output))
    (outcome (answering (blob_value (farthest_pair a b))) (filled a b w) (line_after (srid_of a) (farthest_pair a b) output)) w output

-- st_3d_distance
unfoldable pub distance : List ℕ → List ℕ → ℕ → Workspaces → Outcome
distance a b rule w =
    unless (first_of (rule_checks rule ++ lent_checks a b w))
    (outcome (answering (distance_value (closest_pair rule a b))) (filled a b w) []) w []

-- st_3d_dwithin
unfoldable pub within : List ℕ → List ℕ → Float → ℕ → Workspaces → Outcome
within a b d rule w =
    unless (first_of (tolerance_checks d ++ (rule_checks rule ++ lent_checks a b w)))
    (outcome (answering (within_value d (closest_pair rule a b))) (filled a b w) []) w []

-- st_3d_intersects
unfoldable pub intersects : List ℕ → List ℕ → ℕ → Workspaces → Outcome
intersects a b rule w =
    unless (first_of (rule_checks rule ++ lent_checks a b w))
    (outcome (answering (touching_value (closest_pair rule a b))) (filled a b w) []) w []

-- st_3d_closest_point; the SRID is A's only
unfoldable pub closest_point : List ℕ → List ℕ → ℕ → Workspaces → List ℕ → Outcome
closest_point a b rule w output =
    unless (first_of (rule_checks rule ++ (lent_checks a b w ++ output_checks point_bytes output)))
    (outcome (answering (blob_value (closest_pair rule a b))) (filled a b w) (point_after (srid_of a) (closest_pair rule a b) output)) w output

-- st_3d_shortest_line; the SRID is A's only
unfoldable pub shortest_line : List ℕ → List ℕ → ℕ → Workspaces → List ℕ → Outcome
shortest_line a b rule w output =
    unless (first_of (rule_checks rule ++ line_checks a b w output))
    (outcome (answering (blob_value (closest_pair rule a b))) (filled a b w) (line_after (srid_of a) (closest_pair rule a b) output)) w output

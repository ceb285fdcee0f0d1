-- The third property, over all pairs of vertices (document 01, "Words of the third property"; of the shortest line by either rule of document 02, 3/13).
-- Definitions only.
use Rattle.std.specs.Prelude.{ℕ, ◌≡◌, List, [], ◌∷◌, ◌++◌, Bool, take, Float, None}
use Rattle.refusals.specs.Checks.{first_of}
use Rattle.gpb.specs.Header.{header_checks_3d}
use Rattle.gpb.specs.Written.{line_bytes}
use Rattle.coords.specs.Walk.{Coordinate, Geometry, ok}
use Rattle.coords.specs.Parts.{run, runs_of, PointRunsOnly}
use Rattle.parts.specs.Points.{point_of}
use Rattle.blob.specs.Blob.{walk_of_blob, runs_of_blob}
use Rattle.extremes.specs.Pairs.{Pair}
use Rattle.extremes.specs.Extreme.{distance_of, at_most, at_least, Holds}
use Rattle.operands.specs.Operands.{Workspaces}
use Rattle.outcomes.specs.Operations.{vertices_of_blob, rule_checks, line_checks}

-- x, y, z have the same bits
pub record SameBits (c d : Coordinate) : Type 0 where
  pub x : c.x ≡ d.x
  pub y : c.y ≡ d.y
  pub z : c.z ≡ d.z

-- a line reads back as a pair: header and walk accept the output's first 65 bytes and give no run but one line run of
-- two coordinates, whose x, y, z have the same bits as side 1's vertex, then side 2's
pub record ReadsBack (output : List ℕ) (p : Pair Coordinate) : Type 0 where
  pub header : first_of (header_checks_3d (take line_bytes output)) ≡ None
  pub tree : Geometry
  pub end : ℕ
  pub walk : walk_of_blob (take line_bytes output) ≡ ok tree end
  pub start : Coordinate
  pub finish : Coordinate
  pub only_run : runs_of tree ≡ run 2 (start ∷ finish ∷ []) ∷ []
  pub first : SameBits start p.left
  pub second : SameBits finish p.right

-- How a call tells its answer: an operation by a report, an export by its reply. `no_line` and `a_line` are what it tells
-- where there is no line and where one is written.
module _ {R : Type 0} (no_line a_line : R) where
  -- the line is told, and reads back as the pair
  pub record LineBetween (told : R) (output : List ℕ) (p : Pair Coordinate) : Type 0 where
    pub is_told : told ≡ a_line
    pub reads_back : ReadsBack output p

  -- the pairs being those of the two blobs' vertices: none exactly when a blob has no vertex; and if there is a first pair
  -- and its computed distance is no NaN, the line is the first pair whose distance is no NaN and to which the distance of
  -- every other pair that is no NaN stands in the order (at most: the longest; at least: the shortest), skipped ones included
  abbrev pub FirstExtremeLine : (Float → Float → Bool) → List ℕ → List ℕ → R → List ℕ → Type 0
  FirstExtremeLine order a b told output =
      Holds (distance_of point_of) order (vertices_of_blob a) (vertices_of_blob b) (told ≡ no_line) (LineBetween told output)

  -- of an accepted longest-line call: `before` is the output lent to it, `output` the one after
  pub record LongestOfAll (a b : List ℕ) (w : Workspaces) (before : List ℕ) (told : R) (output : List ℕ) : Type 0 where
    pub first_extreme_line : first_of (line_checks a b w before) ≡ None → FirstExtremeLine at_most a b told output

  -- of an accepted shortest-line call, by rule 1 or 2, whose two blobs hold point runs only
  pub record ShortestOfPoints (a b : List ℕ) (rule : ℕ) (w : Workspaces) (before : List ℕ) (told : R) (output : List ℕ) : Type 0 where
    pub first_extreme_line : first_of (rule_checks rule ++ line_checks a b w before) ≡ None → PointRunsOnly (runs_of_blob a) → PointRunsOnly (runs_of_blob b)
        → FirstExtremeLine at_least a b told output

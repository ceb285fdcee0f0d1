-- What the tree of a geometry comes to (document 01, Parts): its runs, their numbers, the vertices. Definitions only.
use Rattle.std.specs.Prelude.{ℕ, ◌+◌, ◌≡◌, Bool, true, cond, ◌||◌, length, eqb}
use mathlib.Core.List.{List, [], ◌∷◌, ◌++◌, map, flatten}
use Rattle.coords.specs.Walk.{Coordinate, Geometry, geometry, Content, point, line, rings, members, Members, no_members, one_more, Parsed, ok, refused}

-- ---- runs

-- the kind of the geometry that a run belongs to, and the run's coordinates, of whatever type
pub data Run (A : Type 0) : Type 0 where
  run : ℕ → List A → Run A

-- f of every coordinate
unfoldable pub map_runs : {A B : Type 0} → (A → B) → List (Run A) → List (Run B)
map_runs f [] = []
map_runs f (run kind cs ∷ rs) = run kind (map f cs) ∷ map_runs f rs

-- a run with no coordinate is none
unfoldable pub non_empty_run : ℕ → List Coordinate → List (Run Coordinate)
non_empty_run kind [] = []
non_empty_run kind (c ∷ cs) = run kind (c ∷ cs) ∷ []

-- a run for each ring, holes too
unfoldable pub rings_runs : ℕ → List (List Coordinate) → List (Run Coordinate)
rings_runs kind [] = []
rings_runs kind (ring ∷ rs) = non_empty_run kind ring ++ rings_runs kind rs

unfoldable mutual
  -- each run with at least one coordinate, in walk order
  pub runs_of : Geometry → List (Run Coordinate)
  runs_of (geometry kind z m content) = content_runs kind content

  pub content_runs : ℕ → Content → List (Run Coordinate)
  content_runs kind (point c) = run kind (c ∷ []) ∷ []
  content_runs kind (line cs) = non_empty_run kind cs
  content_runs kind (rings rs) = rings_runs kind rs
  content_runs kind (members gs) = members_runs gs

  pub members_runs : Members → List (Run Coordinate)
  members_runs no_members = []
  members_runs (one_more g gs) = runs_of g ++ members_runs gs

-- the runs of a walk; none where it refuses
unfoldable pub walked_runs : Parsed Geometry → List (Run Coordinate)
walked_runs (ok g end) = runs_of g
walked_runs (refused k) = []

-- N, the coordinates of all runs; R is the number of runs
unfoldable pub coordinate_count : {A : Type 0} → List (Run A) → ℕ
coordinate_count [] = 0
coordinate_count (run kind cs ∷ rs) = length cs + coordinate_count rs

-- ---- vertices (document 01, Farthest sweep)

-- the kind 1: a point
abbrev pub is_point : ℕ → Bool
is_point kind = eqb kind 1

-- the kind 2: a line
abbrev pub is_line : ℕ → Bool
is_line kind = eqb kind 2

-- the kinds 3 and 17: each ring of a polygon or triangle is a filled face
abbrev pub is_face : ℕ → Bool
is_face kind = eqb kind 3 || eqb kind 17

-- 1 for the run of a point or face
abbrev pub other_if : ℕ → ℕ
other_if kind = cond (is_point kind || is_face kind) 1 0

-- how many runs are points or faces, and so no lines (refusal 14)
unfoldable pub other_count : {A : Type 0} → List (Run A) → ℕ
other_count [] = 0
other_count (run kind cs ∷ rs) = other_if kind + other_count rs

-- every run is a point run: no line and no ring has a coordinate (document 01, Words of the third property)
unfoldable pub PointRunsOnly : {A : Type 0} → List (Run A) → Type 0
PointRunsOnly [] = Unit {0}
PointRunsOnly (run kind cs ∷ rs) = (is_point kind ≡ true) × PointRunsOnly rs

-- what the segments of a line come to, each by its start and its end: n coordinates give n - 1 segments, one gives none
unfoldable pub segments_by : {A B : Type 0} → (A → A → B) → List A → List B
segments_by f [] = []
segments_by f (a ∷ []) = []
segments_by f (a ∷ b ∷ cs) = f a b ∷ segments_by f (b ∷ cs)

-- what the runs whose kind passes the test come to, in walk order
unfoldable pub of_kind : {A B : Type 0} → (ℕ → Bool) → (List A → List B) → List (Run A) → List B
of_kind test f [] = []
of_kind test f (run kind cs ∷ rs) = cond (test kind) (f cs) [] ++ of_kind test f rs

-- both ends of each segment of a line, a segment's start before its end
unfoldable pub segment_ends : {A : Type 0} → List A → List A
segment_ends cs = flatten (segments_by (λ a b. a ∷ b ∷ []) cs)

-- all points, then both ends of every segment, then face vertices, each kind in walk order
unfoldable pub vertices_of : {A : Type 0} → List (Run A) → List A
vertices_of rs = of_kind is_point (λ cs. cs) rs ++ (of_kind is_line segment_ends rs ++ of_kind is_face (λ cs. cs) rs)

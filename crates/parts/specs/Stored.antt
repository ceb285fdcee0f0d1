-- What lent floats and numbers hold, read as a workspace (document 01, Parts). Serves inner contracts. Definitions only.
use Rattle.std.specs.Prelude.{ℕ, ◌+◌, ◌*◌, ◌≤◌, List, [], ◌∷◌, length, take, drop, Float}
use Rattle.std.specs.Coded.{le_prop}
use Rattle.coords.specs.Parts.{Run, run}
use Rattle.workspace.specs.Workspace.{floats_per_coordinate}
use Rattle.primitives.specs.declared.Point.{Point}
use Rattle.parts.specs.Slices.{points_in}

-- the runs that a table and floats hold: of each its kind and its count, and its points, which follow those of the runs before it
unfoldable pub stored_runs : List ℕ → List Float → List (Run Point)
stored_runs [] floats = []
stored_runs (kind ∷ []) floats = []
stored_runs (kind ∷ count ∷ table) floats =
    run kind (points_in (take (floats_per_coordinate * count) floats)) ∷ stored_runs table (drop (floats_per_coordinate * count) floats)

-- the counts of a table added up
unfoldable pub point_count : List ℕ → ℕ
point_count [] = 0
point_count (kind ∷ []) = 0
point_count (kind ∷ count ∷ table) = count + point_count table

-- there is a float for each ordinate of each run
unfoldable pub Laid : List ℕ → List Float → Type 0
Laid table floats = floats_per_coordinate * point_count table ≤ length floats

-- which has one proof at most, as a struct's ghost field asks
pub laid_prop : (table : List ℕ) (floats : List Float) → IsProp (Laid table floats)
unfolding Laid
laid_prop table floats = le_prop

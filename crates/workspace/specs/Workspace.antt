-- What the workspace of one side holds (document 01, Parts; document 02, 1/13: x, y, z, m per coordinate): the first 4N floats and the first 2R numbers. Definitions only.
use Rattle.std.specs.Prelude.{ℕ, ◌*◌, ◌≤◌, ◌≡◌, Bool, true, ◌||◌, List, [], ◌∷◌, ◌++◌, ltb, length, drop, Float}
use Rattle.std.specs.Float.{binary64}
use Rattle.std.specs.Float.Ieee.{of_bits}
use Rattle.coords.specs.Walk.{Coordinate, Geometry, Parsed}
use Rattle.coords.specs.Parts.{Run, run, coordinate_count, walked_runs}
use Rattle.coords.specs.Refusals.{is_accepted}

-- floats for each coordinate: the length of coordinate_floats
abbrev pub floats_per_coordinate : ℕ
floats_per_coordinate = 4

-- numbers for each run: the length of run_numbers
abbrev pub numbers_per_run : ℕ
numbers_per_run = 2

-- x, y, z, m; every NaN pattern is nan
unfoldable pub coordinate_floats : Coordinate → List Float
coordinate_floats c = of_bits binary64 c.x ∷ of_bits binary64 c.y ∷ of_bits binary64 c.z ∷ of_bits binary64 c.m ∷ []

-- kind and count
unfoldable pub run_numbers : {A : Type 0} → ℕ → List A → List ℕ
run_numbers kind cs = kind ∷ length cs ∷ []

-- the floats of coordinates in a row
unfoldable pub coordinates_floats : List Coordinate → List Float
coordinates_floats [] = []
coordinates_floats (c ∷ cs) = coordinate_floats c ++ coordinates_floats cs

-- the floats of all runs, in walk order
unfoldable pub floats_of : List (Run Coordinate) → List Float
floats_of [] = []
floats_of (run kind cs ∷ rs) = coordinates_floats cs ++ floats_of rs

-- the numbers of all runs
unfoldable pub table_of : {A : Type 0} → List (Run A) → List ℕ
table_of [] = []
table_of (run kind cs ∷ rs) = run_numbers kind cs ++ table_of rs

-- the lengths to lend: 4N floats
abbrev pub floats_needed : {A : Type 0} → List (Run A) → ℕ
floats_needed rs = floats_per_coordinate * coordinate_count rs

-- and 2R numbers
abbrev pub numbers_needed : {A : Type 0} → List (Run A) → ℕ
numbers_needed rs = numbers_per_run * length rs

-- 15: workspace under 4N or 2R
unfoldable pub too_small_for : ℕ → ℕ → ℕ → ℕ → Bool
too_small_for coords runs floats numbers = ltb floats (floats_per_coordinate * coords) || ltb numbers (numbers_per_run * runs)

-- the same, of the runs to be written
abbrev pub too_small : {A : Type 0} → List (Run A) → ℕ → ℕ → Bool
too_small rs floats numbers = too_small_for (coordinate_count rs) (length rs) floats numbers

-- the floats once the runs are written: the first 4N are theirs, the rest is unchanged
unfoldable pub floats_with : List (Run Coordinate) → List Float → List Float
floats_with rs floats = floats_of rs ++ drop (floats_needed rs) floats

-- the numbers then: the first 2R are theirs
unfoldable pub table_with : {A : Type 0} → List (Run A) → List ℕ → List ℕ
table_with rs table = table_of rs ++ drop (numbers_needed rs) table

-- the walk refuses nothing, and lent memory of these lengths holds its runs
pub record Room (w : Parsed Geometry) (floats numbers : ℕ) : Type 0 where
  pub accepted : is_accepted w ≡ true
  pub for_floats : floats_needed (walked_runs w) ≤ floats
  pub for_numbers : numbers_needed (walked_runs w) ≤ numbers

-- the runs are written: floats and table before and after
pub record RunsWritten (rs : List (Run Coordinate)) (floats : List Float) (table : List ℕ) (floats' : List Float) (table' : List ℕ) : Type 0 where
  pub ordinates : floats' ≡ floats_with rs floats
  pub rows : table' ≡ table_with rs table

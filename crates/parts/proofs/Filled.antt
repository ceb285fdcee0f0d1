-- What is read from a workspace is what was written to it. Assumes nothing.
use mathlib.Core.Path.{◌≡◌, refl}
use mathlib.Core.List.{List, [], ◌∷◌, ◌++◌, append_assoc, map}
use Prim.Native.Nat.{◌*◌}
use native.Mathlib.Omega.{arith}
use lib.ListN.{length, length-append}
use lib.Seq.{take-append_seam, drop-append_seam}
use lib.Ieee.{Float}
use Rattle.coords.specs.Walk.{Coordinate}
use Rattle.coords.specs.Parts.{Run, run, map_runs, vertices_of}
use Rattle.workspace.specs.Workspace.{floats_per_coordinate, coordinate_floats, coordinates_floats, run_numbers, floats_of, table_of}
use Rattle.parts.specs.Points.{point_of}
use Rattle.parts.specs.Stored.{stored_runs, point_count, Laid}
use Rattle.parts.specs.Slices.{points_in}
use Rattle.coords.proofs.Parts.{vertices_map}
use Rattle.workspace.proofs.Contents.{length_coordinates_floats}

points_read : (cs : List Coordinate) → points_in (coordinates_floats cs) ≡ map point_of cs
unfolding points_in coordinates_floats coordinate_floats point_of
points_read [] = refl
points_read (c ∷ cs) = rw (points_read cs)

-- the runs that were written, whatever floats follow theirs
pub stored_written : (rs : List (Run Coordinate)) (after : List Float) → stored_runs (table_of rs) (floats_of rs ++ after) ≡ map_runs point_of rs
unfolding stored_runs floats_of table_of run_numbers map_runs
stored_written [] after = refl
stored_written (run kind cs ∷ rs) after =
    let e : floats_per_coordinate * length cs ≡ length (coordinates_floats cs) = omega (arith, length_coordinates_floats cs) in
    rw (append_assoc, e, take-append_seam, drop-append_seam, points_read cs, stored_written rs after)

count_written : (rs : List (Run Coordinate)) → length (floats_of rs) ≡ floats_per_coordinate * point_count (table_of rs)
unfolding floats_of table_of run_numbers point_count
count_written [] = refl
count_written (run kind cs ∷ rs) = simp length-append (omega (arith, length_coordinates_floats cs, count_written rs))

pub laid_written : (rs : List (Run Coordinate)) (after : List Float) → Laid (table_of rs) (floats_of rs ++ after)
unfolding Laid
laid_written rs after = simp length-append (omega (arith, count_written rs))

-- the vertices of a workspace are the points of the vertices that were read into it
pub vertices_written : (rs : List (Run Coordinate)) (after : List Float) → vertices_of (stored_runs (table_of rs) (floats_of rs ++ after)) ≡ map point_of (vertices_of rs)
vertices_written rs after = rw (stored_written rs after) (vertices_map point_of rs)

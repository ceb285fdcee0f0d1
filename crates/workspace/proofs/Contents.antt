-- Laws of what a workspace holds: how much, and of runs in a row. Assumes nothing.
use mathlib.Core.Path.{◌≡◌, refl, sym, ap, ◌∙◌}
use mathlib.Core.List.{List, [], ◌∷◌, ◌++◌, append_assoc}
use Prim.Native.Nat.{ℕ, ◌*◌}
use native.Mathlib.Omega.{arith}
use lib.ListN.{length, length-append}
use lib.Ieee.{Float}
use Rattle.coords.specs.Walk.{Coordinate}
use Rattle.coords.specs.Parts.{Run, run, coordinate_count}
use Rattle.workspace.specs.Workspace.{floats_per_coordinate, numbers_per_run, coordinate_floats, run_numbers, coordinates_floats, floats_of, table_of}
use Rattle.workspace.proofs.Laws.{length_coordinate_floats}

pub length_coordinates_floats : (cs : List Coordinate) → length (coordinates_floats cs) ≡ floats_per_coordinate * length cs
unfolding coordinates_floats
length_coordinates_floats [] = refl
length_coordinates_floats (c ∷ cs) = length-append (coordinate_floats c) (coordinates_floats cs) ∙ omega (arith, length_coordinate_floats c, length_coordinates_floats cs)

-- 4N floats
pub length_floats : (rs : List (Run Coordinate)) → length (floats_of rs) ≡ floats_per_coordinate * coordinate_count rs
unfolding floats_of coordinate_count
length_floats [] = refl
length_floats (run k vs ∷ rs) = length-append (coordinates_floats vs) (floats_of rs) ∙ omega (arith, length_coordinates_floats vs, length_floats rs)

pub floats_append : (rs qs : List (Run Coordinate)) → floats_of (rs ++ qs) ≡ floats_of rs ++ floats_of qs
unfolding floats_of
floats_append [] qs = refl
floats_append (run k vs ∷ rs) qs = ap (λ (l : List Float). coordinates_floats vs ++ l) (floats_append rs qs) ∙ sym (append_assoc (coordinates_floats vs) (floats_of rs) (floats_of qs))

-- 2R numbers
pub length_table : {A : Type 0} (rs : List (Run A)) → length (table_of rs) ≡ numbers_per_run * length rs
unfolding table_of run_numbers
length_table [] = refl
length_table (run k vs ∷ rs) = omega (arith, length_table rs)

pub table_append : {A : Type 0} (rs qs : List (Run A)) → table_of (rs ++ qs) ≡ table_of rs ++ table_of qs
unfolding table_of run_numbers
table_append [] qs = refl
table_append (run k vs ∷ rs) qs = ap (λ (l : List ℕ). run_numbers k vs ++ l) (table_append rs qs)

-- What the loop over the coordinates keeps. Assumes nothing.
use Rattle.std.proofs.Common.{◌≡◌, ◌*◌}
use Rattle.std.proofs.lemmas.List.Edits.{sets}
use Rattle.coords.specs.Walk.{coordinates_from}
use Rattle.workspace.specs.Workspace.{floats_per_coordinate, coordinates_floats}
use Rattle.workspace.proofs.put_coordinates.Given as goal

abbrev pub invariant-loop-j : goal.invariant-loop-j
invariant-loop-j l = l.floats ≡ sets l.initial.floats (floats_per_coordinate * l.i) (coordinates_floats (coordinates_from l.h l.s l.j l.at))

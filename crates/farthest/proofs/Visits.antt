-- One vertex of side 1 against side 2: skipped or not. Assumes nothing.
use mathlib.Core.Path.{◌≡◌}
use mathlib.Core.Bool.{true, false}
use mathlib.Core.List.{List, [], ◌∷◌}
use Rattle.std.specs.declared.option.Option.{Option}
use Rattle.primitives.specs.declared.Point.{Point}
use Rattle.primitives.specs.declared.Witness.{Witness}
use Rattle.primitives.specs.declared.Aabb.{Aabb}
use Rattle.primitives.specs.Boxes.{box_of_point, greatest_squared_gap}
use Rattle.extremes.specs.Sweeps.{skipping}
use Rattle.extremes.specs.Farthest.{no_longer, no_farther, farthest_from}
use Rattle.farthest.specs.Inner.{swept}
use Rattle.farthest.proofs.NanStays.{nan_swept}

module _ (box : Aabb) (rs : List Point) (best : Option Witness) (p : Point) where
  pub visit_skipped : no_longer best (greatest_squared_gap (box_of_point p) box) ≡ true → swept box rs best (p ∷ []) ≡ best
  unfolding swept skipping no_farther
  visit_skipped e = rw e

  pub visit_made : no_longer best (greatest_squared_gap (box_of_point p) box) ≡ false → swept box rs best (p ∷ []) ≡ farthest_from rs best p
  unfolding swept skipping no_farther
  visit_made e = rw e

pub ruleset visits = (nan_swept, visit_skipped, visit_made)

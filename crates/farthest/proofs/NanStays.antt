-- A NaN best stays to the end of the sweep. Assumes nothing.
use mathlib.Core.Path.{◌≡◌}
use mathlib.Core.Bool.{true}
use mathlib.Core.List.{List}
use Rattle.std.specs.declared.option.Option.{Option}
use Rattle.primitives.specs.declared.Point.{Point}
use Rattle.primitives.specs.declared.Witness.{Witness}
use Rattle.primitives.specs.declared.Aabb.{Aabb}
use Rattle.primitives.specs.Witnesses.{between_of}
use Rattle.extremes.specs.BestSoFar.{at_nan}
use Rattle.extremes.specs.Farthest.{farthest_from}
use Rattle.extremes.proofs.Senses.{longest}
use Rattle.extremes.proofs.Skipping.{skipping_stays}
use Rattle.extremes.proofs.NanBest.{nan_row_stays}
use Rattle.farthest.specs.Inner.{swept}

nan_from : (best : Option Witness) (rs : List Point) (a : Point) → at_nan best ≡ true → farthest_from rs best a ≡ best
unfolding farthest_from
nan_from best rs a n = nan_row_stays longest best n (λ q. between_of a q) rs

-- by the test that the code makes
pub nan_swept : (best : Option Witness) (box : Aabb) (rs ls : List Point) → at_nan best ≡ true → swept box rs best ls ≡ best
unfolding swept
nan_swept best box rs ls n = skipping_stays _ _ best (λ a. nan_from best rs a n) ls

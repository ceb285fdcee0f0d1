-- Vertices that stand several times in a row need be looked at once only. Assumes nothing.
use mathlib.Core.Path.{◌≡◌, ◌∙◌}
use mathlib.Core.List.{List}
use Rattle.std.specs.declared.option.Option.{Option}
use Rattle.primitives.specs.declared.Point.{Point}
use Rattle.primitives.specs.declared.Witness.{Witness}
use Rattle.primitives.specs.declared.Aabb.{Aabb}
use Rattle.primitives.specs.Witnesses.{between_of}
use Rattle.extremes.specs.Sweeps.{skipping, taking, longer}
use Rattle.extremes.proofs.Lists.{each_all}
use Rattle.extremes.proofs.Senses.{longest}
use Rattle.extremes.proofs.Distances.{distance_fits}
use Rattle.extremes.proofs.Skipping.{skipping_agree}
use Rattle.extremes.proofs.Taking.{Made, made_fits, row_made, taking_again, row_again}
use Rattle.extremes.proofs.Repeats.{Repeats, fold_repeats, skipping_repeats}
use Rattle.extremes.specs.Farthest.{no_farther, farthest_from}

-- a vertex of side 2 again, with the same vertex of side 1
pub right_again : (a : Point) (best : Option Witness) (b : Point) → taking longer (taking longer best (between_of a b)) (between_of a b) ≡ taking longer best (between_of a b)
right_again a best b = taking_again longest best (between_of a b) (distance_fits a b)

pub right_repeats : {rs qs : List Point} → Repeats rs qs → (best : Option Witness) (a : Point) → farthest_from rs best a ≡ farthest_from qs best a
unfolding farthest_from
right_repeats r best a = fold_repeats (λ found b. taking longer found (between_of a b)) (λ s. Unit {0}) (λ s b g. tt) (λ s b g. right_again a s b) r best tt

-- a vertex of side 1 again
pub left_again : (rs : List Point) (best : Option Witness) (a : Point) → Made best → farthest_from rs (farthest_from rs best a) a ≡ farthest_from rs best a
unfolding farthest_from
left_again rs best a m = row_again longest (λ b. between_of a b) (λ b. distance_fits a b) best rs (made_fits m)

pub left_repeats : (box : Aabb) (rs : List Point) {ls ps : List Point} → Repeats ls ps → (best : Option Witness) → Made best → skipping (no_farther box) (farthest_from rs) best ls ≡ skipping (no_farther box) (farthest_from rs) best ps
left_repeats box rs r best m = skipping_repeats (farthest_from rs) Made (λ s a g. unfold farthest_from in row_made longer a rs g) (λ s a g. left_again rs s a g) (no_farther box) r best m

-- repeated vertices on either side, or both, from any pair of points on
pub sweep_repeats : (box : Aabb) {ls ps rs qs : List Point} → Repeats ls ps → Repeats rs qs → (start : Option Witness) → Made start → skipping (no_farther box) (farthest_from rs) start ls ≡ skipping (no_farther box) (farthest_from qs) start ps
sweep_repeats box {ps} {rs} {qs} r s start m = left_repeats box rs r start m ∙ skipping_agree (no_farther box) (farthest_from qs) (farthest_from rs) start ps (each_all _ (λ a t. right_repeats s t a) ps)

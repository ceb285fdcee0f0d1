-- The closest sweep where each side holds points only: its third property, for the closest sweep over points, segments and triangles to cite. Assumes nothing.
use mathlib.Core.Path.{◌≡◌, refl, sym, ap, ◌∙◌, subst}
use mathlib.Core.Bool.{true, false, false≢true}
use mathlib.Core.List.{List, [], ◌∷◌, foldl, map}
use Rattle.std.specs.declared.option.Option.{Option}
use Rattle.std.specs.Prelude.{Some, None}
use lib.Dec.{T}
use lib.Ieee.{binary64, mul, lt, le}
use Rattle.primitives.specs.declared.Point.{Point}
use Rattle.primitives.specs.declared.Witness.{Witness}
use Rattle.primitives.specs.declared.Aabb.{Aabb}
use Rattle.primitives.specs.Witnesses.{between_of}
use Rattle.primitives.specs.Boxes.{box_of_point, squared, least_squared_gap}
use Rattle.extremes.specs.Pairs.{pairs_of}
use Rattle.extremes.specs.Extreme.{measured, distance_of, at_least, Holds}
use Rattle.extremes.specs.Sweeps.{taking, shorter, box_of_all, one_minus_slack}
use Rattle.extremes.specs.ClosestSweep.{no_closer, with_each_by, sweep_by}
use Rattle.extremes.proofs.Lists.{Each, each_both, each_weaken, all_mapped}
use Rattle.extremes.proofs.Skipping.{skips_hide_nothing, folds_agree}
use Rattle.extremes.proofs.PairLists.{no_pairs, fold_pairs}
use Rattle.extremes.proofs.Senses.{shortest}
use Rattle.extremes.proofs.FirstExtreme.{best_of, best_mapped, best_holds}
use Rattle.extremes.proofs.BoxOfAll.{IsBinary64, Inside, box_exists, box_fitting, box_holds, point_inside, point_fitting}
use Rattle.extremes.proofs.BoxSkips.{box_no_closer}
use Rattle.extremes.proofs.Taking.{Made, nothing, found, taking_made, row_made, unbeaten_stays, unbeaten_row}

-- ---- the sweep
-- one outer point against each inner one
unfoldable pub closest_from : Point → Option Witness → List Point → Option Witness
closest_from a best rs = with_each_by box_of_point (λ p found q. taking shorter found (between_of p q)) a best rs

-- each outer point against all of the inner ones
unfoldable pub closest_within : Option Aabb → List Point → List Point → Option Witness
closest_within None ls rs = None
closest_within (Some box) ls rs = sweep_by box_of_point closest_from box rs None ls

unfoldable pub closest_points : List Point → List Point → Option Witness
closest_points ls rs = closest_within (box_of_all rs) ls rs

-- ---- its skips hide nothing
passed : (box : Aabb) (p q a : Point) → no_closer (Some (between_of p q)) (least_squared_gap (box_of_point a) box) ≡ true → T (le (squared (between_of p q).d) (mul binary64 (least_squared_gap (box_of_point a) box) one_minus_slack))
unfolding no_closer
passed box p q a t = subst T (sym t) tt

module _ (rs : List Point) (f : Each IsBinary64 rs) where
  inner_hides : (a : Point) → IsBinary64 a → (s : Option Witness) (b : Point) → Made s → IsBinary64 b → no_closer s (least_squared_gap (box_of_point a) (box_of_point b)) ≡ true → taking shorter s (between_of a b) ≡ s
  inner_hides a g s b nothing h t = absurd (false≢true (unfold no_closer in t))
  inner_hides a g s b (found p q) h t = unbeaten_stays shorter (Some (between_of p q)) (between_of a b) (box_no_closer (box_of_point b) p q a b g h (point_fitting b h) (point_inside b h) (passed (box_of_point b) p q a t))

  -- a row with skips is the row without
  row_unskipped : (s : Option Witness) (a : Point) → Made s → IsBinary64 a → closest_from a s rs ≡ foldl (λ found b. taking shorter found (between_of a b)) s rs
  unfolding closest_from
  row_unskipped s a m g =
      skips_hide_nothing (λ found b. taking shorter found (between_of a b)) Made IsBinary64 (λ t b n h. taking_made shorter a b n) (λ found b. no_closer found (least_squared_gap (box_of_point a) (box_of_point b))) (inner_hides a g) s rs m f

  module _ (box : Aabb) (e : box_of_all rs ≡ Some box) where
    outer_hides : (s : Option Witness) (a : Point) → Made s → IsBinary64 a → no_closer s (least_squared_gap (box_of_point a) box) ≡ true → foldl (λ found b. taking shorter found (between_of a b)) s rs ≡ s
    outer_hides s a nothing g t = absurd (false≢true (unfold no_closer in t))
    outer_hides s a (found p q) g t =
        unbeaten_row shorter (λ b. between_of a b) (Some (between_of p q)) rs
        (each_weaken (λ (b : Point). IsBinary64 b × Inside box b) (λ (b : Point). lt (between_of a b).d (between_of p q).d ≡ false) (λ b i. box_no_closer box p q a b g i.0 (box_fitting rs box f e) i.1 (passed box p q a t)) rs
        (each_both IsBinary64 (Inside box) rs f (box_holds rs box f e)))

    all_rows : (ls : List Point) → Each IsBinary64 ls → sweep_by box_of_point closest_from box rs None ls ≡ best_of (λ v. v) shorter None (pairs_of ls rs)
    all_rows ls g =
        let row : Option Witness → Point → Option Witness = λ s a. foldl (λ found b. taking shorter found (between_of a b)) s rs in
        skips_hide_nothing (λ s a. closest_from a s rs) Made IsBinary64 (λ s a m h. subst Made (sym (row_unskipped s a m h)) (row_made shorter a rs m)) (λ best a. no_closer best (least_squared_gap (box_of_point a) box))
        (λ s a m h t. row_unskipped s a m h ∙ outer_hides s a m h t) None ls nothing g
        ∙ folds_agree row Made IsBinary64 (λ s a m h. row_made shorter a rs m) (λ s a. closest_from a s rs) row_unskipped None ls nothing g
        ∙ fold_pairs (λ best p. taking shorter best (measured (λ v. v) p)) rs None ls

by_box : (ls rs : List Point) (b : Option Aabb) → Each IsBinary64 ls → Each IsBinary64 rs → box_of_all rs ≡ b → closest_within b ls rs ≡ best_of (λ v. v) shorter None (pairs_of ls rs)
unfolding closest_within
by_box ls rs (Some box) g f e = all_rows rs f box e ls g
by_box ls [] None g f e = ap {B = Option Witness} (best_of (λ v. v) shorter None) (sym (no_pairs ls))
by_box ls (b ∷ rs) None g f e = absurd (box_exists b rs e)

-- for points of binary64
closest_unskipped : (ls rs : List Point) → Each IsBinary64 ls → Each IsBinary64 rs → closest_points ls rs ≡ best_of (λ v. v) shorter None (pairs_of ls rs)
unfolding closest_points
closest_unskipped ls rs g f = by_box ls rs (box_of_all rs) g f refl

-- for vertices of any kind whose points are of binary64
closest_unskipped_of : {A : Type 0} (point : A → Point) → ((a : A) → IsBinary64 (point a)) → (ls rs : List A) → closest_points (map point ls) (map point rs) ≡ best_of point shorter None (pairs_of ls rs)
closest_unskipped_of point f ls rs =
    closest_unskipped (map point ls) (map point rs) (all_mapped point IsBinary64 f ls) (all_mapped point IsBinary64 f rs)
    ∙ best_mapped point shorter ls rs

-- ---- the third property
pub shortest_line_of : {A : Type 0} (point : A → Point) → ((a : A) → IsBinary64 (point a)) → (ls rs : List A)
    → Holds (distance_of point) at_least ls rs (closest_points (map point ls) (map point rs) ≡ None) (λ p. closest_points (map point ls) (map point rs) ≡ Some (measured point p))
shortest_line_of point f ls rs = best_holds point shortest ls rs (closest_points (map point ls) (map point rs)) (closest_unskipped_of point f ls rs)

-- The farthest sweep with its skip is the best of all pairs, none skipped. Assumes nothing.
use mathlib.Core.Path.{◌≡◌, refl, sym, ap, ◌∙◌, subst}
use mathlib.Core.Bool.{true, false, false≢true}
use mathlib.Core.List.{List, [], ◌∷◌, map}
use Rattle.std.specs.Prelude.{Some, None}
use Rattle.std.specs.declared.option.Option.{Option}
use lib.Dec.{T}
use lib.Ieee.{lt}
use Rattle.primitives.specs.declared.Point.{Point}
use Rattle.primitives.specs.declared.Witness.{Witness}
use Rattle.primitives.specs.declared.Aabb.{Aabb}
use Rattle.primitives.specs.Witnesses.{between_of}
use Rattle.extremes.specs.Pairs.{pairs_of}
use Rattle.extremes.specs.Extreme.{measured}
use Rattle.extremes.specs.Sweeps.{skipping, taking, longer, box_of_all}
use Rattle.extremes.proofs.Lists.{Each, each_both, each_weaken, all_mapped}
use Rattle.extremes.proofs.Skipping.{skips_hide_nothing}
use Rattle.extremes.proofs.PairLists.{no_pairs, fold_pairs}
use Rattle.extremes.proofs.FirstExtreme.{best_of, best_mapped}
use Rattle.extremes.proofs.BoxOfAll.{IsBinary64, Inside, box_exists, box_fitting, box_holds}
use Rattle.extremes.proofs.BoxSkips.{box_no_farther}
use Rattle.extremes.proofs.Taking.{Made, nothing, found, row_made, unbeaten_row}
use Rattle.extremes.specs.Farthest.{no_farther, farthest_from, farthest_within, farthest_of}

module _ (rs : List Point) (box : Aabb) (f : Each IsBinary64 rs) (e : box_of_all rs ≡ Some box) where
  row_keeps : (s : Option Witness) (a : Point) → Made s → IsBinary64 a → Made (farthest_from rs s a)
  unfolding farthest_from
  row_keeps s a m g = row_made longer a rs m

  -- a vertex that is skipped would have changed nothing
  pub skip_hides : (s : Option Witness) (a : Point) → Made s → IsBinary64 a → no_farther box s a ≡ true → farthest_from rs s a ≡ s
  skip_hides s a nothing g t = absurd (false≢true (unfold no_farther in t))
  skip_hides s a (found p q) g t =
      unfold farthest_from in
      unbeaten_row longer (λ b. between_of a b) (Some (between_of p q)) rs
      (each_weaken (λ (b : Point). IsBinary64 b × Inside box b) (λ (b : Point). lt (between_of p q).d (between_of a b).d ≡ false) (λ b i. box_no_farther box p q a b g i.0 (box_fitting rs box f e) i.1 (unfold no_farther in subst T (sym t) tt)) rs
      (each_both IsBinary64 (Inside box) rs f (box_holds rs box f e)))

  -- from any pair of points on
  pub all_rows : (start : Option Witness) → Made start → (ls : List Point) → Each IsBinary64 ls → skipping (no_farther box) (farthest_from rs) start ls ≡ best_of (λ v. v) longer start (pairs_of ls rs)
  unfolding farthest_from
  all_rows start m ls g =
      skips_hide_nothing (farthest_from rs) Made IsBinary64 row_keeps (no_farther box) skip_hides start ls m g
      ∙ fold_pairs (λ best p. taking longer best (measured (λ v. v) p)) rs start ls

by_box : (ls rs : List Point) (b : Option Aabb) → Each IsBinary64 ls → Each IsBinary64 rs → box_of_all rs ≡ b → farthest_within b ls rs ≡ best_of (λ v. v) longer None (pairs_of ls rs)
unfolding farthest_within
by_box ls rs (Some box) g f e = all_rows rs box f e None nothing ls g
by_box ls [] None g f e = ap {B = Option Witness} (best_of (λ v. v) longer None) (sym (no_pairs ls))
by_box ls (b ∷ rs) None g f e = absurd (box_exists b rs e)

-- for points of binary64
pub farthest_unskipped : (ls rs : List Point) → Each IsBinary64 ls → Each IsBinary64 rs → farthest_of ls rs ≡ best_of (λ v. v) longer None (pairs_of ls rs)
unfolding farthest_of
farthest_unskipped ls rs g f = by_box ls rs (box_of_all rs) g f refl

-- for vertices of any kind whose points are of binary64
pub farthest_unskipped_of : {A : Type 0} (point : A → Point) → ((a : A) → IsBinary64 (point a)) → (ls rs : List A) → farthest_of (map point ls) (map point rs) ≡ best_of point longer None (pairs_of ls rs)
farthest_unskipped_of point f ls rs =
    farthest_unskipped (map point ls) (map point rs) (all_mapped point IsBinary64 f ls) (all_mapped point IsBinary64 f rs)
    ∙ best_mapped point longer ls rs

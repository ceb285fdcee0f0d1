-- One turn of a loop over the points of a run, or over runs: what is left, from the present state on, gives what all gives. Assumes nothing.
use mathlib.Core.Path.{◌≡◌, refl, sym}
use mathlib.Core.Bool.{Bool, cond}
use mathlib.Core.List.{List, [], ◌∷◌, ◌++◌, flatten, foldl-append}
use Rattle.std.proofs.lemmas.List.{append_assoc}
use Rattle.std.specs.declared.option.Option.{Option}
use Rattle.primitives.specs.declared.Point.{Point}
use Rattle.primitives.specs.declared.Witness.{Witness}
use Rattle.primitives.specs.declared.Aabb.{Aabb}
use Rattle.primitives.specs.Witnesses.{between_of}
use Rattle.primitives.specs.Boxes.{add_point}
use Rattle.extremes.specs.Sweeps.{skipping, taking, longer}
use Rattle.extremes.specs.Farthest.{farthest_from}
use Rattle.farthest.specs.Inner.{box_with, swept}

-- ---- a vertex against points

module _ (best : Option Witness) (p : Point) where
  pub from_next : (ps : List Point) (q : Point) (left : List Point) → ps ≡ q ∷ left → farthest_from ps best p ≡ farthest_from left (taking longer best (between_of p q)) p
  unfolding farthest_from
  from_next ps q left e = rw e

  pub from_end : (ps : List Point) → ps ≡ [] → farthest_from ps best p ≡ best
  unfolding farthest_from
  from_end ps e = rw e

  pub from_append : (l m : List Point) → farthest_from (l ++ m) best p ≡ farthest_from m (farthest_from l best p) p
  unfolding farthest_from
  from_append l m = foldl-append _ best l m

  pub from_next_run : (runs : List (List Point)) (ps : List Point) (left : List (List Point)) → runs ≡ ps ∷ left → farthest_from (flatten runs) best p ≡ farthest_from (flatten left) (farthest_from ps best p) p
  unfolding flatten
  from_next_run runs ps left e = rw e (from_append ps (flatten left))

  pub from_last_run : (runs : List (List Point)) → runs ≡ [] → farthest_from (flatten runs) best p ≡ best
  unfolding flatten
  from_last_run runs e = from_end (flatten runs) (rw e)

flatten_append : (l m : List (List Point)) → flatten (l ++ m) ≡ flatten l ++ flatten m
unfolding flatten
flatten_append [] m = refl
flatten_append (ps ∷ l) m = rw (flatten_append l m) (sym (append_assoc ps (flatten l) (flatten m)))

-- class after class
pub from_classes : (best : Option Witness) (p : Point) (points lines faces : List (List Point))
    → farthest_from (flatten (points ++ (lines ++ faces))) best p ≡ farthest_from (flatten faces) (farthest_from (flatten lines) (farthest_from (flatten points) best p) p) p
from_classes best p points lines faces =
    rw (flatten_append points (lines ++ faces), flatten_append lines faces, from_append best p (flatten points) (flatten lines ++ flatten faces))
    (from_append (farthest_from (flatten points) best p) p (flatten lines) (flatten faces))

-- ---- a box with points

module _ (box : Aabb) where
  pub box_next : (ps : List Point) (q : Point) (left : List Point) → ps ≡ q ∷ left → box_with box ps ≡ box_with (add_point box q) left
  unfolding box_with
  box_next ps q left e = rw e

  pub box_end : (ps : List Point) → ps ≡ [] → box_with box ps ≡ box
  unfolding box_with
  box_end ps e = rw e

  pub box_append : (l m : List Point) → box_with box (l ++ m) ≡ box_with (box_with box l) m
  unfolding box_with
  box_append l m = foldl-append _ box l m

  pub box_next_run : (runs : List (List Point)) (ps : List Point) (left : List (List Point)) → runs ≡ ps ∷ left → box_with box (flatten runs) ≡ box_with (box_with box ps) (flatten left)
  unfolding flatten
  box_next_run runs ps left e = rw e (box_append ps (flatten left))

  pub box_last_run : (runs : List (List Point)) → runs ≡ [] → box_with box (flatten runs) ≡ box
  unfolding flatten
  box_last_run runs e = box_end (flatten runs) (rw e)

-- ---- vertices of side 1 against side 2

skipping_append : {S X : Type 0} (skip : S → X → Bool) (step : S → X → S) (s : S) (l m : List X) → skipping skip step s (l ++ m) ≡ skipping skip step (skipping skip step s l) m
unfolding skipping
skipping_append skip step s [] m = refl
skipping_append skip step s (x ∷ l) m = skipping_append skip step (cond (skip s x) s (step s x)) l m

module _ (box : Aabb) (rs : List Point) (best : Option Witness) where
  pub swept_append : (l m : List Point) → swept box rs best (l ++ m) ≡ swept box rs (swept box rs best l) m
  unfolding swept
  swept_append l m = skipping_append _ _ best l m

  pub swept_next : (ps : List Point) (q : Point) (left : List Point) → ps ≡ q ∷ left → swept box rs best ps ≡ swept box rs (swept box rs best (q ∷ [])) left
  swept_next ps q left e = rw e (swept_append (q ∷ []) left)

  pub swept_end : (ps : List Point) → ps ≡ [] → swept box rs best ps ≡ best
  unfolding swept skipping
  swept_end ps e = rw e

  pub swept_next_run : (runs : List (List Point)) (ps : List Point) (left : List (List Point)) → runs ≡ ps ∷ left → swept box rs best (flatten runs) ≡ swept box rs (swept box rs best ps) (flatten left)
  unfolding flatten
  swept_next_run runs ps left e = rw e (swept_append ps (flatten left))

  pub swept_last_run : (runs : List (List Point)) → runs ≡ [] → swept box rs best (flatten runs) ≡ best
  unfolding flatten
  swept_last_run runs e = swept_end (flatten runs) (rw e)

-- ---- what each loop takes at a turn

pub ruleset from_turns = (from_next, from_end, from_next_run, from_last_run)

pub ruleset box_turns = (box_next, box_end, box_next_run, box_last_run)

pub ruleset swept_turns = (swept_next, swept_end, swept_next_run, swept_last_run)

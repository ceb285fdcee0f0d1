-- Walking each vertex of a line once, where the definition has both ends of each segment, changes no answer. Assumes nothing.
use mathlib.Core.Path.{◌≡◌, refl, sym, ap, ◌∙◌}
use mathlib.Core.Bool.{Bool, true, false, cond, ◌&&◌}
use mathlib.Core.List.{List, [], ◌∷◌, ◌++◌, flatten, append_assoc}
use Rattle.std.specs.Prelude.{Some, None}
use Rattle.std.specs.declared.option.Option.{Option}
use Prim.Native.Nat.{ℕ, suc}
use lib.Dec.{leb}
use lib.ListN.{length}
use lib.Ieee.{is_nan}
use native.Mathlib.Omega.{arith}
use borrow.Author.Tests.{le-leb}
use Rattle.coords.specs.Parts.{Run, run, is_point, is_line, is_face, segments_by, of_kind, segment_ends, vertices_of}
use Rattle.parts.specs.declared.Class.{Class}
use Rattle.parts.specs.declared.Class.TheVariants.{Points, Lines, Faces}
use Rattle.primitives.specs.declared.Point.{Point}
use Rattle.primitives.specs.declared.Witness.{Witness}
use Rattle.primitives.specs.declared.Aabb.{Aabb}
use Rattle.primitives.specs.Boxes.{box_of_point, add_point}
use Rattle.extremes.specs.Sweeps.{box_of_all}
use Rattle.extremes.proofs.Repeats.{Repeats, done, once, again, no_repeats, repeats_append, box_repeats}
use Rattle.extremes.proofs.Taking.{Made, nothing}
use Rattle.extremes.proofs.Skipping.{skipping_stays}
use Rattle.extremes.specs.Farthest.{farthest_from, farthest_within, farthest_of}
use Rattle.farthest.specs.Inner.{has_vertices, class_vertices, vertices_once, class_runs, runs_once, empty_box, box_with, swept, swept_once}
use Rattle.farthest.proofs.Repeated.{sweep_repeats}

-- ---- classes

module _ {A : Type 0} where
  -- points and faces, each by its class
  points_once : (rs : List (Run A)) → of_kind is_point (λ cs. cs) rs ≡ class_vertices Points rs
  unfolding of_kind class_vertices has_vertices
  points_once [] = refl
  points_once (run kind cs ∷ rs) = rw (points_once rs)

  faces_once : (rs : List (Run A)) → of_kind is_face (λ cs. cs) rs ≡ class_vertices Faces rs
  unfolding of_kind class_vertices has_vertices
  faces_once [] = refl
  faces_once (run kind cs ∷ rs) = rw (faces_once rs)

  ends_repeat : (a b : A) (cs : List A) → Repeats (segment_ends (a ∷ b ∷ cs)) (a ∷ b ∷ cs)
  unfolding segment_ends segments_by flatten
  ends_repeat a b [] = once (once done)
  ends_repeat a b (d ∷ cs) = once (again (ends_repeat b d cs))

  -- a line's segment ends are its coordinates, repeated; one coordinate gives none
  line_repeats : (cs : List A) → Repeats (segment_ends cs) (cond (leb 2 (length cs)) cs [])
  unfolding segment_ends segments_by flatten
  line_repeats [] = done
  line_repeats (a ∷ []) = done
  line_repeats (a ∷ b ∷ cs) = rw (le-leb 2 (suc (suc (length cs))) (omega arith)) (ends_repeat a b cs)

  run_repeats : (kind : ℕ) (cs : List A) → Repeats (cond (is_line kind) (segment_ends cs) []) (cond (has_vertices Lines kind (length cs)) cs [])
  unfolding has_vertices
  run_repeats kind cs = go (is_line kind)
    where
      go : (b : Bool) → Repeats (cond b (segment_ends cs) []) (cond (b && leb 2 (length cs)) cs [])
      go true = line_repeats cs
      go false = done

  lines_once : (rs : List (Run A)) → Repeats (of_kind is_line segment_ends rs) (class_vertices Lines rs)
  unfolding of_kind class_vertices
  lines_once [] = done
  lines_once (run kind cs ∷ rs) = repeats_append (run_repeats kind cs) (lines_once rs)

  -- the vertices of the definition are those that are walked, repeated in their place
  pub vertices_once_lem : (rs : List (Run A)) → Repeats (vertices_of rs) (vertices_once rs)
  unfolding vertices_of vertices_once
  vertices_once_lem rs = rw (points_once rs, faces_once rs) (repeats_append (no_repeats (class_vertices Points rs)) (repeats_append (lines_once rs) (no_repeats (class_vertices Faces rs))))

  -- ---- run by run

  flatten_append : (l m : List (List A)) → flatten (l ++ m) ≡ flatten l ++ flatten m
  unfolding flatten
  flatten_append [] m = refl
  flatten_append (x ∷ l) m = rw (flatten_append l m) (sym (append_assoc x (flatten l) (flatten m)))

  class_by_runs : (class : Class) (rs : List (Run A)) → flatten (class_runs class rs) ≡ class_vertices class rs
  unfolding class_runs class_vertices flatten
  class_by_runs class [] = refl
  class_by_runs class (run kind cs ∷ rs) = go (has_vertices class kind (length cs)) (class_by_runs class rs)
    where
      go : (b : Bool) → flatten (class_runs class rs) ≡ class_vertices class rs → flatten (cond b (cs ∷ class_runs class rs) (class_runs class rs)) ≡ cond b cs [] ++ class_vertices class rs
      go true e = rw e
      go false e = e

  -- the runs that are walked have those vertices
  pub once_by_runs : (rs : List (Run A)) → flatten (runs_once rs) ≡ vertices_once rs
  unfolding runs_once vertices_once
  once_by_runs rs = rw (flatten_append (class_runs Points rs) (class_runs Lines rs ++ class_runs Faces rs), flatten_append (class_runs Lines rs) (class_runs Faces rs), class_by_runs Points rs, class_by_runs Lines rs, class_by_runs Faces rs)

-- ---- the box of NaNs

first_point : (p : Point) → add_point empty_box p ≡ box_of_point p
unfolding add_point empty_box box_of_point is_nan
first_point p = refl

-- the box of NaNs where there is none
or_empty : Option Aabb → Aabb
or_empty None = empty_box
or_empty (Some box) = box

box_of_all_lem : (ps : List Point) → box_with empty_box ps ≡ or_empty (box_of_all ps)
unfolding box_with box_of_all or_empty
box_of_all_lem [] = refl
box_of_all_lem (p ∷ ps) = rw (first_point p)

box_once : {ps qs : List Point} → Repeats ps qs → box_with empty_box ps ≡ box_with empty_box qs
box_once {ps} {qs} r = box_of_all_lem ps ∙ ap or_empty (box_repeats r) ∙ sym (box_of_all_lem qs)

-- ---- the sweep

-- the whole sweep of the code, from any pair of points on
pub swept_once_lem : (start : Option Witness) → Made start → (ls rs : List (Run Point)) → swept (box_with empty_box (vertices_of rs)) (vertices_of rs) start (vertices_of ls) ≡ swept_once start ls rs
unfolding swept_once swept
swept_once_lem start m ls rs = rw (box_once (vertices_once_lem rs)) (sweep_repeats (box_with empty_box (vertices_once rs)) (vertices_once_lem ls) (vertices_once_lem rs) start m)

nothing_found : (box : Aabb) (ls : List Point) → swept box [] None ls ≡ None
unfolding swept farthest_from
nothing_found box ls = skipping_stays _ _ None (λ a. refl) ls

-- the definition's sweep starts with the box of NaNs as well
from_empty_box : (ls rs : List Point) → farthest_of ls rs ≡ swept (box_with empty_box rs) rs None ls
unfolding farthest_of farthest_within box_of_all box_with
from_empty_box ls [] = sym (nothing_found empty_box ls)
from_empty_box ls (p ∷ rs) = unfold swept in rw (first_point p)

-- from no pair on, it is the definition's
pub farthest_once : (ls rs : List (Run Point)) → farthest_of (vertices_of ls) (vertices_of rs) ≡ swept_once None ls rs
farthest_once ls rs = from_empty_box (vertices_of ls) (vertices_of rs) ∙ swept_once_lem None nothing ls rs

-- and so is the sweep of the runs that are walked
pub farthest_by_runs : (ls rs : List (Run Point)) → farthest_of (vertices_of ls) (vertices_of rs) ≡ swept (box_with empty_box (flatten (runs_once rs))) (flatten (runs_once rs)) None (flatten (runs_once ls))
unfolding swept_once
farthest_by_runs ls rs = rw (once_by_runs ls, once_by_runs rs) (farthest_once ls rs)

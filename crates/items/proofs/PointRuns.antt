-- Where each run is a point run, the items are the vertices, each a point. Assumes nothing.
use mathlib.Core.Path.{◌≡◌, refl, sym}
use mathlib.Core.Bool.{Bool, true, false}
use mathlib.Core.List.{List, [], ◌∷◌, map, map-append, append-nil}
use Prim.Native.Nat.{ℕ}
use borrow.Author.Tests.{eqb-true}
use Rattle.coords.specs.Parts.{Run, run, map_runs, is_point, is_line, is_face, PointRunsOnly, of_kind, segment_ends, vertices_of}
use Rattle.primitives.specs.declared.Point.{Point}
use Rattle.items.specs.declared.Item.TheVariants.{Point as point}
use Rattle.items.specs.Items.{point_items, segment_items, triangle_items, items_of_kind, items_of}

pub no_line : (kind : ℕ) → is_point kind ≡ true → is_line kind ≡ false
no_line kind e = rw (eqb-true kind 1 e)

pub no_face : (kind : ℕ) → is_point kind ≡ true → is_face kind ≡ false
no_face kind e = rw (eqb-true kind 1 e)

-- runs of a kind that no point has come to nothing
none_of_kind : {B : Type 0} (test : ℕ → Bool) (f : List Point → List B) → ((kind : ℕ) → is_point kind ≡ true → test kind ≡ false) → (rs : List (Run Point)) → PointRunsOnly rs → of_kind test f rs ≡ []
unfolding PointRunsOnly of_kind
none_of_kind test f no-point [] h = refl
none_of_kind test f no-point (run kind ps ∷ rs) h = rw (no-point kind h.0) (none_of_kind test f no-point rs h.1)

only_points : (rs : List (Run Point)) → PointRunsOnly rs → of_kind is_point point_items rs ≡ map point (of_kind is_point (λ cs. cs) rs)
unfolding PointRunsOnly of_kind point_items
only_points [] h = refl
only_points (run kind ps ∷ rs) h = rw (h.0, only_points rs h.1) (sym (map-append point ps (of_kind is_point (λ cs. cs) rs)))

-- and so no triangle
pub no_triangles_of_points : (rs : List (Run Point)) → PointRunsOnly rs → items_of_kind is_face triangle_items rs ≡ []
no_triangles_of_points rs h = none_of_kind is_face triangle_items no_face rs h

pub items_of_points : (rs : List (Run Point)) → PointRunsOnly rs → items_of rs ≡ map point (vertices_of rs)
unfolding items_of vertices_of
items_of_points rs h =
    rw (none_of_kind is_line segment_items no_line rs h, none_of_kind is_face triangle_items no_face rs h, none_of_kind is_line segment_ends no_line rs h, none_of_kind is_face (λ cs. cs) no_face rs h, append-nil, append-nil)
    (only_points rs h)

pub point_runs_mapped : {A B : Type 0} (f : A → B) (rs : List (Run A)) → PointRunsOnly rs → PointRunsOnly (map_runs f rs)
unfolding PointRunsOnly map_runs
point_runs_mapped f [] h = tt
point_runs_mapped f (run kind cs ∷ rs) h = (h.0, point_runs_mapped f rs h.1)

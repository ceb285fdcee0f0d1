-- How many items there are at most. Assumes nothing.
use mathlib.Core.Path.{◌≡◌, refl}
use mathlib.Core.Bool.{Bool, true, false, cond}
use mathlib.Core.List.{List, [], ◌∷◌, map}
use Prim.Native.Nat.{ℕ, ◌+◌, ◌*◌, ◌≤◌}
use native.Mathlib.Omega.{arith}
use lib.ListN.{length, take, drop, length-append, length-map, length-take}
use lib.Ieee.{Float}
use borrow.Author.Tests.{eqb-true}
use Rattle.workspace.specs.Workspace.{floats_per_coordinate}
use Rattle.coords.specs.Parts.{Run, run, is_point, is_line, is_face, segments_by}
use Rattle.primitives.specs.declared.Point.{Point}
use Rattle.parts.specs.Stored.{stored_runs, point_count, Laid}
use Rattle.parts.proofs.Slices.{length_points_in}
use Rattle.items.specs.declared.Item.{Item}
use Rattle.items.specs.declared.Item.TheVariants.{Point as point, Segment as segment}
use Rattle.items.specs.Items.{fan, point_items, segment_items, triangle_items, items_of_kind, items_of}
use Rattle.items.proofs.PointRuns.{no_line, no_face}

-- how many points runs have
unfoldable pub point_total : List (Run Point) → ℕ
point_total [] = 0
point_total (run kind ps ∷ rs) = length ps + point_total rs

-- ---- a run

segments_fewer : (f : Point → Point → Item) (ps : List Point) → length (segments_by f ps) ≤ length ps
unfolding segments_by
segments_fewer f [] = omega arith
segments_fewer f (a ∷ []) = omega arith
segments_fewer f (a ∷ b ∷ ps) = omega (arith, segments_fewer f (b ∷ ps))

triangles_fewer : (ps : List Point) → length (triangle_items ps) ≤ length ps
unfolding triangle_items
triangles_fewer [] = omega arith
triangles_fewer (a ∷ ps) = omega (arith, segments_fewer (fan a) ps)

no_line_face : (kind : ℕ) → is_line kind ≡ true → is_face kind ≡ false
no_line_face kind e = rw (eqb-true kind 2 e)

-- it is of one class at most
run_at_most : (kind : ℕ) (ps : List Point) → length (cond (is_point kind) (point_items ps) []) + (length (cond (is_line kind) (segment_items ps) []) + length (cond (is_face kind) (triangle_items ps) [])) ≤ length ps
unfolding point_items segment_items
run_at_most kind ps = go (is_point kind) (is_line kind) (is_face kind) (no_line kind) (no_face kind) (no_line_face kind)
  where
    go : (p l f : Bool) → (p ≡ true → l ≡ false) → (p ≡ true → f ≡ false) → (l ≡ true → f ≡ false) → length (cond p (map point ps) []) + (length (cond l (segments_by segment ps) []) + length (cond f (triangle_items ps) [])) ≤ length ps
    go true l f u v w = rw (u refl, v refl) (omega (arith, length-map ps point))
    go false true f u v w = rw (w refl) (omega (arith, segments_fewer segment ps))
    go false false true u v w = omega (arith, triangles_fewer ps)
    go false false false u v w = omega arith

-- ---- all runs

-- no more than points
pub items_at_most : (rs : List (Run Point)) → length (items_of rs) ≤ point_total rs
unfolding items_of items_of_kind point_total
items_at_most [] = omega arith
items_at_most (run kind ps ∷ rs) = omega (arith, run_at_most kind ps, items_at_most rs, length-append {A = Item})

stored_at_most : (table : List ℕ) (floats : List Float) → point_total (stored_runs table floats) ≤ point_count table
unfolding point_total stored_runs point_count
stored_at_most [] floats = omega arith
stored_at_most (kind ∷ []) floats = omega arith
stored_at_most (kind ∷ count ∷ table) floats =
    let width = floats_per_coordinate * count in
    omega (arith, length_points_in (take width floats), length-take width floats, stored_at_most table (drop width floats))

-- so that floats count them
pub items_counted : (table : List ℕ) (floats : List Float) → Laid table floats → floats_per_coordinate * length (items_of (stored_runs table floats)) ≤ length floats
unfolding Laid
items_counted table floats l = omega (arith, items_at_most (stored_runs table floats), stored_at_most table floats)

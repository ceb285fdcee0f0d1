-- Where each side holds points only, the closest sweep is the one over points, with its third property. Assumes nothing.
use mathlib.Core.Path.{◌≡◌, refl, ap, ◌∙◌}
use mathlib.Core.List.{List, [], ◌∷◌, foldl, map}
use Rattle.std.specs.Prelude.{None, Some}
use Rattle.std.specs.declared.option.Option.{Option}
use Rattle.primitives.specs.declared.Point.{Point}
use Rattle.primitives.specs.declared.Witness.{Witness}
use Rattle.primitives.specs.declared.Aabb.{Aabb}
use Rattle.primitives.specs.Witnesses.{between_of}
use Rattle.primitives.specs.Boxes.{box_of_point, add_point, union_of}
use Rattle.extremes.specs.Sweeps.{taking, shorter, box_of_all}
use Rattle.extremes.specs.Extreme.{measured, distance_of, at_least, Holds}
use Rattle.extremes.proofs.BoxOfAll.{IsBinary64}
use Rattle.extremes.proofs.ClosestPoints as points
use Rattle.extremes.proofs.ClosestPoints.{closest_points, shortest_line_of}
use Rattle.extremes.proofs.PointsOnly as items
use Rattle.coords.specs.Parts.{Run, map_runs, PointRunsOnly, vertices_of}
use Rattle.coords.proofs.Parts.{vertices_map}
use Rattle.items.specs.declared.Item.{Item}
use Rattle.items.specs.declared.Item.TheVariants.{Point as point}
use Rattle.items.specs.Items.{items_of, box_of_item, unite_item, box_of_items}
use Rattle.items.proofs.PointRuns.{items_of_points, point_runs_mapped}
use Rattle.items.specs.Candidates.{candidates_of}
use Rattle.items.specs.Closest.{with_item, with_each, sweep_of, closest_within, closest_of}

box_is : (p : Point) → box_of_item (point p) ≡ box_of_point p
unfolding box_of_item
box_is p = refl

offer_is : (s : Option Witness) (p q : Point) → with_item (point p) s (point q) ≡ taking shorter s (between_of p q)
unfolding with_item candidates_of
offer_is s p q = refl

unite_all : (b : Aabb) (l : List Item) → foldl unite_item (Some b) l ≡ Some (foldl (λ c i. union_of c (box_of_item i)) b l)
unfolding unite_item
unite_all b [] = refl
unite_all b (i ∷ l) = unite_all (union_of b (box_of_item i)) l

box_of_points : (q : Point) (l : List Point) → box_of_items (map point (q ∷ l)) ≡ Some (foldl add_point (box_of_point q) l)
unfolding box_of_items unite_item
box_of_points q l =
    unite_all (box_of_item (point q)) (map point l)
    ∙ ap {B = Option Aabb} Some (items.box_of_items_lem point box_of_item box_is with_item offer_is q l)

within : (box : Aabb) (ps qs : List Point) → closest_within (Some box) (map point ps) (map point qs) ≡ points.closest_within (Some box) ps qs
unfolding closest_within sweep_of with_each points.closest_within
within box ps qs = items.outer_items point box_of_item box_is with_item offer_is box ps qs

pub points_only : (ps qs : List Point) → closest_of (map point ps) (map point qs) ≡ closest_points ps qs
unfolding closest_of closest_points box_of_all
points_only ps [] = unfold box_of_items closest_within points.closest_within in refl
points_only ps (q ∷ qs) = ap (λ (b : Option Aabb). closest_within b (map point ps) (map point (q ∷ qs))) (box_of_points q qs) ∙ within (foldl add_point (box_of_point q) qs) ps (q ∷ qs)

-- the third property: `point_of` is the point of a vertex
pub shortest_line : {A : Type 0} (point_of : A → Point) → ((a : A) → IsBinary64 (point_of a)) → (ls rs : List A)
    → Holds (distance_of point_of) at_least ls rs (closest_of (map point (map point_of ls)) (map point (map point_of rs)) ≡ None)
    (λ p. closest_of (map point (map point_of ls)) (map point (map point_of rs)) ≡ Some (measured point_of p))
shortest_line point_of f ls rs = rw (points_only (map point_of ls) (map point_of rs)) (shortest_line_of point_of f ls rs)

-- the same of runs, each of them a point run
pub shortest_line_of_runs : {A : Type 0} (point_of : A → Point) → ((a : A) → IsBinary64 (point_of a)) → (ls rs : List (Run A)) → PointRunsOnly ls → PointRunsOnly rs
    → Holds (distance_of point_of) at_least (vertices_of ls) (vertices_of rs) (closest_of (items_of (map_runs point_of ls)) (items_of (map_runs point_of rs)) ≡ None)
    (λ p. closest_of (items_of (map_runs point_of ls)) (items_of (map_runs point_of rs)) ≡ Some (measured point_of p))
shortest_line_of_runs point_of f ls rs g h =
    rw (items_of_points (map_runs point_of ls) (point_runs_mapped point_of ls g), items_of_points (map_runs point_of rs) (point_runs_mapped point_of rs h), vertices_map point_of ls, vertices_map point_of rs)
    (shortest_line point_of f (vertices_of ls) (vertices_of rs))

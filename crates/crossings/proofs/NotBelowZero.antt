-- The distance of a candidate by rule 2 is a value of binary64 that is never below 0. Assumes nothing.
use mathlib.Core.Path.{◌≡◌, refl, subst}
use mathlib.Core.List.{List, [], ◌∷◌}
use Rattle.primitives.specs.declared.Point.{Point}
use Rattle.primitives.specs.declared.Witness.{Witness}
use Rattle.measures.specs.declared.Triangle.{Triangle}
use Rattle.extremes.proofs.Lists.{Each, each_weaken, each_append}
use Rattle.measures.proofs.NotBelowZero.{Distant, triangle_triangle_lem}
use Rattle.items.specs.declared.Item.{Item}
use Rattle.items.specs.declared.Item.TheVariants.{Point as point, Segment as segment, Triangle as triangle}
use Rattle.items.specs.Candidates.{candidates_of}
use Rattle.items.proofs.NotBelowZero.{candidates_not_below}
use Rattle.crossings.specs.Crossings.{crossing, triangle_crossings, triangle_triangle_by_rule2, candidates_by_rule2}
use Rattle.crossings.proofs.Touching.{Touching, crossing_touches, triangles_touch}
use Rattle.crossings.proofs.Decides.{triangles_by_first}
use Rattle.crossings.proofs.NoCrossing.{triangles_without_crossing}

crossing_distant : (s e : Point) (t : Triangle) → Each Distant (crossing s e t)
crossing_distant s e t = each_weaken Touching Distant (λ w k. k.distant) (crossing s e t) (crossing_touches s e t)

pub triangles_by_rule_2_distant : (t u : Triangle) → Distant (triangle_triangle_by_rule2 t u)
triangles_by_rule_2_distant t u = go (triangle_crossings t u) refl
  where
    go : (cs : List Witness) → triangle_crossings t u ≡ cs → Distant (triangle_triangle_by_rule2 t u)
    go [] h = rw (triangles_without_crossing t u h) (triangle_triangle_lem t u)
    go (w ∷ ws) h =
        let k : Each Touching (w ∷ ws) = subst (Each Touching) h (triangles_touch t u) in
        rw (triangles_by_first t u w ws h) k.0.distant

pub candidates_by_rule_2_not_below : (o i : Item) → Each Distant (candidates_by_rule2 o i)
unfolding candidates_by_rule2
candidates_by_rule_2_not_below (point p) (point q) = candidates_not_below (point p) (point q)
candidates_by_rule_2_not_below (point p) (segment s e) = candidates_not_below (point p) (segment s e)
candidates_by_rule_2_not_below (point p) (triangle t) = candidates_not_below (point p) (triangle t)
candidates_by_rule_2_not_below (segment s e) (point q) = candidates_not_below (segment s e) (point q)
candidates_by_rule_2_not_below (segment s e) (segment u v) = candidates_not_below (segment s e) (segment u v)
candidates_by_rule_2_not_below (segment s e) (triangle t) = each_append Distant (crossing s e t) (candidates_of (segment s e) (triangle t)) (crossing_distant s e t) (candidates_not_below (segment s e) (triangle t))
candidates_by_rule_2_not_below (triangle t) (point q) = candidates_not_below (triangle t) (point q)
candidates_by_rule_2_not_below (triangle t) (segment s e) = each_append Distant (crossing s e t) (candidates_of (triangle t) (segment s e)) (crossing_distant s e t) (candidates_not_below (triangle t) (segment s e))
candidates_by_rule_2_not_below (triangle t) (triangle u) = (triangles_by_rule_2_distant t u, tt)

-- Where there is a crossing, the first one decides: offering all candidates of the pair is offering it alone. Assumes nothing.
use mathlib.Core.Path.{◌≡◌, refl, sym, ap, ◌∙◌, subst}
use mathlib.Core.Bool.{false}
use mathlib.Core.List.{List, [], ◌∷◌, ◌++◌, foldl, cons-ne-nil}
use Rattle.std.specs.declared.option.Option.{Option}
use lib.Ieee.{lt, eq}
use Rattle.primitives.specs.declared.Point.{Point}
use Rattle.primitives.specs.declared.Witness.{Witness}
use Rattle.measures.specs.declared.Triangle.{Triangle}
use Rattle.primitives.specs.Witnesses.{witness_of, smaller_of}
use Rattle.extremes.specs.Sweeps.{shorter, taking}
use Rattle.extremes.proofs.Lists.{Each, each_weaken, each_append}
use Rattle.extremes.specs.BestSoFar.{BestFits}
use Rattle.measures.specs.Measures.{closer_of, segment_edges, infinitely_far}
use Rattle.measures.specs.InnerOffers.{offered_all}
use Rattle.measures.proofs.NotBelowZero.{Distant}
use Rattle.measures.proofs.Smallest.{Fitting, smallest_offered, smallest_first}
use Rattle.items.specs.declared.Item.{Item}
use Rattle.items.specs.declared.Item.TheVariants.{Point as point, Segment as segment, Triangle as triangle}
use Rattle.items.specs.Candidates.{candidates_of}
use Rattle.items.proofs.NotBelowZero.{candidates_not_below}
use Rattle.crossings.specs.Crossings.{crossing, triangle_crossings, triangle_triangle_from, triangle_triangle_by_rule2, candidates_by_rule2}
use Rattle.crossings.specs.InnerCrossings.{crossings_of}
use Rattle.crossings.proofs.Touching.{Touching, touching_number, zero_below_infinity, crossing_touches, triangles_touch}

-- ---- offered to a best

-- a witness at distance 0 decides: no candidate after it is below 0, and a best that it does not beat is at most 0 or NaN
pub zero_decides : (best : Option Witness) (w : Witness) (ws : List Witness) → BestFits best → Touching w → Each Distant ws → offered_all best (w ∷ ws) ≡ taking shorter best w
zero_decides best w ws f t e =
    sym (smallest_offered best w ws f (touching_number w t) (each_weaken Distant Fitting (λ v h. h.fit) ws e))
    ∙ ap (taking shorter best)
    (smallest_first w ws (each_weaken Distant (λ (v : Witness). lt v.d w.d ≡ false) (λ v h. h.distance w.d t.zero) ws e))

-- crossings, and candidates after them
first_decides : (best : Option Witness) (w : Witness) (cs ws vs : List Witness) → BestFits best → Each Touching cs → Each Distant vs → cs ≡ w ∷ ws → offered_all best (cs ++ vs) ≡ taking shorter best w
first_decides best w [] ws vs f t d e = absurd (cons-ne-nil w ws (sym e))
first_decides best w (u ∷ us) ws vs f t d e =
    zero_decides best u (us ++ vs) f t.0 (each_append Distant us vs (each_weaken Touching Distant (λ v h. h.distant) us t.1) d)
    ∙ ap (taking shorter best) (cc)

-- ---- two triangles

-- a best of distance 0 is kept
zero_kept : (w v : Witness) → Touching w → closer_of w v ≡ w
unfolding closer_of
zero_kept w v t = rw t.zero

row_kept : (w : Witness) (vs : List Witness) → Touching w → foldl closer_of w vs ≡ w
row_kept w [] t = refl
row_kept w (v ∷ vs) t = rw (zero_kept w v t) (row_kept w vs t)

edges_kept : (w : Witness) (p q : Point) (u : Triangle) → Touching w → segment_edges w p q u ≡ w
unfolding segment_edges
edges_kept w p q u t = rw (zero_kept w _ t, zero_kept w _ t, zero_kept w _ t)

-- from +infinity the first crossing is taken
infinity_replaced : (a d : Point) (w : Witness) → Touching w → closer_of (infinitely_far a d) w ≡ w
unfolding closer_of infinitely_far witness_of smaller_of eq
infinity_replaced a d w t = rw (zero_below_infinity w.d t.zero)

from_zero : (w : Witness) (t u : Triangle) → Touching w → triangle_triangle_from w t u ≡ w
unfolding triangle_triangle_from
from_zero w t u k = rw (edges_kept w t.a t.b u k, edges_kept w t.b t.c u k, edges_kept w t.c t.a u k, k.zero)

-- the first of the crossings of two triangles is what rule 2 measures them by
pub triangles_by_first : (t u : Triangle) (w : Witness) (ws : List Witness) → triangle_crossings t u ≡ w ∷ ws → triangle_triangle_by_rule2 t u ≡ w
unfolding triangle_triangle_by_rule2
triangles_by_first t u w ws h =
    let k : Each Touching (w ∷ ws) = subst (Each Touching) h (triangles_touch t u) in
    rw (h, infinity_replaced t.a u.a w k.0, row_kept w ws k.0) (from_zero w t u k.0)

-- ---- two items

-- w is the first crossing
pub crossing_decides : (best : Option Witness) (o i : Item) (w : Witness) (ws : List Witness) → BestFits best → crossings_of o i ≡ w ∷ ws → offered_all best (candidates_by_rule2 o i) ≡ taking shorter best w
unfolding crossings_of candidates_by_rule2
crossing_decides best (point p) i w ws f h = absurd (cons-ne-nil w ws (sym h))
crossing_decides best (segment s e) (point q) w ws f h = absurd (cons-ne-nil w ws (sym h))
crossing_decides best (segment s e) (segment u v) w ws f h = absurd (cons-ne-nil w ws (sym h))
crossing_decides best (segment s e) (triangle t) w ws f h = first_decides best w (crossing s e t) ws (candidates_of (segment s e) (triangle t)) f (crossing_touches s e t) (candidates_not_below (segment s e) (triangle t)) h
crossing_decides best (triangle t) (point q) w ws f h = absurd (cons-ne-nil w ws (sym h))
crossing_decides best (triangle t) (segment s e) w ws f h = first_decides best w (crossing s e t) ws (candidates_of (triangle t) (segment s e)) f (crossing_touches s e t) (candidates_not_below (triangle t) (segment s e)) h
crossing_decides best (triangle t) (triangle u) w ws f h = ap (taking shorter best) (triangles_by_first t u w ws h)

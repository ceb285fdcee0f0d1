-- Two triangles: +infinity, then each pair of edges and each vertex offered in turn. Assumes nothing.
use mathlib.Core.Path.{◌≡◌, refl, sym, ap, ◌∙◌}
use mathlib.Core.Bool.{Bool, true, false, cond}
use mathlib.Core.List.{List, ◌++◌, foldl}
use Rattle.std.specs.declared.option.Option.{Option}
use lib.Ieee.{lt, eq, is_nan}
use Rattle.ieee754.specs.MinMax.{positive_zero}
use Rattle.primitives.specs.declared.Point.{Point}
use Rattle.primitives.specs.declared.Witness.{Witness}
use Rattle.measures.specs.declared.Triangle.{Triangle}
use Rattle.primitives.specs.Witnesses.{witness_of, smaller_of}
use Rattle.measures.specs.Measures.{closer_of, segment_edges, infinitely_far, edge_pairs, first_vertices, second_vertices, triangle_triangle}
use Rattle.extremes.specs.Sweeps.{shorter, taking}
use Rattle.extremes.proofs.Lists.{Each, each_weaken, each_append}
use Rattle.extremes.proofs.Senses.{Number}
use Rattle.extremes.specs.BestSoFar.{BestFits, at_zero}
use Rattle.measures.proofs.BestWitness.{zero_stays}
use Rattle.measures.specs.InnerOffers.{edge_witnesses, vertex_witnesses, shared_by_first, shared_by_second, offered_all, AllSettled}
use Rattle.measures.proofs.NotBelowZero.{Distant, infinite, flipped, segment_segment_lem, point_triangle_lem}
use Rattle.measures.proofs.Settled.{still_fits, offered_settled}
use Rattle.measures.proofs.Smallest.{Fitting, smallest_offered, smallest_first, not_less_stays}

-- what two triangles are measured by, in order: the edges of the first with those of the second, then the vertices of each
abbrev pub triangle_witnesses : Triangle → Triangle → List Witness
triangle_witnesses t u =
    edge_witnesses t.a t.b u
    ++ (edge_witnesses t.b t.c u
    ++ (edge_witnesses t.c t.a u
    ++ (vertex_witnesses false t u ++ vertex_witnesses true u t)))

-- ---- None is below 0
pub edges_distant : (p q : Point) (t : Triangle) → Each Distant (edge_witnesses p q t)
edges_distant p q t = (segment_segment_lem p q t.a t.b, (segment_segment_lem p q t.b t.c, (segment_segment_lem p q t.c t.a, tt)))

pub vertices_distant : (flip : Bool) (t u : Triangle) → Each Distant (vertex_witnesses flip t u)
vertices_distant false t u = (point_triangle_lem t.a u, (point_triangle_lem t.b u, (point_triangle_lem t.c u, tt)))
vertices_distant true t u = (flipped _ (point_triangle_lem t.a u), (flipped _ (point_triangle_lem t.b u), (flipped _ (point_triangle_lem t.c u), tt)))

pub shared_first_distant : (a b : Point) (u : Triangle) → Each Distant (shared_by_first a b u)
shared_first_distant a b u = (point_triangle_lem a u, (point_triangle_lem b u, edges_distant b a u))

pub shared_second_distant : (t : Triangle) (d e : Point) → Each Distant (shared_by_second t d e)
shared_second_distant t d e = (
  flipped _ (point_triangle_lem d t),
  (
    flipped _ (point_triangle_lem e t),
    (segment_segment_lem t.a t.b e d, (segment_segment_lem t.b t.c e d, (segment_segment_lem t.c t.a e d, tt))),
  ),
)

-- a best of distance 0 stays
pub zero_edges : (best : Option Witness) (p q : Point) (t : Triangle) → at_zero best ≡ true → best ≡ offered_all best (edge_witnesses p q t)
zero_edges best p q t z = sym (zero_stays best (edge_witnesses p q t) z (edges_distant p q t))

pub zero_vertices : (best : Option Witness) (flip : Bool) (t u : Triangle) → at_zero best ≡ true → best ≡ offered_all best (vertex_witnesses flip t u)
zero_vertices best flip t u z = sym (zero_stays best (vertex_witnesses flip t u) z (vertices_distant flip t u))

-- a best of distance 0 is the smallest
zero_smallest : (w : Witness) (ws : List Witness) → Each Distant ws → eq w.d positive_zero ≡ true → foldl smaller_of w ws ≡ w
zero_smallest w ws e z = smallest_first w ws (each_weaken Distant (λ (v : Witness). lt v.d w.d ≡ false) (λ v h. h.distance w.d z) ws e)

-- so the stops at 0 change nothing
closer_smaller : (w v : Witness) → Distant v → closer_of w v ≡ smaller_of w v
unfolding closer_of
closer_smaller w v h = go (eq w.d positive_zero) refl
  where
    go : (b : Bool) → eq w.d positive_zero ≡ b → cond b w (smaller_of w v) ≡ smaller_of w v
    go true z = sym (not_less_stays w v (h.distance w.d z))
    go false z = refl

edges_smallest : (w : Witness) (p q : Point) (t : Triangle) → segment_edges w p q t ≡ foldl smaller_of w (edge_witnesses p q t)
unfolding segment_edges
edges_smallest w p q t = rw (closer_smaller _ _ (segment_segment_lem p q t.a t.b), closer_smaller _ _ (segment_segment_lem p q t.b t.c), closer_smaller _ _ (segment_segment_lem p q t.c t.a))

module _ (t u : Triangle) where
  pairs_smallest : edge_pairs t u ≡ foldl smaller_of (infinitely_far t.a u.a) (edge_witnesses t.a t.b u ++ (edge_witnesses t.b t.c u ++ edge_witnesses t.c t.a u))
  unfolding edge_pairs
  pairs_smallest = rw (edges_smallest (infinitely_far t.a u.a) t.a t.b u, edges_smallest _ t.b t.c u, edges_smallest _ t.c t.a u)

  -- what is offered after the edges
  abbrev vertices : List Witness
  vertices = vertex_witnesses false t u ++ vertex_witnesses true u t

  both_distant : Each Distant vertices
  both_distant = each_append Distant (vertex_witnesses false t u) (vertex_witnesses true u t) (vertices_distant false t u) (vertices_distant true u t)

  pub all_distant : Each Distant (triangle_witnesses t u)
  all_distant =
      each_append Distant (edge_witnesses t.a t.b u) (edge_witnesses t.b t.c u ++ (edge_witnesses t.c t.a u ++ vertices)) (edges_distant t.a t.b u)
      (each_append Distant (edge_witnesses t.b t.c u) (edge_witnesses t.c t.a u ++ vertices) (edges_distant t.b t.c u)
      (each_append Distant (edge_witnesses t.c t.a u) vertices (edges_distant t.c t.a u) both_distant))

  triangles_smallest : triangle_triangle t u ≡ foldl smaller_of (infinitely_far t.a u.a) (triangle_witnesses t u)
  unfolding triangle_triangle first_vertices second_vertices
  triangles_smallest = go (eq (edge_pairs t u).d positive_zero) refl ∙ ap (λ (w : Witness). foldl smaller_of w vertices) pairs_smallest
    where
      go : (b : Bool) → eq (edge_pairs t u).d positive_zero ≡ b → cond b (edge_pairs t u) (foldl smaller_of (edge_pairs t u) vertices) ≡ foldl smaller_of (edge_pairs t u) vertices
      go true z = sym (zero_smallest (edge_pairs t u) vertices both_distant z)
      go false z = refl

  infinity_number : Number (infinitely_far t.a u.a).d
  unfolding infinitely_far witness_of is_nan
  infinity_number = record { fit = (infinite t.a u.a).fit; real = tt }

  pub triangles_offered : (s : Option Witness) → BestFits s → taking shorter s (triangle_triangle t u) ≡ offered_all (taking shorter s (infinitely_far t.a u.a)) (triangle_witnesses t u)
  triangles_offered s g =
      ap (taking shorter s) triangles_smallest
      ∙ smallest_offered s (infinitely_far t.a u.a) (triangle_witnesses t u) g infinity_number
      (each_weaken Distant Fitting (λ w h. h.fit) (triangle_witnesses t u) all_distant)

  -- after the offer, what the next triangle of either fan shares is settled
  all_settled : (best : Option Witness) → BestFits best → AllSettled (taking shorter best (triangle_triangle t u)) (triangle_witnesses t u)
  all_settled best g =
      rw (triangles_offered best g)
      (offered_settled (taking shorter best (infinitely_far t.a u.a)) (triangle_witnesses t u) (still_fits best (infinitely_far t.a u.a) g (infinite t.a u.a)) all_distant)

  pub settled_first : (best : Option Witness) → BestFits best → AllSettled (taking shorter best (triangle_triangle t u)) (shared_by_first t.a t.c u)
  unfolding AllSettled
  settled_first best g =
      let all = (all_settled best g).1.1.1.1.1.1 in
      (all.1.1.1.0, (all.1.1.1.1.1.0, (all.0, (all.1.0, (all.1.1.0, tt)))))

  pub settled_second : (best : Option Witness) → BestFits best → AllSettled (taking shorter best (triangle_triangle t u)) (shared_by_second t u.a u.c)
  unfolding AllSettled
  settled_second best g =
      let all = all_settled best g in
      let last = all.1.1.1.1.1.1.1.1.1.1.1.1 in
      (last.0, (last.1.1.0, (all.1.1.0, (all.1.1.1.1.1.0, (all.1.1.1.1.1.1.1.1.0, tt)))))

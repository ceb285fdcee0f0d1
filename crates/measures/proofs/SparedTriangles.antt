-- Two triangles of which one follows a measured one in its run: what may be passed over, as the candidates are offered. Assumes nothing.
use mathlib.Core.Path.{◌≡◌}
use mathlib.Core.Bool.{true, false}
use mathlib.Core.List.{List, [], ◌∷◌}
use Rattle.std.specs.declared.option.Option.{Option}
use Rattle.primitives.specs.declared.Witness.{Witness}
use Rattle.extremes.specs.Sweeps.{shorter, taking}
use Rattle.extremes.specs.BestSoFar.{BestFits}
use Rattle.extremes.proofs.Lists.{Each}
use Rattle.measures.specs.declared.Triangle.{Triangle}
use Rattle.measures.specs.declared.Follows.{Follows}
use Rattle.measures.specs.Measures.{segment_segment, infinitely_far}
use Rattle.measures.specs.InnerOffers.{offered_all, AllSettled, edge_witnesses, first_two, vertex_witnesses, shared_by_first, shared_by_second, Spared}
use Rattle.measures.proofs.NotBelowZero.{Distant, infinite}
use Rattle.measures.proofs.Settled.{still_fit, settled_stays}
use Rattle.measures.proofs.TwoTriangles.{edges_distant, vertices_distant, shared_first_distant, shared_second_distant}

module _ {t u : Triangle} {follows : Follows} {best : Option Witness} (s : Spared t u follows best) where
  -- and so after other candidates
  spared_after : (vs : List Witness) → BestFits best → Each Distant vs → Spared t u follows (offered_all best vs)
  spared_after vs f g =
      record {
        first = λ e. settled_stays best (shared_by_first t.a t.b u) vs f (shared_first_distant t.a t.b u) g (s.first e);
        second = λ e. settled_stays best (shared_by_second t u.a u.b) vs f (shared_second_distant t u.a u.b) g (s.second e);
      }

  -- the first two vertices of t, and of u
  pub first_spared : follows.first ≡ true → AllSettled best (first_two false t u)
  unfolding AllSettled
  first_spared e = ((s.first e).0, ((s.first e).1.0, tt))

  pub second_spared : follows.second ≡ true → AllSettled best (first_two true u t)
  unfolding AllSettled
  second_spared e = ((s.second e).0, ((s.second e).1.0, tt))

  -- the edge b c of t where its c is its a
  pub middle_spared : (follows.first ≡ true) × (t.a ≡ t.c) → offered_all best (edge_witnesses t.b t.c u) ≡ best
  unfolding AllSettled
  middle_spared e = let v = (s.first e.0).1.1 in rw (← e.1, v.0, v.1.0, v.1.1.0)

  -- the edge b c of u where its c is its a, with each edge of t
  pub other_spared : (follows.second ≡ true) × (u.a ≡ u.c) → (taking shorter best (segment_segment t.a t.b u.b u.c) ≡ best) × (taking shorter best (segment_segment t.b t.c u.b u.c) ≡ best) × (taking shorter best (segment_segment t.c t.a u.b u.c) ≡ best)
  unfolding AllSettled
  other_spared e = let v = (s.second e.0).1.1 in rw (← e.1) (v.0, v.1.0, v.1.1.0)

-- ---- the best in the course of the offers
module _ (t u : Triangle) (best : Option Witness) where
  -- after +infinity, after each edge of t, and after the vertices of t
  abbrev pub start : Option Witness
  start = taking shorter best (infinitely_far t.a u.a)

  abbrev pub at_first : Option Witness
  at_first = offered_all start (edge_witnesses t.a t.b u)

  abbrev pub at_second : Option Witness
  at_second = offered_all at_first (edge_witnesses t.b t.c u)

  abbrev pub at_third : Option Witness
  at_third = offered_all at_second (edge_witnesses t.c t.a u)

  abbrev pub at_fourth : Option Witness
  at_fourth = offered_all at_third (vertex_witnesses false t u)

  module _ {follows : Follows} (s : Spared t u follows best) (f : BestFits best) where
    start_fits : BestFits start
    start_fits = still_fit best (infinitely_far t.a u.a ∷ []) f (infinite t.a u.a, tt)

    first_fits : BestFits at_first
    first_fits = still_fit start (edge_witnesses t.a t.b u) start_fits (edges_distant t.a t.b u)

    second_fits : BestFits at_second
    second_fits = still_fit at_first (edge_witnesses t.b t.c u) first_fits (edges_distant t.b t.c u)

    pub spared_start : Spared t u follows start
    spared_start = spared_after s (infinitely_far t.a u.a ∷ []) f (infinite t.a u.a, tt)

    pub spared_first : Spared t u follows at_first
    spared_first = spared_after spared_start (edge_witnesses t.a t.b u) start_fits (edges_distant t.a t.b u)

    pub spared_second : Spared t u follows at_second
    spared_second = spared_after spared_first (edge_witnesses t.b t.c u) first_fits (edges_distant t.b t.c u)

    pub spared_third : Spared t u follows at_third
    spared_third = spared_after spared_second (edge_witnesses t.c t.a u) second_fits (edges_distant t.c t.a u)

    pub spared_fourth : Spared t u follows at_fourth
    spared_fourth = spared_after spared_third (vertex_witnesses false t u) (still_fit at_second (edge_witnesses t.c t.a u) second_fits (edges_distant t.c t.a u)) (vertices_distant false t u)

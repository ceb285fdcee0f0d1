-- A point and a triangle's edges: offered edge by edge, unless the first one's distance is NaN. Assumes nothing.
use mathlib.Core.Path.{◌≡◌, refl, sym, ap, ◌∙◌}
use mathlib.Core.Bool.{Bool, true, false, cond}
use mathlib.Core.List.{List, [], ◌∷◌, foldl}
use Rattle.std.specs.declared.option.Option.{Option}
use lib.Ieee.{lt, le}
use Rattle.ieee754.specs.MinMax.{positive_zero}
use Rattle.ieee754.specs.Root.{root_of}
use Rattle.ieee754.proofs.FloatOrder.{lt_nan_right}
use Rattle.ieee754.proofs.RootLaws.{root_fits}
use Rattle.primitives.specs.declared.Point.{Point}
use Rattle.primitives.specs.declared.Witness.{Witness}
use Rattle.measures.specs.declared.Triangle.{Triangle}
use Rattle.primitives.specs.Witnesses.{witness_of, smaller_of, flipped_of}
use Rattle.primitives.specs.declared.UnrootedWitness.{UnrootedWitness}
use Rattle.primitives.specs.Unrooted.{StandsFor}
use Rattle.measures.specs.Measures.{normal_of, foot_of, foot_inside, inner_foot, point_segment, point_edges, point_triangle}
use Rattle.std.specs.Prelude.{None, Some}
use Rattle.std.proofs.lemmas.Option.{none-some, same_Some}
use Rattle.primitives.specs.Witnesses.{between_of}
use Rattle.extremes.specs.Sweeps.{shorter, taking}
use Rattle.extremes.proofs.Lists.{each_all}
use Rattle.extremes.specs.BestSoFar.{BestFits}
use Rattle.measures.specs.InnerOffers.{offered_all, flipped_if}
use Rattle.measures.proofs.NotBelowZero.{Distant, flipped, point_segment_lem}
use Rattle.measures.proofs.Roots.{root_real, root_nan}
use Rattle.measures.proofs.BestWitness.{stands_distance, smaller_leaves}
use Rattle.measures.proofs.Smallest.{smallest_offered, smallest_first}

-- ---- the smaller of two with their points exchanged
flipped_smaller : (flip : Bool) (m w : Witness) → flipped_if flip (smaller_of m w) ≡ smaller_of (flipped_if flip m) (flipped_if flip w)
flipped_smaller false m w = refl
flipped_smaller true m w = unfold smaller_of flipped_of witness_of in go (lt w.d m.d)
  where
    go : (b : Bool) → flipped_of (cond b w m) ≡ cond b (flipped_of w) (flipped_of m)
    go true = refl
    go false = refl

distant_if : (flip : Bool) (w : Witness) → Distant w → Distant (flipped_if flip w)
distant_if false w h = h
distant_if true w h = flipped w h

module _ (flip : Bool) (p : Point) (t : Triangle) where
  -- the second and the third edge
  abbrev others : List Witness
  others = flipped_if flip (point_segment p t.b t.c) ∷ flipped_if flip (point_segment p t.c t.a) ∷ []

  edges_smallest : flipped_if flip (point_edges p t) ≡ foldl smaller_of (flipped_if flip (point_segment p t.a t.b)) others
  unfolding point_edges
  edges_smallest = flipped_smaller flip _ _ ∙ ap (λ (w : Witness). smaller_of w (flipped_if flip (point_segment p t.c t.a))) (flipped_smaller flip _ _)

  -- where None of the three changes the best, neither does the nearest
  pub edges_leave : (best : Option Witness) → taking shorter best (flipped_if flip (point_segment p t.a t.b)) ≡ best → taking shorter best (flipped_if flip (point_segment p t.b t.c)) ≡ best → taking shorter best (flipped_if flip (point_segment p t.c t.a)) ≡ best
      → taking shorter best (flipped_if flip (point_edges p t)) ≡ best
  edges_leave best k l m = rw edges_smallest (smaller_leaves best _ _ (smaller_leaves best _ _ k l) m)

  -- x is the first edge with its sum of squares
  module _ (x : UnrootedWitness) (e : StandsFor x (point_segment p t.a t.b)) where
    first_distance : (flipped_if flip (point_segment p t.a t.b)).d ≡ root_of x.sum
    first_distance = stands_distance flip e

    pub edges_offered : (s : Option Witness) → BestFits s → le positive_zero x.sum ≡ true
        → taking shorter s (flipped_if flip (point_edges p t)) ≡ offered_all (taking shorter s (flipped_if flip (point_segment p t.a t.b))) others
    edges_offered s g h =
        ap (taking shorter s) edges_smallest
        ∙ smallest_offered s (flipped_if flip (point_segment p t.a t.b)) others g
        (rw first_distance (record { fit = root_fits x.sum e.fitting; real = root_real x.sum e.fitting h }))
        ((distant_if flip _ (point_segment_lem p t.b t.c)).fit, ((distant_if flip _ (point_segment_lem p t.c t.a)).fit, tt))

    pub first_kept : le positive_zero x.sum ≡ false → flipped_if flip (point_edges p t) ≡ flipped_if flip (point_segment p t.a t.b)
    first_kept h = edges_smallest ∙ smallest_first (flipped_if flip (point_segment p t.a t.b)) others (each_all (λ (w : Witness). lt w.d (flipped_if flip (point_segment p t.a t.b)).d ≡ false) not_less others)
      where
        not_less : (w : Witness) → lt w.d (flipped_if flip (point_segment p t.a t.b)).d ≡ false
        not_less w = rw (first_distance, root_nan x.sum e.fitting h) (lt_nan_right w.d)

-- ---- the foot, or the nearest edge
pub foot_measured : (p : Point) (t : Triangle) (x : Point) → Some x ≡ inner_foot p t → point_triangle p t ≡ between_of p x
unfolding inner_foot point_triangle
foot_measured p t x = go (foot_inside p t (normal_of t))
  where
    f : Point
    f = foot_of p t.a (normal_of t)

    go : (i : Bool) → ◌≡◌ {A = Option Point} (Some x) (cond i (Some f) None) → cond i (between_of p f) (point_edges p t) ≡ between_of p x
    go true e = ap (between_of p) (sym (same_Some x f e))
    go false e = absurd (none-some x (sym e))

pub edges_measured : (p : Point) (t : Triangle) → None ≡ inner_foot p t → point_triangle p t ≡ point_edges p t
unfolding inner_foot point_triangle
edges_measured p t = go (foot_inside p t (normal_of t))
  where
    f : Point
    f = foot_of p t.a (normal_of t)

    go : (i : Bool) → ◌≡◌ {A = Option Point} None (cond i (Some f) None) → cond i (between_of p f) (point_edges p t) ≡ point_edges p t
    go true e = absurd (none-some f e)
    go false e = refl

-- A crossing is a witness of distance 0. Assumes nothing.
use mathlib.Core.Path.{◌≡◌, refl}
use mathlib.Core.Bool.{Bool, true, false, cond, not, ◌&&◌, false≢true}
use mathlib.Core.List.{[], ◌∷◌}
use lib.Dec.{T}
use lib.Ieee.{Float, nan, inf, fin, lt, eq, is_nan}
use Rattle.ieee754.specs.MinMax.{positive_zero}
use Rattle.primitives.specs.declared.Point.{Point}
use Rattle.primitives.specs.declared.Witness.{Witness}
use Rattle.measures.specs.declared.Triangle.{Triangle}
use Rattle.primitives.specs.Vectors.{dot_of}
use Rattle.primitives.specs.Witnesses.{between_of}
use Rattle.extremes.proofs.Lists.{Each, each_append}
use Rattle.extremes.proofs.Senses.{Number}
use Rattle.measures.specs.Measures.{normal_of, inside_triangle}
use Rattle.measures.proofs.NotBelowZero.{Distant, between}
use Rattle.crossings.specs.Crossings.{side_of, opposite_sides, crossing_point, counts_as_crossing, crosses, crossing, edge_crossings, triangle_crossings}

-- its distance is 0
pub record Touching (w : Witness) : Type 0 where
  pub zero : eq w.d positive_zero ≡ true
  pub distant : Distant w

-- 0 is a number
zero_number : (x : Float) → eq x positive_zero ≡ true → T (not (is_nan x))
zero_number nan h = absurd (false≢true (unfold eq in h))
zero_number (inf s) h = unfold is_nan in tt
zero_number (fin s m k) h = unfold is_nan in tt

pub touching_number : (w : Witness) → Touching w → Number w.d
touching_number w t = record { fit = t.distant.fit; real = zero_number w.d t.zero }

-- 0 is less than +infinity
pub zero_below_infinity : (x : Float) → eq x positive_zero ≡ true → lt x (inf false) ≡ true
zero_below_infinity nan h = absurd (false≢true (unfold eq in h))
zero_below_infinity (inf s) h = absurd (false≢true (unfold eq in h))
zero_below_infinity (fin s m k) h = unfold lt in refl

module _ (s e : Point) (t : Triangle) where
  abbrev n : Point
  n = normal_of t

  abbrev x : Point
  x = crossing_point s e t.a n

  pub crossing_touches : Each Touching (crossing s e t)
  unfolding crossing crosses counts_as_crossing
  crossing_touches = go (opposite_sides (side_of s t.a n) (side_of e t.a n)) (lt positive_zero (dot_of n n)) (inside_triangle t x n) (eq (between_of x x).d positive_zero) refl
    where
      go : (p q r z : Bool) → eq (between_of x x).d positive_zero ≡ z → Each Touching (cond (p && (q && (r && z))) (between_of x x ∷ []) [])
      go true true true true h = (record { zero = h; distant = between x x }, tt)
      go true true true false h = tt
      go true true false z h = tt
      go true false r z h = tt
      go false q r z h = tt

pub edges_touch : (t u : Triangle) → Each Touching (edge_crossings t u)
unfolding edge_crossings
edges_touch t u =
    each_append Touching (crossing t.a t.b u) _ (crossing_touches t.a t.b u)
    (each_append Touching (crossing t.b t.c u) _ (crossing_touches t.b t.c u) (crossing_touches t.c t.a u))

pub triangles_touch : (t u : Triangle) → Each Touching (triangle_crossings t u)
unfolding triangle_crossings
triangles_touch t u = each_append Touching (edge_crossings t u) _ (edges_touch t u) (edges_touch u t)

-- What the two passes over the segments come to: the first segment's start, the total, and the segment where the search stops. Assumes nothing.
use mathlib.Core.Path.{◌≡◌, refl, sym, ap, ◌∙◌}
use mathlib.Core.Bool.{Bool, true, false, cond}
use mathlib.Core.List.{List, [], ◌∷◌, foldl}
use Rattle.std.specs.Prelude.{Option, Some, None, IsSome}
use Rattle.std.proofs.lemmas.Option.{none-some, same_Some}
use Prim.Native.Nat.{◌<◌}
use native.Mathlib.Omega.{arith}
use lib.ListN.{length}
use lib.Ieee.{Float, binary64, mul, eq, le}
use Rattle.ieee754.specs.MinMax.{positive_zero}
use Rattle.primitives.specs.declared.Point.{Point}
use Rattle.interpolation.specs.Interpolation.{Segment, segment, with_length, total_of, point_on, point_from, point_along, interpolated_point}
use Rattle.interpolation.specs.Inner.{measuring, measured_of, stop_at, stop_from, stop_of}
use Rattle.interpolation.specs.declared.Measured.{Measured}
use Rattle.interpolation.specs.declared.Stop.{Stop}

-- ---- the first pass

measured_from : (start : Point) (total : Float) (gs : List (Segment Point)) → foldl measuring (Some (record { start = start; total = total })) gs ≡ Some (record { start = start; total = foldl with_length total gs })
unfolding measuring
measured_from start total [] = refl
measured_from start total (g ∷ gs) = measured_from start (with_length total g) gs

measured_all : (g : Segment Point) (gs : List (Segment Point)) → measured_of (g ∷ gs) ≡ Some (record { start = g.start; total = total_of (g ∷ gs) })
unfolding measured_of measuring total_of
measured_all g gs = measured_from g.start (with_length positive_zero g) gs

pub measured_some : (gs : List (Segment Point)) → 0 < length gs → IsSome (measured_of gs)
measured_some [] l = absurd (omega arith)
measured_some (g ∷ gs) l = rw (measured_all g gs)

-- ---- the second pass

module _ (target : Float) where
  -- the point on the segment where a search stopped
  point_of_stop : Option Stop → Option Point
  point_of_stop None = None
  point_of_stop (Some w) = Some (point_on target w.walked (segment w.start w.end))

  -- a search that goes on from a segment stops where the definition does
  stops : (walked : Float) (last : Option Stop) (g : Segment Point) (gs : List (Segment Point)) → point_of_stop (stop_from target walked last (g ∷ gs)) ≡ Some (point_from target walked g gs)
  unfolding point_of_stop stop_from point_from
  stops walked last g [] = go (le target (with_length walked g))
    where
      go : (b : Bool) → point_of_stop (cond b (Some (stop_at walked g)) (Some (stop_at walked g))) ≡ Some (point_on target walked g)
      go true = refl
      go false = refl
  stops walked last g (h ∷ gs) = go (le target (with_length walked g)) (stops (with_length walked g) (Some (stop_at walked g)) h gs)
    where
      go : (b : Bool) → point_of_stop (stop_from target (with_length walked g) (Some (stop_at walked g)) (h ∷ gs)) ≡ Some (point_from target (with_length walked g) h gs)
          → point_of_stop (cond b (Some (stop_at walked g)) (stop_from target (with_length walked g) (Some (stop_at walked g)) (h ∷ gs))) ≡ Some (cond b (point_on target walked g) (point_from target (with_length walked g) h gs))
      go true e = refl
      go false e = e

  pub stopped : (g : Segment Point) (gs : List (Segment Point)) (w : Stop) → stop_of target (g ∷ gs) ≡ Some w → point_on target w.walked (segment w.start w.end) ≡ point_from target positive_zero g gs
  unfolding stop_of point_of_stop
  stopped g gs w e = same_Some _ _ (sym (ap point_of_stop e) ∙ stops positive_zero None g gs)

  pub stop_some : (gs : List (Segment Point)) → 0 < length gs → IsSome (stop_of target gs)
  unfolding stop_of point_of_stop
  stop_some [] l = absurd (omega arith)
  stop_some (g ∷ gs) l = go (stop_from target positive_zero None (g ∷ gs)) (stops positive_zero None g gs)
    where
      go : (r : Option Stop) → point_of_stop r ≡ Some (point_from target positive_zero g gs) → IsSome r
      go None e = absurd (none-some _ e)
      go (Some w) e = refl

-- ---- the point, by the total

along : (fraction total : Float) (g : Segment Point) (gs : List (Segment Point)) (b : Bool) → total ≡ total_of (g ∷ gs) → eq total positive_zero ≡ b → interpolated_point fraction (g ∷ gs) ≡ Some (cond b g.start (point_from (mul binary64 fraction total) positive_zero g gs))
unfolding interpolated_point point_along
along fraction total g gs b e f = rw (← e, f)

total_is : (g : Segment Point) (gs : List (Segment Point)) (m : Measured) → measured_of (g ∷ gs) ≡ Some m → m.total ≡ total_of (g ∷ gs)
total_is g gs m e = ap (λ (x : Measured). x.total) (same_Some _ _ (sym e ∙ measured_all g gs))

start_is : (g : Segment Point) (gs : List (Segment Point)) (m : Measured) → measured_of (g ∷ gs) ≡ Some m → m.start ≡ g.start
start_is g gs m e = ap (λ (x : Measured). x.start) (same_Some _ _ (sym e ∙ measured_all g gs))

module _ (fraction : Float) where
  -- total length 0: the first segment's start
  pub at_start : (gs : List (Segment Point)) → 0 < length gs → (m : Measured) → measured_of gs ≡ Some m → eq m.total positive_zero ≡ true → interpolated_point fraction gs ≡ Some m.start
  at_start [] l m e z = absurd (omega arith)
  at_start (g ∷ gs) l m e z = along fraction m.total g gs true (total_is g gs m e) z ∙ ap Some (sym (start_is g gs m e))

  -- otherwise the point where the search stops
  pub at_search : (gs : List (Segment Point)) → 0 < length gs → (m : Measured) → measured_of gs ≡ Some m → eq m.total positive_zero ≡ false → (w : Stop) → stop_of (mul binary64 fraction m.total) gs ≡ Some w → (p : Point) → p ≡ point_on (mul binary64 fraction m.total) w.walked (segment w.start w.end) → interpolated_point fraction gs ≡ Some p
  at_search [] l m e z w f p i = absurd (omega arith)
  at_search (g ∷ gs) l m e z w f p i = along fraction m.total g gs false (total_is g gs m e) z ∙ ap Some (sym (i ∙ stopped (mul binary64 fraction m.total) g gs w f))

-- The best witness so far: when an offered one changes nothing. Assumes nothing.
use mathlib.Core.Path.{◌≡◌, refl, sym, ap, ◌∙◌}
use mathlib.Core.Bool.{Bool, true, false, cond, ◌&&◌, false≢true}
use mathlib.Core.List.{List}
use lib.Ieee.{Float, lt}
use Rattle.std.specs.Prelude.{None, Some}
use Rattle.std.specs.declared.option.Option.{Option}
use Rattle.ieee754.specs.Root.{root_of}
use Rattle.primitives.specs.declared.Witness.{Witness}
use Rattle.primitives.specs.declared.UnrootedWitness.{UnrootedWitness}
use Rattle.primitives.specs.Witnesses.{witness_of, smaller_of, flipped_of}
use Rattle.primitives.specs.Unrooted.{rooted_of, StandsFor}
use Rattle.extremes.specs.Sweeps.{shorter, taking}
use Rattle.extremes.specs.Extreme.{at_least}
use Rattle.extremes.specs.BestSoFar.{Sound, at_zero}
use Rattle.extremes.specs.RootSense.{shortest_roots}
use Rattle.extremes.proofs.Offered.{sum_not_better}
use Rattle.extremes.proofs.Lists.{Each, each_weaken}
use Rattle.extremes.proofs.Taking.{unbeaten_row}
use Rattle.measures.specs.InnerOffers.{offered_all, flipped_if}
use Rattle.measures.proofs.NotBelowZero.{Distant}

flipped_distance : (flip : Bool) (w : Witness) → (flipped_if flip w).d ≡ w.d
flipped_distance false w = refl
flipped_distance true w = unfold flipped_of witness_of in refl

-- what s stands for has the root of its sum for its distance, its points exchanged or not
pub stands_distance : (flip : Bool) {s : UnrootedWitness} {w : Witness} → StandsFor s w → (flipped_if flip w).d ≡ root_of s.sum
unfolding rooted_of witness_of
stands_distance flip {s} {w} k = flipped_distance flip w ∙ sym (ap (λ (v : Witness). v.d) k.same)

-- no sum of three is less than the best's: none of the three witnesses changes the best, its points exchanged or not
module _ (sum : Float) (best : Option Witness) (flip : Bool) (h : Sound sum best) where
  not_less_leaves : {x : UnrootedWitness} {w : Witness} → StandsFor x w → at_least x.sum sum ≡ true → taking shorter best (flipped_if flip w) ≡ best
  not_less_leaves {x} {w} k l = sum_not_better shortest_roots sum best x.sum (flipped_if flip w) h k.fitting l (stands_distance flip k)

  and_each : (a b c : Bool) → (a && (b && c)) ≡ true → (a ≡ true) × (b ≡ true) × (c ≡ true)
  and_each true true true e = (refl, refl, refl)
  and_each true true false e = absurd (false≢true e)
  and_each true false c e = absurd (false≢true e)
  and_each false b c e = absurd (false≢true e)

  pub each_at_least_lem : {x y z : UnrootedWitness} {w v u : Witness} → StandsFor x w → StandsFor y v → StandsFor z u → (at_least x.sum sum && (at_least y.sum sum && at_least z.sum sum)) ≡ true
      → (taking shorter best (flipped_if flip w) ≡ best) × (taking shorter best (flipped_if flip v) ≡ best) × (taking shorter best (flipped_if flip u) ≡ best)
  each_at_least_lem {x} {y} {z} k l m e =
      let t = and_each (at_least x.sum sum) (at_least y.sum sum) (at_least z.sum sum) e in
      (not_less_leaves k t.0, not_less_leaves l t.1, not_less_leaves m t.2)

-- the smaller of two that leave it leaves it
pub smaller_leaves : (best : Option Witness) (m w : Witness) → taking shorter best m ≡ best → taking shorter best w ≡ best → taking shorter best (smaller_of m w) ≡ best
unfolding smaller_of
smaller_leaves best m w k l = go (lt w.d m.d)
  where
    go : (t : Bool) → taking shorter best (cond t w m) ≡ best
    go true = l
    go false = k

-- ---- a best of distance 0 stays
pub zero_stays : (best : Option Witness) (ws : List Witness) → at_zero best ≡ true → Each Distant ws → offered_all best ws ≡ best
unfolding at_zero
zero_stays None ws z each = absurd (false≢true z)
zero_stays (Some best) ws z each =
    unbeaten_row shorter (λ w. w) (Some best) ws
    (each_weaken Distant (λ (w : Witness). lt w.d best.d ≡ false) (λ w k. k.distance best.d z) ws each)

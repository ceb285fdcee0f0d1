-- What was offered once changes nothing when it is offered again, however many came between. Assumes nothing.
use mathlib.Core.Path.{◌≡◌, refl, sym, ap, ◌∙◌}
use mathlib.Core.Bool.{Bool, true, false}
use mathlib.Core.List.{List, [], ◌∷◌}
use Rattle.std.specs.Prelude.{None, Some}
use Rattle.std.specs.declared.option.Option.{Option}
use Rattle.std.proofs.lemmas.Option.{none-some, same_Some}
use lib.Ieee.{lt}
use Rattle.primitives.specs.declared.Witness.{Witness}
use Rattle.extremes.specs.Sweeps.{shorter, taking}
use Rattle.extremes.proofs.Lists.{Each}
use Rattle.extremes.proofs.Senses.{shortest, not_itself}
use Rattle.extremes.specs.BestSoFar.{BestFits}
use Rattle.extremes.proofs.Taking.{Unbeaten, unbeaten_stays, unbeaten_later, taking_fits, taking_again}
use Rattle.measures.specs.InnerOffers.{offered_all, AllSettled}
use Rattle.measures.proofs.NotBelowZero.{Distant}

-- ---- one witness

-- what changes nothing does not beat the best
settled_unbeaten : (s : Option Witness) (w : Witness) → BestFits s → taking shorter s w ≡ s → Unbeaten shorter s w
unfolding taking
settled_unbeaten None w f e = absurd (none-some w (sym e))
settled_unbeaten (Some best) w f e = go (lt w.d best.d) refl
  where
    go : (t : Bool) → lt w.d best.d ≡ t → lt w.d best.d ≡ false
    go false k = k
    go true k = ap (λ (v : Witness). lt v.d best.d) (same_Some w best (rw k at e)) ∙ not_itself shortest best.d f

-- what changes nothing changes nothing after another
pub stays : (s : Option Witness) (w v : Witness) → BestFits s → Distant w → Distant v → taking shorter s w ≡ s → taking shorter (taking shorter s v) w ≡ taking shorter s v
stays s w v f h k e = unbeaten_stays shorter (taking shorter s v) w (unbeaten_later shortest s w v f h.fit k.fit (settled_unbeaten s w f e))

-- what was offered changes nothing
pub again : (s : Option Witness) (w : Witness) → Distant w → taking shorter (taking shorter s w) w ≡ taking shorter s w
again s w h = taking_again shortest s w h.fit

pub still_fits : (s : Option Witness) (w : Witness) → BestFits s → Distant w → BestFits (taking shorter s w)
still_fits s w f h = taking_fits shortest s w h.fit f

-- what was offered changes nothing after another
pub again_later : (s : Option Witness) (w v : Witness) → BestFits s → Distant w → Distant v → taking shorter (taking shorter (taking shorter s w) v) w ≡ taking shorter (taking shorter s w) v
again_later s w v f h k = stays (taking shorter s w) w v (still_fits s w f h) h k (again s w h)

-- ---- many witnesses

pub still_fit : (s : Option Witness) (ws : List Witness) → BestFits s → Each Distant ws → BestFits (offered_all s ws)
still_fit s [] f d = f
still_fit s (w ∷ ws) f d = still_fit (taking shorter s w) ws (still_fits s w f d.0) d.1

settled_after : (s : Option Witness) (ws : List Witness) (v : Witness) → BestFits s → Each Distant ws → Distant v → AllSettled s ws → AllSettled (taking shorter s v) ws
unfolding AllSettled
settled_after s [] v f d k e = tt
settled_after s (w ∷ ws) v f d k e = (stays s w v f d.0 k e.0, settled_after s ws v f d.1 k e.1)

pub settled_stays : (best : Option Witness) (ws vs : List Witness) → BestFits best → Each Distant ws → Each Distant vs → AllSettled best ws → AllSettled (offered_all best vs) ws
settled_stays best ws [] f d g e = e
settled_stays best ws (v ∷ vs) f d g e = settled_stays (taking shorter best v) ws vs (still_fits best v f g.0) d g.1 (settled_after best ws v f d g.0 e)

pub offered_settled : (best : Option Witness) (ws : List Witness) → BestFits best → Each Distant ws → AllSettled (offered_all best ws) ws
unfolding AllSettled
offered_settled best [] f d = tt
offered_settled best (w ∷ ws) f d =
    let g = still_fits best w f d.0 in
    ((settled_stays (taking shorter best w) (w ∷ []) ws g (d.0, tt) d.1 (again best w d.0, tt)).0, offered_settled (taking shorter best w) ws g d.1)

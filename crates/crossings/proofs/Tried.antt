-- What the crossing that was tried for leaves to offer. Assumes nothing.
use mathlib.Core.Path.{◌≡◌, refl, sym, ap, ◌∙◌}
use mathlib.Core.List.{List, [], ◌∷◌, cons-ne-nil}
use Rattle.std.specs.declared.option.Option.{Option}
use Rattle.primitives.specs.declared.Point.{Point}
use Rattle.primitives.specs.declared.Witness.{Witness}
use Rattle.primitives.specs.Witnesses.{between_of}
use Rattle.extremes.specs.Sweeps.{shorter, taking}
use Rattle.extremes.specs.BestSoFar.{BestFits}
use Rattle.measures.specs.InnerOffers.{offered_all}
use Rattle.items.specs.declared.Item.{Item}
use Rattle.items.specs.Candidates.{candidates_of}
use Rattle.std.specs.Prelude.{None, Some}
use Rattle.crossings.specs.Crossings.{candidates_by_rule2}
use Rattle.crossings.specs.InnerCrossings.{offered_by, first_only, crossings_of}
use Rattle.crossings.proofs.Decides.{crossing_decides}
use Rattle.crossings.proofs.NoCrossing.{no_crossing_rule_1}

-- r is the first crossing of o and i
module _ (o i : Item) {r : Option Point} (tried : offered_by r ≡ first_only (crossings_of o i)) where
  -- at x: x alone is offered
  pub found_alone : (best : Option Witness) {x : Point} → BestFits best → r ≡ Some x → offered_all best (candidates_by_rule2 o i) ≡ taking shorter best (between_of x x)
  unfolding offered_by first_only
  found_alone best {x} f e = go (crossings_of o i) refl
    where
      go : (cs : List Witness) → crossings_of o i ≡ cs → offered_all best (candidates_by_rule2 o i) ≡ taking shorter best (between_of x x)
      go [] h = absurd (cons-ne-nil _ _ (rw (e, h) at tried))
      go (w ∷ ws) h =
          let t : between_of x x ∷ [] ≡ w ∷ [] = rw (e, h) at tried in
          let u : w ≡ between_of x x = cc in
          crossing_decides best o i w ws f h ∙ ap (taking shorter best) u

  -- none: rule 1's candidates are offered
  pub none_found : r ≡ None → candidates_by_rule2 o i ≡ candidates_of o i
  unfolding offered_by first_only
  none_found e = go (crossings_of o i) refl
    where
      go : (cs : List Witness) → crossings_of o i ≡ cs → candidates_by_rule2 o i ≡ candidates_of o i
      go [] h = no_crossing_rule_1 o i h
      go (w ∷ ws) h = absurd (cons-ne-nil _ _ (sym (rw (e, h) at tried)))

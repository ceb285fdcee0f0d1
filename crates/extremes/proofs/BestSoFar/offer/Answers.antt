-- `extremes::BestSoFar::offer` meets its contract. Assumes nothing.
use mathlib.Core.Path.{◌≡◌, sym, ◌∙◌, subst}
use lib.Dec.{T}
use lib.Ieee.{binary64, fits, of_bits}
use Rattle.std.specs.Prelude.{false, Some}
use Rattle.ieee754.specs.Root.{root_of}
use Rattle.primitives.specs.Unrooted.{rooted_of}
use Rattle.primitives.proofs.Squares.{rooted_distance}
use Rattle.extremes.specs.BestSoFar.{found_of, Sound}
use Rattle.extremes.proofs.KeptWitness.{none_where_below, found_where_not_below, root_found}
use Rattle.extremes.proofs.Offered.{sum_not_better, same_distance, sum_renewed, new_sound, new_is_better, best_is_better, better_found, first_taken}
use Rattle.extremes.proofs.BestSoFar.offer.Goals.{then-beats, then-beats-via-then-beats, then-beats-via-else-beats+then-w-first, else-beats+else-w-first}
use Rattle.extremes.proofs.BestSoFar.offer.Goals as goal

pub returns-then-in_order-clause-value : goal.returns-then-in_order-clause-value
returns-then-in_order-clause-value g c =
    let b = c.self.inside in
    let s = c.args.s in
    rw (← c.self.view_is) (sym (sum_not_better g.met.S.Sense.laws b.best.sum (found_of b.best.witness) s.sum (rooted_of s) c.self.invariant (subst T (sym c.well_formed.1.0.1.1.0.1) tt) (sym c.in_order.ensures ∙ c.if-in_order.true) (rooted_distance s)))

pub invariant_of-self : goal.invariant_of-self
invariant_of-self g c =
    let s = c.args.s in
    let w = c.rooted-w.result in
    let f : T (fits binary64 s.sum) = subst T (sym c.well_formed.1.0.1.1.0.1) tt in
    let is_root : w.d ≡ root_of s.sum = rw c.rooted-w.ensures (rooted_distance s) in
    rw (root_found w s.sum f is_root) (new_sound s.sum w f is_root)

pub returns-then-first-clause-value : goal.returns-then-first-clause-value
unfolding of_bits
returns-then-first-clause-value g c =
    let s = c.args.s in
    let found : found_of (rooted_of s) ≡ Some (rooted_of s) = root_found (rooted_of s) s.sum (subst T (sym c.well_formed.1.0.1.1.0.1) tt) (rooted_distance s) in
    rw (← c.self.view_is, c.rooted-w.ensures) (found ∙ rw (none_where_below c.self.inside.best.witness c.if-first.true) (sym (first_taken g.S.Sense.beats (rooted_of s))))

pub invariant_of-self-2 : goal.invariant_of-self-2
unfolding of_bits
invariant_of-self-2 g c =
    let s = c.args.s in
    let w = c.rooted-w.result in
    let first = c.self.inside.best.witness in
    let beats = g.S.Sense.beats in
    let f : T (fits binary64 s.sum) = subst T (sym c.well_formed.1.0.1.1.0.1) tt in
    let found : found_of first ≡ Some first = found_where_not_below first c.if-first.false in
    let sound : Sound c.self.inside.best.sum (Some first) = rw found at c.self.invariant in
    let is_root : w.d ≡ root_of s.sum = rw c.rooted-w.ensures (rooted_distance s) in
    elim c.if-beats.branch [
      | then-beats v ↦
          elim v.then-beats.branch [
            | then-beats-via-then-beats u ↦
                let new : c.better-self-inside.result ≡ w = c.better-self-inside.ensures ∙ new_is_better beats first w (sym c.beats.ensures ∙ u.if-beats.true) in
                rw (new, root_found w s.sum f is_root, v.self-inside-is) (new_sound s.sum w f is_root)
            | then-beats-via-else-beats+then-w-first u ↦
                let unbeaten : beats first.d w.d ≡ false = sym c.beats.ensures ∙ u.if-beats.false in
                let same : c.better-self-inside.result ≡ first = c.better-self-inside.ensures ∙ best_is_better beats first w unbeaten in
                let equal : w.d ≡ first.d = same_distance g.met.S.Sense.laws c.self.inside.best.sum first s.sum w sound f is_root (sym c.in_order.ensures ∙ c.if-in_order.false) u.if-w-first.true in
                rw (same, found, v.self-inside-is) (sum_renewed beats first w s.sum f is_root unbeaten equal).1
          ]
      | else-beats+else-w-first v ↦
          let same : c.better-self-inside.result ≡ first = c.better-self-inside.ensures ∙ best_is_better beats first w (sym c.beats.ensures ∙ v.if-beats.false) in
          rw (same, found, v.self-inside-is) sound
    ]

pub returns-clause-value : goal.returns-clause-value
unfolding of_bits
returns-clause-value g c =
    let s = c.args.s in
    let first = c.self.inside.best.witness in
    let found : found_of first ≡ Some first = found_where_not_below first c.if-first.false in
    let root : found_of (rooted_of s) ≡ Some (rooted_of s) = root_found (rooted_of s) s.sum (subst T (sym c.well_formed.1.0.1.1.0.1) tt) (rooted_distance s) in
    rw (← c.self.view_is, found, c.better-self-inside.ensures, c.rooted-w.ensures) (better_found g.S.Sense.beats first (rooted_of s) found root)

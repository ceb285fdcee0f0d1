-- `root` meets its contract. Assumes nothing.
-- what equals `root_of s` has both promises
use mathlib.Core.Bool.{false}
use mathlib.Core.Path.{◌≡◌, refl, sym, ap, ◌∙◌, subst}
use Prim.Native.Nat.{ℕ}
use lib.Dec.{T}
use lib.Ieee.{binary64, of_bits}
use lib.Ieee.Positive.{positive}
use Rattle.ieee754.proofs.RootCases.{root_from_tests, root_of_other, positive_by_tests}
use Rattle.ieee754.specs.Root.{IsRoot}
use Rattle.ieee754.proofs.RootRelation.{root_is_root}
use Rattle.ieee754.proofs.root.Goals as goal
use Rattle.ieee754.proofs.root.Goals.{else-s-via-then-s+else-s-2, else-s-via-else-s}

pub returns-then-s-2 : goal.returns-then-s-2
returns-then-s-2 c =
    let s = c.args.s in
    let every = ap (λ (z : ℕ). of_bits binary64 z) c.root_pattern.ensures.0 ∙ root_from_tests s c.well_formed.0.1 c.if-s.true c.if-s-2.true in
    record { of_every = every; of_positive = λ p. subst (IsRoot s) (sym every) (root_is_root s (subst T (sym c.well_formed.0.1) tt) p) }

pub returns-then-s-3 : goal.returns-then-s-3
returns-then-s-3 c =
    let s = c.args.s in
    let other : positive s ≡ false = elim c.else-s.branch [ else-s-via-then-s+else-s-2 w ↦ rw (positive_by_tests s, w.if-s.true, w.if-s-2.false) | else-s-via-else-s w ↦ rw (positive_by_tests s, w.if-s.false) ] in
    record { of_every = rw (root_of_other s other, c.if-s-3.true) (unfold of_bits in refl); of_positive = λ p. absurd (subst T other p) }

pub returns-else-s-3 : goal.returns-else-s-3
returns-else-s-3 c =
    let s = c.args.s in
    let other : positive s ≡ false = elim c.else-s.branch [ else-s-via-then-s+else-s-2 w ↦ rw (positive_by_tests s, w.if-s.true, w.if-s-2.false) | else-s-via-else-s w ↦ rw (positive_by_tests s, w.if-s.false) ] in
    record { of_every = rw (root_of_other s other, c.if-s-3.false); of_positive = λ p. absurd (subst T other p) }

-- `threed_closest::sweep` meets its contract. Assumes nothing.
use mathlib.Core.Path.{◌≡◌, sym, ◌∙◌}
use borrow.Author.Tests.{ne_eqb, eq-eqb}
use native.Mathlib.Omega.{arith}
use Rattle.items.specs.Items.{items_of}
use Rattle.items.specs.Closest.{closest_of}
use Rattle.outcomes.specs.Operations.{closest_by_rule}
use Rattle.closest_rule2.proofs.WithoutFaces.{faceless_same}
use Rattle.threed_closest.proofs.sweep.Goals as goal

pub returns-then-any_face : goal.returns-then-any_face
unfolding closest_by_rule
returns-then-any_face c = c.closest.ensures ∙ rw c.if-rule-eq2.true

pub returns : goal.returns
unfolding closest_by_rule
returns c = let args = c.args in
    let same : closest_by_rule args.rule (items_of args.a.now) (items_of args.b.now) ≡ closest_of (items_of args.a.now) (items_of args.b.now) = grind (arith, faceless_same args.a.now args.b.now, eq-eqb args.rule 2, ne_eqb args.rule 2) in
    c.closest-2.ensures ∙ sym same

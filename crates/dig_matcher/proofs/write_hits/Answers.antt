-- `write_hits` meets its contract. Assumes nothing.
use mathlib.Core.Path.{refl, sym, ◌∙◌}
use mathlib.Core.List.{[], ◌∷◌, ◌++◌}
use native.Mathlib.Omega.{arith}
use Rattle.operands.specs.Operands.{workspaces}
use Rattle.dig_matcher.proofs.Turns.{no_hits_yet, next_on, one_hit_more, written_all}
use Rattle.dig_matcher.proofs.StoredHits.{stored_none, stored_next}
use Rattle.dig_matcher.proofs.write_hits.Goals as goal

pub loop-hit-init : goal.loop-hit-init
loop-hit-init c = ([], no_hits_yet _ _ c.start-run.result c.start-run.ensures.job c.start-run.ensures.rest, record { floats1 = refl; table1 = refl; floats2 = refl; table2 = refl }, sym (stored_none _))

pub overflow_add-hits : goal.overflow_add-hits
overflow_add-hits c =
    let on = next_on _ _ _ _ (rw (c.in-Ok-Some.is, c.in-Ok-Some.field-0-is) at c.next_hit.ensures) in
    omega (arith, c.loop-hit.invariant.1.few, on, c.well_formed.0.1)

pub loop-hit-smaller : goal.loop-hit-smaller
loop-hit-smaller c =
    let on = next_on _ _ _ _ (rw (c.in-Ok-Some.is, c.in-Ok-Some.field-0-is) at c.next_hit.ensures) in
    on

pub loop-hit-preserved : goal.loop-hit-preserved
loop-hit-preserved c =
    let v = c.loop-hit.invariant in (
      v.0 ++ (c.in-Ok-Some.hit ∷ []),
      one_hit_more (workspaces c.args.floats1.now c.args.table1.now c.args.floats2.now c.args.table2.now) c.args.tape.now c.loop-hit.run _ c.loop-hit.hits _ v.1 _ v.2 c.in-Ok-Some.hit (rw (c.in-Ok-Some.is, c.in-Ok-Some.field-0-is) at c.next_hit.ensures),
      record { floats1 = v.2.floats1 ∙ sym c.next_hit.auto.floats1; table1 = v.2.table1 ∙ sym c.next_hit.auto.table1; floats2 = v.2.floats2 ∙ sym c.next_hit.auto.floats2; table2 = v.2.table2 ∙ sym c.next_hit.auto.table2 },
      c.put_hit.ensures ∙ rw (v.3, v.1.counted) (sym (stored_next _ v.0 _)),
    )

pub returns-in_default : goal.returns-in_default
returns-in_default c = let v = c.loop-hit.invariant in written_all (workspaces c.args.floats1.now c.args.table1.now c.args.floats2.now c.args.table2.now) c.args.tape.now c.loop-hit.run _ c.loop-hit.hits _ v.1 _ v.2 _ c.next_hit.ensures (λ h e. cc) _ _ v.3

pub returns-in_default-2 : goal.returns-in_default-2
returns-in_default-2 c = let v = c.loop-hit.invariant in written_all (workspaces c.args.floats1.now c.args.table1.now c.args.floats2.now c.args.table2.now) c.args.tape.now c.loop-hit.run _ c.loop-hit.hits _ v.1 _ v.2 _ c.next_hit.ensures (λ h e. cc) _ _ v.3

-- `Call::is_same` meets its contract. Assumes nothing.
use Rattle.replay.proofs.Told.{as_known, as_expected}
use Rattle.replay.proofs.call.Call.is_same.Goals as goal
use Rattle.replay.proofs.call.Call.is_same.Goals.{then-is_answered, else-is_answered}

pub returns : goal.returns
returns c =
    let said = simp (c.deref_mut.ensures.value, c.deref_mut-2.ensures.value, c.deref_mut-3.ensures.value, c.deref_mut-4.ensures.value, c.deref_mut-5.ensures.value, c.in_ok-one.ensures.floats, c.in_ok-one.ensures.table, c.in_ok-two.ensures.floats, c.in_ok-two.ensures.table, c.in_ok-output.ensures) at c.is_answered-is_answered.ensures in
    let known = as_known c.args.self.now _ _ c.in-Ok.is in
    let expected = as_expected c.args.self.now _ _ c.in-Ok.is in
    elim c.if-is_answered.branch [
      | then-is_answered w ↦ rw w.result-is (λ k. known (said.0 w.if-is_answered.true) (w.is_same_by_cursor.ensures.0 k), λ e. w.is_same_by_cursor.ensures.1 (expected e).1)
      | else-is_answered w ↦ rw w.result-is (λ k. let f = w.if-is_answered.false in absurd (cc), λ e. said.1 (expected e).0)
    ]

-- `joining::join` meets its contract. Assumes nothing.
use Rattle.std.proofs.lemmas.Result.{err_from_is_err_and}
use lib.ListN.{length}
use Rattle.joining.specs.Joined.{joined_blob}
use Rattle.joining.proofs.Answers.{blobs_refused, join_refused, join_none, join_room}
use Rattle.joining.proofs.Promised.{refused_outcome, written_outcome, promised}
use Rattle.joining.proofs.join.Goals as goal

pub returns-in_err-operands-clause-whole_outcome : goal.returns-in_err-operands-clause-whole_outcome
returns-in_err-operands-clause-whole_outcome c =
    let p = err_from_is_err_and c.from_residual.result c.from_residual.ensures.1 in
    rw (p.1, p.2) (refused_outcome _ _ (blobs_refused c.args.a.now c.args.b.now c.read_both.ensures _ c.in_err-operands.was))

pub returns-in_err-check_together-clause-whole_outcome : goal.returns-in_err-check_together-clause-whole_outcome
returns-in_err-check_together-clause-whole_outcome c =
    let p = err_from_is_err_and c.from_residual-in_err-check_together.result c.from_residual-in_err-check_together.ensures.1 in
    rw (p.1, p.2) (refused_outcome _ _ (join_refused c.args.a.now c.args.b.now c.read_both.ensures _ c.in_ok-operands.was c.check_together.ensures c.in_err-check_together.was))

pub put_join-requires : goal.put_join-requires
put_join-requires c = join_room c.args.a.now c.args.b.now c.read_both.ensures _ c.in_ok-operands.was c.check_together.ensures c.in_ok-check_together.was

pub returns : goal.returns
returns c =
    let w = written_outcome (joined_blob c.args.a.now c.args.b.now) c.args.output.now (join_none c.args.a.now c.args.b.now c.read_both.ensures (length c.args.output.now) c.in_ok-operands.was c.check_together.ensures c.in_ok-check_together.was) c.put_join.ensures.value c.put_join.ensures.output_after in
    let p = promised c.args.a.now c.args.b.now c.args.output.now _ _ (λ i. (c.type_inv.a i).fits) (λ i. (c.type_inv.b i).fits) w in
    record { whole_outcome = p.outcome; reads_as_both = p.reads; max_distance_of_both = p.max_distance }

-- `joining::put_join` meets its contract. Assumes nothing.
use native.Mathlib.Omega.{arith}
use Rattle.joining.proofs.Answers.{both_lie}
use Rattle.joining.proofs.Stored.{join_put}
use Rattle.joining.proofs.put_join.Goals as goal

pub overflow_sub-middle : goal.overflow_sub-middle
overflow_sub-middle c = let l = both_lie c.args.both.now.a.now c.args.both.now.b.now c.args.both.now.operands c.args.both.now.read in
    l.forward1

pub overflow_add-middle : goal.overflow_add-middle
overflow_add-middle c = let l = both_lie c.args.both.now.a.now c.args.both.now.b.now c.args.both.now.operands c.args.both.now.read in
    omega (arith, l.size, c.requires)

pub put_header-requires : goal.put_header-requires
put_header-requires c = let l = both_lie c.args.both.now.a.now c.args.both.now.b.now c.args.both.now.operands c.args.both.now.read in
    omega (arith, l.size, c.requires)

pub put_u32-requires : goal.put_u32-requires
put_u32-requires c = let l = both_lie c.args.both.now.a.now c.args.both.now.b.now c.args.both.now.operands c.args.both.now.read in
    omega (arith, l.size, c.requires, c.put_header.auto)

pub put_part-requires : goal.put_part-requires
put_part-requires c =
    let l = both_lie c.args.both.now.a.now c.args.both.now.b.now c.args.both.now.operands c.args.both.now.read in
    record {
      start_le_end = l.forward1;
      end_in_bounds = l.within1;
      start_in_bounds = omega (arith, l.size, c.requires, c.put_u32.auto, c.put_header.auto);
    }

pub put_part-requires-2 : goal.put_part-requires-2
put_part-requires-2 c =
    let l = both_lie c.args.both.now.a.now c.args.both.now.b.now c.args.both.now.operands c.args.both.now.read in
    record {
      start_le_end = l.forward2;
      end_in_bounds = l.within2;
      start_in_bounds = omega (arith, l.size, c.requires, c.put_part.auto, c.put_u32.auto, c.put_header.auto);
    }

pub overflow_sub-result : goal.overflow_sub-result
overflow_sub-result c = let l = both_lie c.args.both.now.a.now c.args.both.now.b.now c.args.both.now.operands c.args.both.now.read in
    l.forward2

pub overflow_add-result : goal.overflow_add-result
overflow_add-result c = let l = both_lie c.args.both.now.a.now c.args.both.now.b.now c.args.both.now.operands c.args.both.now.read in
    omega (arith, l.size, c.requires)

pub returns : goal.returns
returns c =
    let l = both_lie c.args.both.now.a.now c.args.both.now.b.now c.args.both.now.operands c.args.both.now.read in
    record {
      value = omega (arith, l.size);
      output_after = join_put c.args.both.now.a.now c.args.both.now.b.now c.args.both.now.operands c.args.both.now.read c.args.output.now _ _ _ _ c.requires c.put_header.ensures c.put_u32.ensures c.put_part.ensures c.put_part-2.ensures;
    }

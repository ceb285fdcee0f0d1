-- `next_of` meets its contract. Assumes nothing.
use mathlib.Core.Path.{◌≡◌, refl, ap, ◌∙◌}
use native.Mathlib.Omega.{arith}
use lib.ListN.{take, drop}
use Rattle.std.proofs.Common.{rules}
use Rattle.items.specs.Inner.{items_left}
use Rattle.blocks.proofs.Passing.{passed_none, passed_next, passed_last, all_passed}
use Rattle.blocks.proofs.block.Block.next_of.Goals as goal
use Rattle.blocks.proofs.block.Block.next_of.Goals.{else-loop-test, then-loop-test+in-None}

pub loop-init : goal.loop-init
loop-init c = record { passed = passed_none _ _ c.empty_cover-bounds.ensures; counted = refl }

pub loop-preserved : goal.loop-preserved
loop-preserved c = record {
  passed = passed_next c.loop.invariant.passed c.in-Some.ensures.steps c.bounds.ensures (search rules) c.cover-bounds.ensures;
  counted = let e = c.loop.invariant.counted in omega arith;
}

pub invariant_of-result : goal.invariant_of-result
invariant_of-result c = elim c.loop-test.branch [
  | else-loop-test w ↦ let e : c.loop.counter ≡ c.args.size = omega arith in
      let p = rw e at c.loop.invariant.passed in
      let n = rw e at c.loop.invariant.counted in
      record { counted = ap (λ k. take k (items_left c.reach_next.new.self)) n; cover = p.cover; fitting = p.fitting }
  | then-loop-test+in-None w ↦ let s = w.in-None.ensures.steps in
      let p = passed_last c.loop.invariant.passed s.0 s.1 c.args.size (omega arith) in
      let t = all_passed c.loop.invariant.passed s.0 c.args.size (omega arith) in
      record { counted = ap (λ k. take k (items_left c.reach_next.new.self)) c.loop.invariant.counted ∙ t; cover = p.cover; fitting = p.fitting }
]

pub returns-clause-left : goal.returns-clause-left
returns-clause-left c = elim c.loop-test.branch [
  | else-loop-test w ↦ let e : c.loop.counter ≡ c.args.size = omega arith in
      let p = rw e at c.loop.invariant.passed in ap items_left w.items-is ∙ (p.rest ∙ ap (drop c.args.size) c.reach_next.ensures.left)
  | then-loop-test+in-None w ↦ let s = w.in-None.ensures.steps in
      let p = passed_last c.loop.invariant.passed s.0 s.1 c.args.size (omega arith) in ap items_left w.items-is ∙ (p.rest ∙ ap (drop c.args.size) c.reach_next.ensures.left)
]

-- `workspace::fill_rings` writes ring by ring. Assumes nothing.
use Rattle.workspace.proofs.Turns.{rings_begin, filling_ready, filling_next, filling_end}
use Rattle.workspace.proofs.fill_rings.Goals as goal

pub loop-init : goal.loop-init
loop-init c = rings_begin c.args.h c.args.s.now _ c.args.p _ _ c.u32_at-n.ensures c.requires

pub fill_line-place-requires : goal.fill_line-place-requires
fill_line-place-requires c = filling_ready _ _ _ _ _ _ _ _ _ _ c.loop.invariant c.loop-test.true

pub loop-preserved : goal.loop-preserved
loop-preserved c = filling_next _ _ _ _ _ _ _ _ _ _ _ _ _ c.loop.invariant c.loop-test.true c.fill_line-place.ensures

pub returns : goal.returns
returns c = filling_end _ _ _ _ _ _ _ _ _ _ c.loop.invariant c.loop-test.false

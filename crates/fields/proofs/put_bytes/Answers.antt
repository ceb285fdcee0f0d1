-- `put_bytes` meets its contract. Assumes nothing.
use Rattle.fields.proofs.Stores.{sets_turn}
use lib.Seq.{drop-length}
use lib.ListN.{length}
use native.Mathlib.Nat.{add-zero}
use native.Mathlib.Omega.{arith}
use mathlib.Core.Path.{◌≡◌, refl, sym, ◌∙◌}
use Rattle.fields.proofs.put_bytes.Goals as goal

pub loop-i-init : goal.loop-i-init
loop-i-init c = rw add-zero refl

pub loop-i-preserved : goal.loop-i-preserved
loop-i-preserved c = c.loop-i.invariant ∙ sets_turn _ _ _ _ 0 c.loop-i-test.true

pub returns : goal.returns
returns c = let all : c.loop-i.i ≡ length c.args.s.now = omega arith in
    sym (c.loop-i.invariant ∙ rw (all, drop-length) refl)

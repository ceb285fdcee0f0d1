-- `put_bytes` meets its contract. The loop's invariant: what is left to be put is s from i on. Assumes nothing.
use lib.Seq.{sets}
use lib.ListN.{drop}
use Prim.Native.Nat.{◌+◌}
use mathlib.Core.Path.{◌≡◌}
use Rattle.fields.proofs.put_bytes.Given as goal

abbrev pub invariant-loop-i : goal.invariant-loop-i
invariant-loop-i l = sets l.initial.out l.at l.s ≡ sets l.out (l.at + l.i) (drop l.i l.s)

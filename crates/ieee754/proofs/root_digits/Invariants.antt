-- `root_digits` meets its contract. The invariant of its loop is `Searching`. Assumes nothing.
use Rattle.ieee754.proofs.DigitLoop.{Searching}
use Rattle.ieee754.proofs.root_digits.Given as goal

abbrev pub invariant-loop-turns : goal.invariant-loop-turns
invariant-loop-turns l = Searching l.fn.m.digits l.q l.rest l.radicand l.turns

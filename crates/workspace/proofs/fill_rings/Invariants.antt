-- What the loop over the rings keeps. Assumes nothing.
use Rattle.coords.specs.Inner.{line_runs, rings_at_runs}
use Rattle.workspace.proofs.Turns.{Filling}
use Rattle.workspace.proofs.fill_rings.Given as goal

abbrev pub invariant-loop : goal.invariant-loop
invariant-loop l = Filling (line_runs l.h l.s) l.n (rings_at_runs l.h l.s l.fn.p.next) l.fn.p l.initial.floats l.initial.table l.counter l.place l.floats l.table

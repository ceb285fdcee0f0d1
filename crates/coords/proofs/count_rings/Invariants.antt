-- What the loop over the rings keeps. Assumes nothing.
use Rattle.std.proofs.Common.{◌≡◌}
use Rattle.coords.specs.Inner.{line_runs, rings_at_runs}
use Rattle.coords.specs.Counts.{run_counts}
use Rattle.coords.proofs.Loops.{counted}
use Rattle.coords.proofs.Inside.{Fits}
use Rattle.coords.proofs.count_rings.Given as goal

abbrev pub invariant-loop : goal.invariant-loop
invariant-loop l =
    record {
      counts : run_counts (rings_at_runs l.h l.s l.at) ≡ counted (line_runs l.h l.s) l.n l.counter l.all;
      fits : Fits 0 l.all;
    }

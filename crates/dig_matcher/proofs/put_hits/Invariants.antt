-- `put_hits` meets its contract: the first k are put. Assumes nothing.
use mathlib.Core.Path.{◌≡◌}
use lib.ListN.{take}
use Rattle.dig_matcher.specs.Job.{hit_lists}
use Rattle.dig_matcher.specs.Inner.{stored}
use Rattle.dig_matcher.proofs.put_hits.Given as goal

abbrev pub invariant-loop-k : goal.invariant-loop-k
invariant-loop-k l = hit_lists l.first l.second l.distances ≡ stored (hit_lists l.initial.first l.initial.second l.initial.distances) (take l.k l.hits)

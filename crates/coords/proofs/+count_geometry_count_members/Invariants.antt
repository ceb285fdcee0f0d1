-- The measures of `coords::count_geometry` and `coords::count_members`, and what the loop over the members keeps. Assumes nothing.
use Rattle.std.proofs.Common.{◌≡◌, ◌+◌, ◌*◌}
use Rattle.coords.specs.Inner.{walk_runs, members_at_runs}
use Rattle.coords.specs.Counts.{run_counts}
use Rattle.coords.proofs.Loops.{counted}
use Rattle.coords.proofs.Inside.{Fits}
use Rattle.coords.proofs.+count_geometry_count_members.Given as goal

abbrev pub decreases-count_geometry : goal.decreases-count_geometry
decreases-count_geometry l = 2 * l.levels

abbrev pub decreases-count_members : goal.decreases-count_members
decreases-count_members l = 2 * l.levels + 1

abbrev pub invariant-count_members-loop : goal.invariant-count_members-loop
invariant-count_members-loop l =
    record {
      counts : run_counts (members_at_runs l.levels l.little l.s l.at) ≡ counted (walk_runs l.levels l.s) l.n l.counter l.all;
      fits : Fits 0 l.all;
    }

-- The measures of `workspace::fill_geometry` and `workspace::fill_members`, and what the loop over the members keeps. Assumes nothing.
use Rattle.std.proofs.Common.{◌+◌, ◌*◌}
use Rattle.coords.specs.Inner.{walk_runs, members_at_runs}
use Rattle.workspace.proofs.Turns.{Filling}
use Rattle.workspace.proofs.+fill_geometry_fill_members.Given as goal

abbrev pub decreases-fill_geometry : goal.decreases-fill_geometry
decreases-fill_geometry l = 2 * l.levels

abbrev pub decreases-fill_members : goal.decreases-fill_members
decreases-fill_members l = 2 * l.levels + 1

abbrev pub invariant-fill_members-loop : goal.invariant-fill_members-loop
invariant-fill_members-loop l = Filling (walk_runs l.levels l.s) l.n (members_at_runs l.levels l.fn.little l.s l.fn.p.next) l.fn.p l.initial.floats l.initial.table l.counter l.place l.floats l.table

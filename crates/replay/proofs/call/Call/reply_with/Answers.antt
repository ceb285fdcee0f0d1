-- `Call::reply_with` meets its contract. Assumes nothing.
use mathlib.Core.Path.{refl}
use Rattle.operands.specs.Operands.{workspaces}
use Rattle.replay.specs.Calls.{operated}
use Rattle.replay.proofs.Told.{unwritten_is, written_is, written_one_is}
use Rattle.replay.proofs.call.Call.reply_with.Goals as goal

pub returns-in-Distance : goal.returns-in-Distance
unfolding operated
returns-in-Distance c = rw c.in-Distance.is (unwritten_is _ _ _ _ c.into.ensures _ c.st_3d_distance.ensures.whole_outcome)

pub returns-in-MaxDistance : goal.returns-in-MaxDistance
unfolding operated
returns-in-MaxDistance c = rw c.in-MaxDistance.is (unwritten_is _ _ _ _ c.into-in-MaxDistance.ensures _ c.st_3d_max_distance.ensures.whole_outcome)

pub returns-in-DWithin : goal.returns-in-DWithin
unfolding operated
returns-in-DWithin c = rw c.in-DWithin.is (unwritten_is _ _ _ _ c.into-in-DWithin.ensures _ (rw c.from_pattern-d.ensures at c.st_3d_dwithin.ensures.whole_outcome))

pub returns-in-DFullyWithin : goal.returns-in-DFullyWithin
unfolding operated
returns-in-DFullyWithin c = rw c.in-DFullyWithin.is (unwritten_is _ _ _ _ c.into-in-DFullyWithin.ensures _ (rw c.from_pattern-d.ensures at c.st_3d_dfully_within.ensures.whole_outcome))

pub returns-in-Intersects : goal.returns-in-Intersects
unfolding operated
returns-in-Intersects c = rw c.in-Intersects.is (unwritten_is _ _ _ _ c.into-in-Intersects.ensures _ c.st_3d_intersects.ensures.whole_outcome)

pub returns-in-ClosestPoint : goal.returns-in-ClosestPoint
unfolding operated
returns-in-ClosestPoint c = rw c.in-ClosestPoint.is (written_is _ _ _ _ c.into-in-ClosestPoint.ensures _ c.st_3d_closest_point.ensures.whole_outcome)

pub returns-in-ShortestLine : goal.returns-in-ShortestLine
unfolding operated
returns-in-ShortestLine c = rw c.in-ShortestLine.is (written_is _ _ _ _ c.into-in-ShortestLine.ensures _ c.st_3d_shortest_line.ensures.whole_outcome)

pub returns-in-LongestLine : goal.returns-in-LongestLine
unfolding operated
returns-in-LongestLine c = rw c.in-LongestLine.is (written_is _ _ _ _ c.into-in-LongestLine.ensures _ c.st_3d_longest_line.ensures.whole_outcome)

pub returns-in-LineInterpolatePoint : goal.returns-in-LineInterpolatePoint
unfolding operated
returns-in-LineInterpolatePoint c = rw c.in-LineInterpolatePoint.is (written_one_is _ _ _ _ c.into-in-LineInterpolatePoint.ensures (workspaces c.args.floats1.now c.args.table1.now c.args.floats2.now c.args.table2.now) _ (rw c.from_pattern-d.ensures at c.st_3d_line_interpolate_point.ensures.whole_outcome))

pub returns-in-Patch : goal.returns-in-Patch
unfolding operated
returns-in-Patch c = rw (c.in-Patch.is, c.into-in-Patch.ensures, c.patch_range.ensures) refl

pub returns-in-Sizes : goal.returns-in-Sizes
unfolding operated
returns-in-Sizes c = rw (c.in-Sizes.is, c.into-in-Sizes.ensures, c.blob_sizes.ensures) refl

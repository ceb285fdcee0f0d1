-- `read_point` meets its contract. Assumes nothing.
use Rattle.interpolation.proofs.Outcome.{room_at, handed, some_segment, point_read}
use Rattle.interpolation.proofs.read_point.Goals as goal

pub fill-requires : goal.fill-requires
fill-requires c = room_at c.args.s.now c.args.at c.args.coords c.args.runs c.args.floats.now c.args.table.now c.requires

pub new-line-requires : goal.new-line-requires
new-line-requires c = (handed c.args.s.now c.args.at c.args.coords c.args.runs c.args.floats.now c.args.table.now c.requires _ _ c.fill.ensures).laid

pub point_along-requires : goal.point_along-requires
point_along-requires c = rw c.new-line.ensures (some_segment c.args.s.now c.args.at c.args.coords c.args.runs c.args.floats.now c.args.table.now c.requires _ _ c.fill.ensures)

pub returns : goal.returns
returns c = point_read c.args.s.now c.args.at c.args.coords c.args.runs c.args.floats.now c.args.table.now c.requires _ _ c.fill.ensures _ _ (rw c.new-line.ensures at c.point_along.ensures)

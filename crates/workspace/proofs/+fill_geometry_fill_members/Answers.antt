-- `workspace::fill_geometry` writes what its content comes to, and `workspace::fill_members` member by member. Assumes nothing.
use native.Mathlib.Omega.{arith}
use mathlib.Core.Path.{sym, ◌∙◌}
use Rattle.workspace.proofs.Geometries.{point_filled, line_filled, polygon_filled, collection_filled}
use Rattle.workspace.proofs.Turns.{members_begin, filling_ready, filling_next, filling_end}
use Rattle.workspace.proofs.+fill_geometry_fill_members.Goals as goal

pub fill_geometry-returns-in-Point : goal.fill_geometry-returns-in-Point
fill_geometry-returns-in-Point t c =
    point_filled c.args.levels c.args.s.now c.args.p _ _ _ _ _ c.unwrap-h.result c.requires (sym c.read_header.ensures ∙ c.unwrap-h.ensures) (sym c.try_from.ensures ∙ c.in-Point.ensures) c.fill_run.ensures

pub fill_geometry-returns-in-Line : goal.fill_geometry-returns-in-Line
fill_geometry-returns-in-Line t c =
    line_filled c.args.levels c.args.s.now c.args.p _ _ _ _ _ c.unwrap-h.result c.requires (sym c.read_header.ensures ∙ c.unwrap-h.ensures) (sym c.try_from.ensures ∙ c.in-Line.ensures) c.fill_line.ensures

pub fill_geometry-returns-in-Polygon : goal.fill_geometry-returns-in-Polygon
fill_geometry-returns-in-Polygon t c =
    polygon_filled c.args.levels c.args.s.now c.args.p _ _ _ _ _ c.unwrap-h.result c.requires (sym c.read_header.ensures ∙ c.unwrap-h.ensures) (sym c.try_from.ensures ∙ c.in-Polygon.ensures) c.fill_rings.ensures

pub fill_geometry-returns-in-Collection : goal.fill_geometry-returns-in-Collection
fill_geometry-returns-in-Collection t c =
    collection_filled c.args.levels c.args.s.now c.args.p _ _ _ _ _ c.unwrap-h.result c.requires (sym c.read_header.ensures ∙ c.unwrap-h.ensures) (sym c.try_from.ensures ∙ c.in-Collection.ensures) c.fill_members.ensures

pub fill_members-loop-init : goal.fill_members-loop-init
fill_members-loop-init t c = members_begin c.args.levels c.args.little c.args.s.now _ c.args.p _ _ c.u32_at-n.ensures c.requires

pub fill_members-fill_geometry-place-requires : goal.fill_members-fill_geometry-place-requires
fill_members-fill_geometry-place-requires t c = (omega arith, filling_ready _ _ _ _ _ _ _ _ _ _ c.loop.invariant c.loop-test.true)

pub fill_members-loop-preserved : goal.fill_members-loop-preserved
fill_members-loop-preserved t c = filling_next _ _ _ _ _ _ _ _ _ _ _ _ _ c.loop.invariant c.loop-test.true c.fill_geometry-place.ensures

pub fill_members-returns : goal.fill_members-returns
fill_members-returns t c = filling_end _ _ _ _ _ _ _ _ _ _ c.loop.invariant c.loop-test.false

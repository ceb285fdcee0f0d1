-- `cut_by_class` meets its contract: there is room for the blocks of each class. Assumes nothing.
use mathlib.Core.Path.{refl}
use native.Mathlib.Omega.{arith}
use Prim.Native.Nat.{◌≤◌}
use lib.ListN.{length}
use Rattle.items.proofs.Left.{classes_on, class_counts}
use Rattle.blocks.specs.Blocks.{most_rows_by_class}
use Rattle.blocks.proofs.Room.{room_by_class, few_blocks_by_class}
use Rattle.blocks.proofs.cut_by_class.Goals as goal

pub cut_class-points-requires-clause-room : goal.cut_class-points-requires-clause-room
cut_class-points-requires-clause-room c = omega (arith, room_by_class c.args.total _ refl (length c.args.rows.now) c.requires.room, class_counts c.args.side.now)

pub cut_class-lines-requires-clause-room : goal.cut_class-lines-requires-clause-room
cut_class-lines-requires-clause-room c =
    rw c.cut_class-points.auto.rows (omega (arith, room_by_class c.args.total _ refl (length c.args.rows.now) c.requires.room, class_counts c.args.side.now))

pub cut_class-requires-clause-room : goal.cut_class-requires-clause-room
cut_class-requires-clause-room c =
    rw (c.cut_class-lines.auto.rows, c.cut_class-points.auto.rows)
    (omega (arith, room_by_class c.args.total _ refl (length c.args.rows.now) c.requires.room, class_counts c.args.side.now))

pub returns-clause-few : goal.returns-clause-few
returns-clause-few c =
    let few : c.cut_class.result ≤ most_rows_by_class = few_blocks_by_class c.args.total _ refl c.cut_class.result (omega (arith, class_counts c.args.side.now)) in
    omega arith

pub returns-clause-items : goal.returns-clause-items
returns-clause-items c = classes_on c.args.side.now _ _ _ c.cut_class-points.ensures.items c.cut_class-lines.ensures.items c.cut_class.ensures.items

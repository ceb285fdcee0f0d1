-- `cut` meets its contract: there is room for the blocks. Assumes nothing.
use mathlib.Core.Path.{◌≡◌, sym, ap, ◌∙◌}
use native.Mathlib.Omega.{arith}
use Prim.Native.Nat.{◌+◌, ◌*◌, ◌/◌, ◌<◌}
use lib.ListN.{length, take, drop}
use Rattle.std.proofs.lemmas.List.{length-take-le, drop-drop}
use Rattle.items.specs.Items.{items_of}
use Rattle.items.specs.Inner.{items_left}
use Rattle.blocks.proofs.Cutting.{blocks_more, sizes_more}
use Rattle.blocks.proofs.Room.{room}
use Rattle.blocks.proofs.in_order.cut.Goals as goal

pub slice_bounds-row-items-end : goal.slice_bounds-row-items-end
slice_bounds-row-items-end c = omega (arith, room c.args.total (length c.args.rows.now) c.requires.room)

pub slice_bounds-row-items-end-2 : goal.slice_bounds-row-items-end-2
slice_bounds-row-items-end-2 c = sym (length-take-le _ _ (omega (arith, room c.args.total (length c.args.rows.now) c.requires.room)))

pub returns-clause-within : goal.returns-clause-within
returns-clause-within c = omega (arith, room c.args.total (length c.args.rows.now) c.requires.room)

pub loop-row-preserved : goal.loop-row-preserved
loop-row-preserved c =
    let rows = c.loop-row.row-items in
    let i = c.loop-row.row-index in
    let b = c.next_of.result in
    let size = c.args.total / 128 + 8 in
    let all = items_of c.args.side.now in
    let within : i < length rows = rw c.loop-row.auto.row-items c.loop-row-test.true in
    let same : b.size ≡ size = omega arith in
    let asked = sym c.next_of.ensures.size ∙ same in
    let before = items_left c.loop-row.items in
    let left = c.next_of.ensures.left ∙ ap (λ k. drop k before) asked in
    let next = c.next_of.ensures.items ∙ ap (λ k. take k before) asked in
    let turn : i * size + size ≡ (i + 1) * size = omega arith in
    record {
      all = blocks_more rows i b size _ _ _ within left c.loop-row.invariant.all next;
      sizes = sizes_more rows i b size within c.loop-row.invariant.sizes same;
      left = left ∙ ap (drop size) c.loop-row.invariant.left ∙ drop-drop size (i * size) all ∙ ap (λ k. drop k all) turn;
    }

-- `surface::next_bytes` meets its contract: the part that `next_range` told lies in the blob. Assumes nothing.
use mathlib.Core.Path.{sym, ◌∙◌}
use native.Mathlib.Omega.{arith}
use Rattle.surface.proofs.Bounds.{InBlob, next_in_blob}
use Rattle.surface.proofs.next_bytes.Goals as goal

pub slice_bounds-result-count : goal.slice_bounds-result-count
slice_bounds-result-count c =
    let r = c.in-Ok-Some in
    let part : InBlob c.args.s.now r.field-0-0.start r.field-0-0.end = next_in_blob c.args.s.now c.args.at c.args.left _ _ (rw r.field-0-is at (sym c.next_range.ensures ∙ r.is)) in
    omega (arith, part)

pub slice_bounds-result-start : goal.slice_bounds-result-start
slice_bounds-result-start c =
    let r = c.in-Ok-Some in
    let part : InBlob c.args.s.now r.field-0-0.start r.field-0-0.end = next_in_blob c.args.s.now c.args.at c.args.left _ _ (rw r.field-0-is at (sym c.next_range.ensures ∙ r.is)) in
    omega (arith, part)

pub slice_bounds-result-end : goal.slice_bounds-result-end
slice_bounds-result-end c =
    let r = c.in-Ok-Some in
    let part : InBlob c.args.s.now r.field-0-0.start r.field-0-0.end = next_in_blob c.args.s.now c.args.at c.args.left _ _ (rw r.field-0-is at (sym c.next_range.ensures ∙ r.is)) in
    omega (arith, part)

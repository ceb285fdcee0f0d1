-- `fields::put_u32` meets its contract. Assumes nothing.
use mathlib.Core.Path.{refl}
use Rattle.fields.specs.Fields.{bytes_of_u32}
use Rattle.fields.proofs.Chunks.{put_row}
use Rattle.fields.proofs.put_u32.Goals as goal

pub returns : goal.returns
unfolding bytes_of_u32
returns c =
    let bytes = c.to_le_bytes.ensures in
    rw (c.copy_from_slice.ensures.after, bytes) (put_row c.args.at 4 c.args.out.now (bytes_of_u32 c.args.v) refl c.requires)

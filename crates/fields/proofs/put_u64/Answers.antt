-- `fields::put_u64` meets its contract. Assumes nothing.
use mathlib.Core.Path.{refl, ◌∙◌}
use Rattle.fields.specs.Fields.{bytes_of_u64, bytes_of_u32}
use Rattle.fields.proofs.Chunks.{put_row, bytes_of_u64_lem}
use Rattle.fields.proofs.put_u64.Goals as goal

pub returns : goal.returns
unfolding bytes_of_u64 bytes_of_u32
returns c =
    let bytes = c.to_le_bytes.ensures ∙ bytes_of_u64_lem c.args.v in
    rw (c.copy_from_slice.ensures.after, bytes) (put_row c.args.at 8 c.args.out.now (bytes_of_u64 c.args.v) refl c.requires)

-- What a call that reads a blob returns, from what reading it did. Assumes nothing.
use Prim.Native.Nat.{ℕ, ◌*◌, ◌≤◌}
use mathlib.Core.Path.{◌≡◌, sym, ◌∙◌}
use mathlib.Core.List.{List}
use native.Mathlib.Omega.{arith}
use lib.ListN.{length}
use lib.Ieee.{Float}
use Rattle.std.specs.Prelude.{Result, Ok}
use Rattle.refusals.specs.declared.Refusal.{Refusal}
use Rattle.refusals.proofs.Checks.{accepted_is}
use Rattle.gpb.specs.Header.{geometry_start}
use Rattle.coords.specs.Walk.{all_levels}
use Rattle.coords.proofs.Inside.{walked_counts}
use Rattle.blob.specs.Blob.{blob_read, answer_of, BlobOutcome}
use Rattle.blob.specs.declared.BlobRead.{BlobRead}
use Rattle.operands.specs.Operands.{Workspaces, workspaces}
use Rattle.replies.specs.Replies.{read_reply, returned_pair, read_returned}
use Rattle.replies.specs.declared.PairReply.{PairReply}

module _ (s : List ℕ) (w : Workspaces) (fs : List Float) (ts : List ℕ) (o : Result BlobRead Refusal) (h : BlobOutcome s w.floats1 w.table1 fs ts o) where
  pub as_read : (r : PairReply) → r ≡ read_reply o → returned_pair r (workspaces fs ts w.floats2 w.table2) ≡ read_returned s w
  unfolding read_returned
  as_read r e = rw (e, h.answer, h.ordinates, h.rows)

  -- so that no product wraps
  pub read_counts_fit : (read : BlobRead) → o ≡ Ok read → (16 * read.coords ≤ length s) × (read.runs ≤ read.coords)
  unfolding answer_of
  read_counts_fit read e =
      let same = (accepted_is _ (blob_read s) read (sym h.answer ∙ e)).1 in
      let fits = walked_counts all_levels s (geometry_start s) in
      rw (← same) (omega (arith, fits.0), omega (arith, fits.1))

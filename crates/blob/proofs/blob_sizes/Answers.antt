-- `blob::blob_sizes` refuses as the bytes' checks do. Assumes nothing.
use mathlib.Core.Path.{sym, ◌∙◌}
use Rattle.std.proofs.lemmas.Result.{err_from_is_err_and}
use Rattle.blob.proofs.Outcome.{sizes_refused}
use Rattle.blob.proofs.blob_sizes.Goals as goal

pub returns-in_err-o : goal.returns-in_err-o
returns-in_err-o c =
    let p = err_from_is_err_and c.from_residual.result c.from_residual.ensures.1 in
    rw (p.1, p.2) (sym (sizes_refused c.args.s.now _ (sym c.check_bytes.ensures ∙ c.in_err-o.was)))

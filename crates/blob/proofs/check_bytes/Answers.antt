-- `blob::check_bytes` refuses as the header does, and else answers as the walk does. Assumes nothing.
use mathlib.Core.Path.{sym, ◌∙◌}
use Rattle.std.proofs.lemmas.Result.{err_from_is_err_and}
use Rattle.refusals.specs.declared.Side.TheVariants.{First}
use Rattle.refusals.proofs.Sides.{side_first, side_second}
use Rattle.gpb.specs.Header.{geometry_start, header_checks}
use Rattle.coords.specs.Refusals.{walk_checks}
use Rattle.blob.specs.Blob.{bytes_checks}
use Rattle.blob.specs.Inner.{top_header_of, operand_of}
use Rattle.blob.proofs.check_bytes.Goals as goal

pub returns-in_err-top : goal.returns-in_err-top
unfolding bytes_checks
returns-in_err-top c =
    let p = err_from_is_err_and c.from_residual.result c.from_residual.ensures.1 in
    rw (p.1, p.2) (sym (side_first First (header_checks c.args.s.now) (top_header_of c.args.s.now) (operand_of c.args.s.now) (walk_checks c.args.s.now (geometry_start c.args.s.now)) _ (sym c.read_header.ensures ∙ c.in_err-top.was)))

pub returns : goal.returns
unfolding bytes_checks
returns c = c.read_walk.ensures ∙ sym (side_second First (header_checks c.args.s.now) (top_header_of c.args.s.now) (operand_of c.args.s.now) (walk_checks c.args.s.now (geometry_start c.args.s.now)) _ (sym c.read_header.ensures ∙ c.in_ok-top.was))

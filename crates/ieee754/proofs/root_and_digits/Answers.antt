-- `root_and_digits` meets its contract. Assumes nothing.
use mathlib.Core.Path.{sym, ap, ◌∙◌, subst}
use lib.Dec.{T}
use lib.Ieee.{binary64}
use lib.Ieee.Bits.{of_bits-to_bits}
use Rattle.ieee754.specs.Digits.{digits_needed}
use Rattle.ieee754.proofs.NeededDigits.{needed_of_others}
use Rattle.ieee754.proofs.RootCases.{root_from_tests, positive_by_tests}
use Rattle.ieee754.proofs.root_and_digits.Goals as goal
use Rattle.ieee754.proofs.root_and_digits.Goals.{else-s-via-then-s+else-s-2, else-s-via-else-s}

pub returns-then-s-2 : goal.returns-then-s-2
returns-then-s-2 c =
    let s = c.args.s in
    let found = c.root_by_digits.ensures in
    record {
      root = found.root ∙ root_from_tests s c.well_formed.0.1 c.if-s.true c.if-s-2.true;
      digits = found.digits ∙ ap digits_needed (of_bits-to_bits binary64 s (subst T (sym c.well_formed.0.1) tt));
    }

pub returns-else-s : goal.returns-else-s
returns-else-s c =
    let s = c.args.s in
    record {
      root = c.root.ensures.of_every;
      digits = sym (needed_of_others s (elim c.else-s.branch [ else-s-via-then-s+else-s-2 w ↦ rw (positive_by_tests s, w.if-s.true, w.if-s-2.false) | else-s-via-else-s w ↦ rw (positive_by_tests s, w.if-s.false) ]));
    }

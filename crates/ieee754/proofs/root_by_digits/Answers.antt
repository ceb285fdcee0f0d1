-- `root_by_digits` meets its contract. Assumes nothing.
use mathlib.Core.Path.{ap, ◌∙◌}
use Prim.Native.Nat.{ℕ, ◌<◌, ◌*◌, ◌^◌}
use lib.Ieee.{binary64, of_bits}
use lib.Ieee.Bits.{of_bits-fits}
use Rattle.ieee754.proofs.NeededDigits.{turns_are_needed}
use Rattle.ieee754.proofs.Normalization.{root_rounds}
use Rattle.ieee754.proofs.PatternValues.{pattern_value, units_of_value, positive_of_pattern, finite_pattern_no_nan}
use Rattle.ieee754.proofs.root_by_digits.Goals as goal

pub float_from_bits-result : goal.float_from_bits-result
float_from_bits-result c =
    let small : c.rounded.result < 2047 * 2 ^ 52 = rw c.rounded.ensures (root_rounds _ _ _ _ _ c.radicand_of-n.ensures c.root_digits-d.ensures.root).1 in
    finite_pattern_no_nan c.rounded.result small

pub returns : goal.returns
returns c =
    let b = c.args.b.bits in
    let n = c.radicand_of-n.ensures in
    let d = c.root_digits-d.ensures in
    record {
      root = ap (λ (z : ℕ). of_bits binary64 z) (c.rounded.ensures ∙ (root_rounds _ _ _ _ _ n d.root).0);
      digits = turns_are_needed (of_bits binary64 b) (of_bits-fits binary64 b) (positive_of_pattern b c.args.b.finite) b _ _ _ _ _ (units_of_value _ _ (pattern_value b c.args.b.finite.below)) n d.root d.turns;
    }

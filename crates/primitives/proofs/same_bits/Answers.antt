-- `primitives::same_bits` meets its contract: the pattern of a float of the format gives it back. Assumes nothing.
use mathlib.Core.Path.{◌≡◌, sym, ap, subst, ◌∙◌}
use borrow.Author.Tests.{eqb-true}
use lib.Dec.{T}
use lib.Ieee.{Float, binary64, fits, of_bits, to_bits}
use lib.Ieee.Bits.{of_bits-to_bits}
use Rattle.primitives.proofs.same_bits.Goals as goal

pattern_tells : (x y : Float) → T (fits binary64 x) → T (fits binary64 y) → to_bits binary64 x ≡ to_bits binary64 y → x ≡ y
pattern_tells x y f g e = sym (of_bits-to_bits binary64 x f) ∙ ap (of_bits binary64) e ∙ of_bits-to_bits binary64 y g

pub returns : goal.returns
returns c e = pattern_tells c.args.x c.args.y (subst T (sym c.well_formed.0.1) tt) (subst T (sym c.well_formed.1.0.1) tt) (sym c.to_pattern.ensures ∙ eqb-true _ _ e ∙ c.to_pattern-2.ensures)

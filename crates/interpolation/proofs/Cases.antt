-- The branches of the small functions, by the tests that the code makes. Assumes nothing.
use mathlib.Core.Path.{◌≡◌, refl, sym, ap, ◌∙◌}
use mathlib.Core.Bool.{Bool, true, false, cond, ◌&&◌, not}
use lib.Ieee.{Float, binary64, div, eq, le, of_bits}
use Rattle.ieee754.specs.MinMax.{positive_zero, one, clamp_of}
use Rattle.interpolation.specs.Interpolation.{parameter_of}
use Rattle.interpolation.specs.Operation.{out_of_range}

-- ---- 2

module _ (fraction : Float) where
  range : (a b : Bool) → le positive_zero fraction ≡ a → le fraction one ≡ b → not (a && b) ≡ out_of_range fraction
  unfolding out_of_range
  range a b p q = sym (ap (λ (t : Bool). not (t && le fraction one)) p ∙ ap (λ (t : Bool). not (a && t)) q)

  pub below_range : le (of_bits binary64 0) fraction ≡ false → true ≡ out_of_range fraction
  unfolding of_bits
  below_range p = range false (le fraction one) p refl

  pub within_range : le (of_bits binary64 0) fraction ≡ true → not (le fraction (of_bits binary64 0x3ff0_0000_0000_0000)) ≡ out_of_range fraction
  unfolding of_bits
  within_range p = range true (le fraction one) p refl

-- ---- t

module _ (rest whole : Float) where
  part_is : (b : Bool) → eq whole positive_zero ≡ b → cond b positive_zero (clamp_of (div binary64 rest whole)) ≡ parameter_of rest whole
  unfolding parameter_of
  part_is b e = sym (ap (λ (t : Bool). cond t positive_zero (clamp_of (div binary64 rest whole))) e)

  pub parameter_of_none : eq whole (of_bits binary64 0) ≡ true → of_bits binary64 0 ≡ parameter_of rest whole
  unfolding of_bits
  parameter_of_none e = part_is true e

  pub parameter_of_some : (t : Float) → eq whole (of_bits binary64 0) ≡ false → t ≡ clamp_of (div binary64 rest whole) → t ≡ parameter_of rest whole
  unfolding of_bits
  parameter_of_some t e f = f ∙ part_is false e

-- Bit patterns: a NaN's pattern is read as NaN, and a NaN is written as 7FF8000000000000 hexadecimal. Assumes nothing.
use mathlib.Core.Bool.{true}
use mathlib.Core.Path.{◌≡◌, refl, sym, subst, ◌∙◌}
use Prim.Native.Nat.{ℕ, ◌%◌, ◌<◌}
use lib.Dec.{lit<}
use lib.Ieee.{Float, nan, binary64, is_nan, of_bits, to_bits}
use lib.Ieee.Bits.{nan_bits_is, nan_bits_above}
use borrow.Author.Tests.{lt-ltb}
use Rattle.ieee754.proofs.FloatOrder.{is_nan_lem}

nan_pattern : (n : ℕ) → 0x7ff0_0000_0000_0000 < n % 0x8000_0000_0000_0000 → of_bits binary64 n ≡ nan
nan_pattern n h = is_nan_lem (of_bits binary64 n) (sym (nan_bits_is binary64 n) ∙ (nan_bits_above binary64 n ∙ lt-ltb _ _ h))

pub nan_read : (n : ℕ) → 0x7ff0_0000_0000_0000 < n % 0x8000_0000_0000_0000 → of_bits binary64 0x7ff8_0000_0000_0000 ≡ of_bits binary64 n
nan_read n h = nan_pattern 0x7ff8_0000_0000_0000 (lit< tt) ∙ sym (nan_pattern n h)

pub nan_written : (x : Float) → is_nan x ≡ true → 0x7ff8_0000_0000_0000 ≡ to_bits binary64 x
unfolding to_bits
nan_written x h = subst (λ (z : Float). 0x7ff8_0000_0000_0000 ≡ to_bits binary64 z) (sym (is_nan_lem x h)) refl

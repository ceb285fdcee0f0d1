-- A number read from bytes fits its width. Assumes nothing.
use mathlib.Core.Bool.{Bool, true, false}
use mathlib.Core.List.{List}
use Prim.Native.Nat.{ℕ, ◌+◌, ◌^◌, ◌<◌}
use native.Mathlib.Omega.{arith}
use lib.ListN.{get_or}
use Rattle.fields.specs.Fields.{u32_at, u64_at}

module _ (s : List ℕ) (bytes : (i : ℕ) → get_or s i 0 < 256) where
  pub u32_fits : (little : Bool) (at : ℕ) → u32_at little s at < 2 ^ 32
  unfolding u32_at
  u32_fits true at = omega (arith, bytes at, bytes (at + 1), bytes (at + 2), bytes (at + 3))
  u32_fits false at = omega (arith, bytes at, bytes (at + 1), bytes (at + 2), bytes (at + 3))

  pub u64_fits : (little : Bool) (at : ℕ) → u64_at little s at < 2 ^ 64
  unfolding u64_at
  u64_fits true at = omega (arith, u32_fits true at, u32_fits true (at + 4))
  u64_fits false at = omega (arith, u32_fits false at, u32_fits false (at + 4))

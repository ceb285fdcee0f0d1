-- How many blocks there are at most. Assumes nothing.
use mathlib.Core.Path.{◌≡◌}
use mathlib.Core.Logic.{⊎_elim, ◌⊎◌}
use native.Mathlib.Omega.{arith}
use Prim.Native.Nat.{ℕ, ◌+◌, ◌*◌, ◌/◌, ◌<◌, ◌≤◌}
use Rattle.std.proofs.Math.Nat.{mul-le-mul_right, lt_of_mul-lt-mul_right}
use Rattle.std.specs.Int.{div_ceil}
use Rattle.std.proofs.lemmas.Grind.{common_steps}
use Rattle.blocks.specs.Blocks.{most_full, most_rows_by_class}

-- a block has 8 items or more, and there are 128 blocks at most
pub few_blocks : (total : ℕ) → div_ceil total (total / 128 + 8) ≤ 128
few_blocks total = grind (arith, common_steps)

pub eights : (total n : ℕ) → total ≤ 8 * n → div_ceil total (total / 128 + 8) ≤ n
eights total n h = grind (arith, common_steps, h)

pub room : (total n : ℕ) → (128 ≤ n) ⊎ (total ≤ 8 * n) → div_ceil total (total / 128 + 8) ≤ n
room total n = ⊎_elim (λ h. omega (arith, few_blocks total, h)) (eights total n)

-- ---- where each class is cut by itself

-- a row is free while an item is left
pub row_left : (count size rows left all : ℕ) → 0 < left → count * size + left ≡ all → all ≤ rows * size → count < rows
row_left count size rows left all some e h = lt_of_mul-lt-mul_right size (omega arith)

module _ (total size : ℕ) (is : size ≡ total / most_full + 8) where
  -- what 128 full blocks hold
  full : total + 897 ≤ 128 * size
  full = omega arith

  -- ---- room for all items, and for two blocks that may have one item

  by_rows : (n : ℕ) → most_rows_by_class ≤ n → total + 2 * size ≤ n * size + 2
  by_rows n h = omega (arith, full, mul-le-mul_right {m = most_rows_by_class} {n = n} size h)

  by_eights : (n : ℕ) → total + 16 ≤ 8 * n → total + 2 * size ≤ n * size + 2
  by_eights n h =
      let two : 2 ≤ n = omega arith in
      let t = total / most_full in
      let e : n * size ≡ n * t + 8 * n = rw is (omega arith) in
      omega (arith, mul-le-mul_right {m = 2} {n = n} t two)

  pub room_by_class : (n : ℕ) → (most_rows_by_class ≤ n) ⊎ (total + 16 ≤ 8 * n) → total + 2 * size ≤ n * size + 2
  room_by_class n = ⊎_elim (by_rows n) (by_eights n)

  -- ---- blocks of all items, of which three may have one

  pub few_blocks_by_class : (count : ℕ) → count * size + 3 ≤ total + 3 * size → count ≤ most_rows_by_class
  few_blocks_by_class count h =
      let more : count * size < 131 * size = omega (arith, full, h) in
      let k : count < 131 = lt_of_mul-lt-mul_right size more in
      omega arith

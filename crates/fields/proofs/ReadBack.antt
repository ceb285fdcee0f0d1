-- A number that was put at a position is read there. Assumes nothing.
use mathlib.Core.Path.{◌≡◌, sym, ap, ◌∙◌}
use mathlib.Core.Bool.{true}
use mathlib.Core.List.{List}
use Prim.Native.Nat.{ℕ, ◌+◌, ◌/◌, ◌%◌, ◌^◌, ◌<◌, ◌≤◌}
use native.Mathlib.Nat.{add-zero, add_assoc, div-div-eq-div-mul, div-add-mod, mod-eq_of_lt, div-lt_iff_lt-mul}
use native.Mathlib.Omega.{arith}
use lib.Dec.{lit<, lit≤}
use lib.ListN.{length, get_or}
use lib.Seq.{sets}
use Rattle.fields.specs.Fields.{little_endian, u32_at, u64_at, bytes_of_u32, bytes_of_u64}
use Rattle.fields.proofs.Stores.{get_d_sets}

-- four bytes of a number give it back
pub four_bytes_back : (n : ℕ) → n < 2 ^ 32 → little_endian (n % 256) (n / 256 % 256) (n / 65536 % 256) (n / 16777216 % 256) ≡ n
four_bytes_back n h =
    let second : n / 256 / 256 ≡ n / 65536 = div-div-eq-div-mul n 256 256 in
    let third : n / 65536 / 256 ≡ n / 16777216 = div-div-eq-div-mul n 65536 256 in
    let last : n / 16777216 < 256 = (div-lt_iff_lt-mul (lit< tt)).1 h in
    omega (arith, div-add-mod n 256, div-add-mod (n / 256) 256, div-add-mod (n / 65536) 256, mod-eq_of_lt last)

-- a u32 read from bytes that were stored in a row is the row's own
pub u32_of_stored : (vs l : List ℕ) (at i : ℕ) → at + length vs ≤ length l → i + 4 ≤ length vs → u32_at true (sets l at vs) (at + i) ≡ u32_at true vs i
unfolding u32_at
u32_of_stored vs l at i h b =
    let byte : (k : ℕ) → k < 4 → get_or (sets l at vs) (at + i + k) 0 ≡ get_or vs (i + k) 0 =
    λ k c. ap (λ (j : ℕ). get_or (sets l at vs) j 0) (add_assoc at i k) ∙ get_d_sets vs l at (i + k) 0 h (omega arith) in
    rw (get_d_sets vs l at i 0 h (omega arith), byte 1 (lit< tt), byte 2 (lit< tt), byte 3 (lit< tt))

-- End theorem: a u32 put at a position is read there
pub u32_read_back : (l : List ℕ) (at n : ℕ) → at + 4 ≤ length l → n < 2 ^ 32 → u32_at true (sets l at (bytes_of_u32 n)) at ≡ n
unfolding u32_at bytes_of_u32
u32_read_back l at n h b =
    ap (u32_at true (sets l at (bytes_of_u32 n))) (sym (add-zero at)) ∙ u32_of_stored (bytes_of_u32 n) l at 0 h (lit≤ tt) ∙ four_bytes_back n b

-- eight bytes of a number give it back
pub eight_bytes_back : (n : ℕ) → n < 2 ^ 64 → u64_at true (bytes_of_u64 n) 0 ≡ n
unfolding u32_at u64_at bytes_of_u32 bytes_of_u64
eight_bytes_back n h = omega (arith, four_bytes_back (n % 2 ^ 32) (omega arith), four_bytes_back (n / 2 ^ 32) (omega arith))

-- End theorem: a u64 put at a position is read there
pub u64_read_back : (l : List ℕ) (at n : ℕ) → at + 8 ≤ length l → n < 2 ^ 64 → u64_at true (sets l at (bytes_of_u64 n)) at ≡ n
unfolding u64_at bytes_of_u32 bytes_of_u64
u64_read_back l at n h b =
    let vs = bytes_of_u64 n in
    let low : u32_at true (sets l at vs) at ≡ u32_at true vs 0 = ap (u32_at true (sets l at vs)) (sym (add-zero at)) ∙ u32_of_stored vs l at 0 h (lit≤ tt) in
    omega (arith, low, u32_of_stored vs l at 4 h (lit≤ tt), eight_bytes_back n b)

-- Bytes read and written as std's numbers read and write them. Assumes nothing.
use mathlib.Core.Path.{◌≡◌, refl, sym, ap, ◌∙◌}
use mathlib.Core.Bool.{true, false}
use mathlib.Core.List.{List, ◌++◌}
use Prim.Native.Nat.{ℕ, ◌+◌, ◌-◌, ◌*◌, ◌/◌, ◌%◌, ◌<◌, ◌≤◌}
use native.Mathlib.Nat.{add-zero, add_assoc}
use native.Mathlib.Omega.{arith}
use lib.Dec.{lit<}
use lib.ListN.{length, get_or, take, drop}
use lib.Seq.{sets, sets-eq}
use borrow.Rule.Slice.PartMut.{put_mid, Post-is}
use Rattle.std.specs.List.{slice_range}
use Rattle.std.specs.Int.{w32, w64, from_le_bytes, from_be_bytes, to_le_bytes}
use Rattle.std.proofs.lemmas.List.{append_assoc, get_or-drop, get_or-take}
use Rattle.fields.specs.Fields.{u32_at, u64_at, bytes_of_u32, bytes_of_u64}

-- a byte of a part is a byte of the whole
byte_of_part : (s : List ℕ) (at n i : ℕ) → i < n → get_or (slice_range s at (at + n)) i 0 ≡ get_or s (at + i) 0
byte_of_part s at n i h = get_or-take (at + n - at) (drop at s) i 0 (omega arith) ∙ get_or-drop at s i 0

-- the four bytes at a position, as std reads them
module _ (s bytes : List ℕ) (at : ℕ) (part : bytes ≡ slice_range s at (at + 4)) where
  byte_4 : (i : ℕ) → i < 4 → get_or bytes i 0 ≡ get_or s (at + i) 0
  byte_4 i h = ap (λ (l : List ℕ). get_or l i 0) part ∙ byte_of_part s at 4 i h

  first_of_4 : get_or bytes 0 0 ≡ get_or s at 0
  first_of_4 = byte_4 0 (lit< tt) ∙ ap (λ (i : ℕ). get_or s i 0) (add-zero at)

  pub u32_little : from_le_bytes w32 bytes ≡ u32_at true s at
  unfolding u32_at
  u32_little =
      let sum : from_le_bytes w32 bytes ≡ get_or bytes 0 0 + get_or bytes 1 0 * 256 + get_or bytes 2 0 * 65536 + get_or bytes 3 0 * 16777216 = refl in
      sum ∙ (omega (arith, first_of_4, byte_4 1 (lit< tt), byte_4 2 (lit< tt), byte_4 3 (lit< tt)))

  pub u32_big : from_be_bytes w32 bytes ≡ u32_at false s at
  unfolding u32_at
  u32_big =
      let sum : from_be_bytes w32 bytes ≡ get_or bytes 0 0 * 16777216 + get_or bytes 1 0 * 65536 + get_or bytes 2 0 * 256 + get_or bytes 3 0 = refl in
      sum ∙ (omega (arith, first_of_4, byte_4 1 (lit< tt), byte_4 2 (lit< tt), byte_4 3 (lit< tt)))

-- the eight bytes at a position, as std reads them
module _ (s bytes : List ℕ) (at : ℕ) (part : bytes ≡ slice_range s at (at + 8)) where
  byte_8 : (i : ℕ) → i < 8 → get_or bytes i 0 ≡ get_or s (at + i) 0
  byte_8 i h = ap (λ (l : List ℕ). get_or l i 0) part ∙ byte_of_part s at 8 i h

  first_of_8 : get_or bytes 0 0 ≡ get_or s at 0
  first_of_8 = byte_8 0 (lit< tt) ∙ ap (λ (i : ℕ). get_or s i 0) (add-zero at)

  late_byte : (i : ℕ) → i < 4 → get_or bytes (4 + i) 0 ≡ get_or s (at + 4 + i) 0
  late_byte i h = byte_8 (4 + i) (omega arith) ∙ ap (λ (k : ℕ). get_or s k 0) (sym (add_assoc at 4 i))

  pub u64_little : from_le_bytes w64 bytes ≡ u64_at true s at
  unfolding u32_at u64_at
  u64_little =
      let sum : from_le_bytes w64 bytes ≡ get_or bytes 0 0 + get_or bytes 1 0 * 256 + get_or bytes 2 0 * 65536 + get_or bytes 3 0 * 16777216 + get_or bytes 4 0 * 4294967296 + get_or bytes 5 0 * 1099511627776 + get_or bytes 6 0 * 281474976710656 + get_or bytes 7 0 * 72057594037927936 = refl in
      sum ∙ (omega (arith, first_of_8, byte_8 1 (lit< tt), byte_8 2 (lit< tt), byte_8 3 (lit< tt), byte_8 4 (lit< tt), late_byte 1 (lit< tt), late_byte 2 (lit< tt), late_byte 3 (lit< tt)))

  pub u64_big : from_be_bytes w64 bytes ≡ u64_at false s at
  unfolding u32_at u64_at
  u64_big =
      let sum : from_be_bytes w64 bytes ≡ get_or bytes 0 0 * 72057594037927936 + get_or bytes 1 0 * 281474976710656 + get_or bytes 2 0 * 1099511627776 + get_or bytes 3 0 * 4294967296 + get_or bytes 4 0 * 16777216 + get_or bytes 5 0 * 65536 + get_or bytes 6 0 * 256 + get_or bytes 7 0 = refl in
      sum ∙ (omega (arith, first_of_8, byte_8 1 (lit< tt), byte_8 2 (lit< tt), byte_8 3 (lit< tt), byte_8 4 (lit< tt), late_byte 1 (lit< tt), late_byte 2 (lit< tt), late_byte 3 (lit< tt)))

-- a row put in the place of as many elements
pub put_row : {A : Type 0} (at k : ℕ) (xs ys : List A) → k ≡ length ys → at + length ys ≤ length xs → put_mid at (at + k - at) xs ys ≡ sets xs at ys
put_row at k xs ys e h =
    let post = Post-is at (at + k) xs (omega arith) in
    ap (λ l. take at xs ++ (ys ++ l)) (post ∙ ap (λ n. drop (at + n) xs) e) ∙ sym (append_assoc (take at xs) ys _) ∙ sym (sets-eq ys xs at h)

-- the bytes of a u64, as std writes them
pub bytes_of_u64_lem : (n : ℕ) → to_le_bytes w64 n ≡ bytes_of_u64 n
unfolding bytes_of_u64 bytes_of_u32
bytes_of_u64_lem n =
    let low_0 : n % 4294967296 % 256 ≡ n % 256 = omega arith in
    let low_1 : n % 4294967296 / 256 % 256 ≡ n / 256 % 256 = omega arith in
    let low_2 : n % 4294967296 / 65536 % 256 ≡ n / 65536 % 256 = omega arith in
    let low_3 : n % 4294967296 / 16777216 % 256 ≡ n / 16777216 % 256 = omega arith in
    let high_1 : n / 4294967296 / 256 % 256 ≡ n / 1099511627776 % 256 = omega arith in
    let high_2 : n / 4294967296 / 65536 % 256 ≡ n / 281474976710656 % 256 = omega arith in
    let high_3 : n / 4294967296 / 16777216 % 256 ≡ n / 72057594037927936 % 256 = omega arith in
    cc

-- The header and the fields of the blobs that are written, whatever stands after them. Assumes nothing.
use mathlib.Core.Path.{◌≡◌, refl}
use mathlib.Core.Bool.{true}
use mathlib.Core.List.{List, ◌++◌, append_assoc}
use Prim.Native.Nat.{ℕ, ◌^◌, ◌<◌}
use native.Mathlib.Omega.{arith}
use lib.Dec.{T, lit<}
use lib.Ieee.{Float, fits, binary64, to_bits}
use lib.Ieee.Bits.{to_bits-lt}
use borrow.Author.Tests.{le-ltb}
use lib.ListN.{length, take}
use lib.Seq.{take_at}
use Rattle.std.specs.Prelude.{Ok}
use Rattle.refusals.specs.Checks.{first_of}
use Rattle.fields.specs.Fields.{u32_at, u64_at, bytes_of_u32, bytes_of_u64}
use Rattle.fields.proofs.ReadBack.{four_bytes_back, eight_bytes_back}
use Rattle.gpb.specs.Header.{is_gp, doubles_of, geometry_start, top_type, srid_of, has_z, under_eight_bytes, version_not_zero, extended_bit, reserved_bits, indicator_above_four, ends_in_envelope, top_header_cut, byte_order_above_one, lacks_z, gp_checks, top_checks, header_checks, header_checks_3d, header_of_3d}
use Rattle.gpb.specs.Written.{line_bytes, header_bytes, ordinate_bytes, coordinate_bytes, point_blob, line_blob}

-- the header of a blob that starts as it is written: start 8, its type and SRID
pub header_back : (srid code : ℕ) (rest : List ℕ) → srid < 2 ^ 32 → code < 2 ^ 32 → has_z code ≡ true → header_of_3d (header_bytes srid code ++ rest) ≡ Ok (record { at = 8; code = code; srid = srid })
unfolding header_of_3d header_checks_3d header_checks gp_checks top_checks first_of under_eight_bytes version_not_zero extended_bit reserved_bits indicator_above_four ends_in_envelope top_header_cut byte_order_above_one lacks_z srid_of top_type geometry_start doubles_of is_gp u32_at header_bytes bytes_of_u32
header_back srid code rest hs hc z =
    let n = length (header_bytes srid code ++ rest) in
    simp (le-ltb n 8 (omega arith), le-ltb n 13 (omega arith), four_bytes_back code hc, four_bytes_back srid hs, z)

pub point_header_back : (srid : ℕ) (x y z : Float) (rest : List ℕ) → srid < 2 ^ 32 → header_of_3d (point_blob srid x y z ++ rest) ≡ Ok (record { at = 8; code = 1001; srid = srid })
unfolding point_blob has_z
point_header_back srid x y z rest h = rw append_assoc (header_back srid 1001 (coordinate_bytes x y z ++ rest) h (lit< tt) refl)

pub line_header_back : (srid : ℕ) (ax ay az bx by bz : Float) (rest : List ℕ) → srid < 2 ^ 32 → header_of_3d (line_blob srid ax ay az bx by bz ++ rest) ≡ Ok (record { at = 8; code = 1002; srid = srid })
unfolding line_blob has_z
line_header_back srid ax ay az bx by bz rest h =
    simp append_assoc (header_back srid 1002 (bytes_of_u32 2 ++ (coordinate_bytes ax ay az ++ (coordinate_bytes bx by bz ++ rest))) h (lit< tt) refl)

-- the count and the six patterns of a line's bytes
pub record LineFields (s : List ℕ) (ax ay az bx by bz : ℕ) : Type 0 where
  pub count : u32_at true s 13 ≡ 2
  pub first_x : u64_at true s 17 ≡ ax
  pub first_y : u64_at true s 25 ≡ ay
  pub first_z : u64_at true s 33 ≡ az
  pub second_x : u64_at true s 41 ≡ bx
  pub second_y : u64_at true s 49 ≡ by
  pub second_z : u64_at true s 57 ≡ bz

-- eight bytes of a float's pattern give the pattern back
pattern_back : (x : Float) → T (fits binary64 x) → u64_at true (bytes_of_u64 (to_bits binary64 x)) 0 ≡ to_bits binary64 x
pattern_back x f = eight_bytes_back (to_bits binary64 x) (to_bits-lt binary64 x f)

pub line_fields_back : (srid : ℕ) (ax ay az bx by bz : Float) (rest : List ℕ) → T (fits binary64 ax) → T (fits binary64 ay) → T (fits binary64 az) → T (fits binary64 bx) → T (fits binary64 by) → T (fits binary64 bz) → LineFields (line_blob srid ax ay az bx by bz ++ rest) (to_bits binary64 ax) (to_bits binary64 ay) (to_bits binary64 az) (to_bits binary64 bx) (to_bits binary64 by) (to_bits binary64 bz)
unfolding u64_at u32_at line_blob header_bytes coordinate_bytes ordinate_bytes bytes_of_u64 bytes_of_u32
line_fields_back srid ax ay az bx by bz rest fax fay faz fbx fby fbz = record {
  count = refl;
  first_x = pattern_back ax fax;
  first_y = pattern_back ay fay;
  first_z = pattern_back az faz;
  second_x = pattern_back bx fbx;
  second_y = pattern_back by fby;
  second_z = pattern_back bz fbz;
}

pub line_length : (srid : ℕ) (ax ay az bx by bz : Float) → length (line_blob srid ax ay az bx by bz) ≡ line_bytes
unfolding line_blob header_bytes coordinate_bytes ordinate_bytes bytes_of_u64 bytes_of_u32
line_length srid ax ay az bx by bz = refl

-- the first 65 bytes of what is written are the line's
pub line_taken : (srid : ℕ) (ax ay az bx by bz : Float) (rest : List ℕ) → take line_bytes (line_blob srid ax ay az bx by bz ++ rest) ≡ line_blob srid ax ay az bx by bz
line_taken srid ax ay az bx by bz rest = take_at (line_blob srid ax ay az bx by bz) rest line_bytes (line_length srid ax ay az bx by bz)

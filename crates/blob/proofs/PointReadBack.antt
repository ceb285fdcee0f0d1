-- A point that is written reads back, whatever stands after it: header and walk accept its 37 bytes and give one point run, of its coordinate. Assumes nothing.
use mathlib.Core.Path.{◌≡◌, refl, sym, ap, subst, ◌∙◌}
use mathlib.Core.Bool.{true, false}
use mathlib.Core.List.{List, [], ◌∷◌, ◌++◌, append-nil}
use Prim.Native.Nat.{ℕ, suc, ◌^◌, ◌<◌, ◌≤◌}
use native.Mathlib.Omega.{arith}
use lib.Dec.{T, lit≤}
use lib.ListN.{length, get_or, take}
use lib.Seq.{take_at}
use lib.Ieee.{Float, fits, binary64, to_bits}
use lib.Ieee.Bits.{to_bits-lt}
use borrow.Author.Tests.{le-ltb}
use Rattle.std.specs.Prelude.{None, Ok}
use Rattle.refusals.specs.Checks.{first_of}
use Rattle.refusals.proofs.Checks.{accepted_is}
use Rattle.fields.specs.Fields.{u32_at, u64_at, bytes_of_u32, bytes_of_u64}
use Rattle.fields.proofs.ReadBack.{eight_bytes_back}
use Rattle.gpb.specs.Header.{header_checks_3d, found_header, header_of_3d}
use Rattle.gpb.specs.Written.{point_bytes, header_bytes, ordinate_bytes, coordinate_bytes, point_blob}
use Rattle.gpb.proofs.HeaderLaws.{accepted_3d, accepted}
use Rattle.gpb.proofs.ReadBack.{point_header_back}
use Rattle.coords.specs.Walk.{Coordinate, Geometry, geometry, point, ok, map_parsed, z_of, m_of, header_of_type, header_at, stride_of, ordinate_if, coordinate_at, point_at, geometry_class_of, content_of, geometry_from, walk_of, all_levels}
use Rattle.coords.specs.Parts.{run, content_runs, runs_of}
use Rattle.blob.specs.Blob.{walk_of_blob}
use Rattle.blob.proofs.LineReadBack.{coordinate_of}

-- a point that has z and no m
abbrev pub point_geometry : Coordinate → Geometry
point_geometry c = geometry 1 true false (point c)

-- header and walk accept a blob, which ends at byte 37 and gives no run but one point run, of c
pub record ReadsAsPoint (s : List ℕ) (c : Coordinate) : Type 0 where
  pub header : first_of (header_checks_3d s) ≡ None
  pub walk : walk_of_blob s ≡ ok (point_geometry c) point_bytes
  pub only_run : runs_of (point_geometry c) ≡ run 1 (c ∷ []) ∷ []

-- the walk at byte 8, by the bytes that it reads: little-endian, type 1001, three patterns
walk_by_fields : (levels : ℕ) (s : List ℕ) (x y z : ℕ) → point_bytes ≤ length s → get_or s 8 0 ≡ 1 → u32_at true s 9 ≡ 1001 → u64_at true s 13 ≡ x → u64_at true s 21 ≡ y → u64_at true s 29 ≡ z → walk_of (suc levels) s 8 ≡ ok (point_geometry (coordinate_of x y z)) point_bytes
unfolding walk_of geometry_from header_at header_of_type z_of m_of geometry_class_of content_of map_parsed point_at coordinate_at stride_of ordinate_if
walk_by_fields levels s x y z h order type p q r = simp (le-ltb (length s) 13 (omega arith), order, type, le-ltb (length s) point_bytes h, p, q, r)

one_run : (c : Coordinate) → runs_of (point_geometry c) ≡ run 1 (c ∷ []) ∷ []
unfolding runs_of content_runs
one_run c = refl

module _ (srid : ℕ) (x y z : Float) where
  abbrev blob : List ℕ
  blob = point_blob srid x y z

  blob_length : length blob ≡ point_bytes
  unfolding point_blob header_bytes coordinate_bytes ordinate_bytes bytes_of_u64 bytes_of_u32
  blob_length = refl

  module _ (small : srid < 2 ^ 32) (fx : T (fits binary64 x)) (fy : T (fits binary64 y)) (fz : T (fits binary64 z)) where
    header_is : header_of_3d blob ≡ Ok (record { at = 8; code = 1001; srid = srid })
    header_is = subst (λ (s : List ℕ). header_of_3d s ≡ Ok (record { at = 8; code = 1001; srid = srid })) (append-nil blob) (point_header_back srid x y z [] small)

    walk_is : walk_of all_levels blob 8 ≡ ok (point_geometry (coordinate_of (to_bits binary64 x) (to_bits binary64 y) (to_bits binary64 z))) point_bytes
    unfolding u64_at u32_at point_blob header_bytes coordinate_bytes ordinate_bytes bytes_of_u64 bytes_of_u32
    walk_is =
        walk_by_fields 32 blob _ _ _ (lit≤ tt) refl refl (eight_bytes_back (to_bits binary64 x) (to_bits-lt binary64 x fx)) (eight_bytes_back (to_bits binary64 y) (to_bits-lt binary64 y fy)) (eight_bytes_back (to_bits binary64 z) (to_bits-lt binary64 z fz))

    -- the 37 bytes alone
    pub point_reads_back : ReadsAsPoint (point_blob srid x y z) (coordinate_of (to_bits binary64 x) (to_bits binary64 y) (to_bits binary64 z))
    unfolding header_of_3d
    point_reads_back =
        let start = (accepted blob (record { at = 8; code = 1001; srid = srid }) (accepted_3d blob (record { at = 8; code = 1001; srid = srid }) header_is).0).start in
        record {
          header = (accepted_is (first_of (header_checks_3d blob)) (found_header blob) (record { at = 8; code = 1001; srid = srid }) header_is).0;
          walk = ap (walk_of all_levels blob) (sym start) ∙ walk_is;
          only_run = one_run _;
        }

    -- End theorem: the first 37 bytes of what is written, any bytes after them.
    pub taken_point_reads_back : (rest : List ℕ) → ReadsAsPoint (take point_bytes (point_blob srid x y z ++ rest)) (coordinate_of (to_bits binary64 x) (to_bits binary64 y) (to_bits binary64 z))
    taken_point_reads_back rest = rw (take_at blob rest point_bytes blob_length) point_reads_back

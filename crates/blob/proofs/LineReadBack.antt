-- A line that is written reads back, whatever stands after it: header and walk accept its 65 bytes and give one line run, of its two coordinates. Assumes nothing.
use mathlib.Core.Path.{◌≡◌, refl, sym, ap, subst, ◌∙◌}
use mathlib.Core.Bool.{true, false}
use mathlib.Core.List.{List, [], ◌∷◌, ◌++◌, append-nil}
use Prim.Native.Nat.{ℕ, suc, ◌^◌, ◌<◌, ◌≤◌}
use native.Mathlib.Omega.{arith}
use lib.Dec.{T}
use lib.ListN.{length, get_or, take}
use lib.Ieee.{Float, fits, binary64, to_bits}
use borrow.Author.Tests.{le-ltb}
use Rattle.std.specs.Prelude.{None, Ok}
use Rattle.refusals.specs.Checks.{first_of}
use Rattle.refusals.proofs.Checks.{accepted_is}
use Rattle.fields.specs.Fields.{u32_at, bytes_of_u32, bytes_of_u64}
use Rattle.gpb.specs.Header.{header_checks_3d, found_header, header_of_3d}
use Rattle.gpb.specs.Written.{line_bytes, header_bytes, ordinate_bytes, coordinate_bytes, line_blob}
use Rattle.gpb.proofs.HeaderLaws.{accepted_3d, accepted}
use Rattle.gpb.proofs.ReadBack.{LineFields, line_header_back, line_fields_back, line_length, line_taken}
use Rattle.coords.specs.Walk.{Coordinate, Geometry, geometry, line, ok, map_parsed, z_of, m_of, header_of_type, header_at, stride_of, ordinate_if, coordinate_at, coordinates_from, coordinates_at, line_at, geometry_class_of, content_of, geometry_from, walk_of, all_levels}
use Rattle.coords.specs.Parts.{run, non_empty_run, content_runs, runs_of}
use Rattle.blob.specs.Blob.{walk_of_blob}

-- x, y and z, and no m
abbrev pub coordinate_of : ℕ → ℕ → ℕ → Coordinate
coordinate_of x y z = record { x = x; y = y; z = z; m = 0 }

-- a line of two coordinates that have z and no m
abbrev pub line_geometry : Coordinate → Coordinate → Geometry
line_geometry c d = geometry 2 true false (line (c ∷ d ∷ []))

-- header and walk accept a blob, which ends at byte 65 and gives no run but one line run, of c and d
pub record ReadsAsLine (s : List ℕ) (c d : Coordinate) : Type 0 where
  pub header : first_of (header_checks_3d s) ≡ None
  pub walk : walk_of_blob s ≡ ok (line_geometry c d) line_bytes
  pub only_run : runs_of (line_geometry c d) ≡ run 2 (c ∷ d ∷ []) ∷ []

-- the walk at byte 8, by the bytes that it reads: little-endian, type 1002, count 2, six patterns
walk_by_fields : (levels : ℕ) (s : List ℕ) (ax ay az bx by bz : ℕ) → line_bytes ≤ length s → get_or s 8 0 ≡ 1 → u32_at true s 9 ≡ 1002 → LineFields s ax ay az bx by bz → walk_of (suc levels) s 8 ≡ ok (line_geometry (coordinate_of ax ay az) (coordinate_of bx by bz)) line_bytes
unfolding walk_of geometry_from header_at header_of_type z_of m_of geometry_class_of content_of map_parsed line_at coordinates_at coordinates_from coordinate_at stride_of ordinate_if
walk_by_fields levels s ax ay az bx by bz h order type f =
    simp (le-ltb (length s) 13 (omega arith), order, type, le-ltb (length s) 17 (omega arith), f.count, le-ltb (length s) line_bytes h, f.first_x, f.first_y, f.first_z, f.second_x, f.second_y, f.second_z)

one_run : (c d : Coordinate) → runs_of (line_geometry c d) ≡ run 2 (c ∷ d ∷ []) ∷ []
unfolding runs_of content_runs non_empty_run
one_run c d = refl

module _ (srid : ℕ) (ax ay az bx by bz : Float) where
  abbrev blob : List ℕ
  blob = line_blob srid ax ay az bx by bz

  order_byte : get_or blob 8 0 ≡ 1
  unfolding line_blob header_bytes coordinate_bytes ordinate_bytes bytes_of_u64 bytes_of_u32
  order_byte = refl

  type_bytes : u32_at true blob 9 ≡ 1002
  unfolding u32_at line_blob header_bytes coordinate_bytes ordinate_bytes bytes_of_u64 bytes_of_u32
  type_bytes = refl

  module _ (small : srid < 2 ^ 32) (fax : T (fits binary64 ax)) (fay : T (fits binary64 ay)) (faz : T (fits binary64 az)) (fbx : T (fits binary64 bx)) (fby : T (fits binary64 by)) (fbz : T (fits binary64 bz)) where
    header_is : header_of_3d blob ≡ Ok (record { at = 8; code = 1002; srid = srid })
    header_is = subst (λ (s : List ℕ). header_of_3d s ≡ Ok (record { at = 8; code = 1002; srid = srid })) (append-nil blob) (line_header_back srid ax ay az bx by bz [] small)

    fields_are : LineFields blob (to_bits binary64 ax) (to_bits binary64 ay) (to_bits binary64 az) (to_bits binary64 bx) (to_bits binary64 by) (to_bits binary64 bz)
    fields_are = rw append-nil at (line_fields_back srid ax ay az bx by bz [] fax fay faz fbx fby fbz)

    -- the 65 bytes alone
    pub line_reads_back : ReadsAsLine (line_blob srid ax ay az bx by bz) (coordinate_of (to_bits binary64 ax) (to_bits binary64 ay) (to_bits binary64 az)) (coordinate_of (to_bits binary64 bx) (to_bits binary64 by) (to_bits binary64 bz))
    unfolding header_of_3d
    line_reads_back =
        let start = (accepted blob (record { at = 8; code = 1002; srid = srid }) (accepted_3d blob (record { at = 8; code = 1002; srid = srid }) header_is).0).start in
        record {
          header = (accepted_is (first_of (header_checks_3d blob)) (found_header blob) (record { at = 8; code = 1002; srid = srid }) header_is).0;
          walk = ap (walk_of all_levels blob) (sym start) ∙ walk_by_fields 32 blob _ _ _ _ _ _ (omega (arith, line_length srid ax ay az bx by bz)) order_byte type_bytes fields_are;
          only_run = one_run _ _;
        }

    -- the first 65 bytes of what is written, any bytes after them
    pub taken_line_reads_back : (rest : List ℕ) → ReadsAsLine (take line_bytes (line_blob srid ax ay az bx by bz ++ rest)) (coordinate_of (to_bits binary64 ax) (to_bits binary64 ay) (to_bits binary64 az)) (coordinate_of (to_bits binary64 bx) (to_bits binary64 by) (to_bits binary64 bz))
    taken_line_reads_back rest = rw (line_taken srid ax ay az bx by bz rest) line_reads_back

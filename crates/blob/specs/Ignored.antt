-- What measuring ignores of a blob that can be walked (document 01: "Trailing bytes, envelope doubles and the empty flag change nothing but kind 17's patch").
-- Trailing are the bytes after the walk's end; patches are scanned by another layout, and end elsewhere. Definitions only.
use Rattle.std.specs.Prelude.{ℕ, ◌/◌, ◌%◌, ◌≡◌, true, List}
use Rattle.std.proofs.Math.Seq.{slice}
use Rattle.gpb.specs.Header.{is_gp, flags_of, geometry_start, top_type, srid_of, header_checks, header_checks_3d}
use Rattle.coords.specs.Walk.{Geometry, ok}
use Rattle.blob.specs.Blob.{walk_of_blob}

-- two GP headers are alike but for the empty flag, 10 hexadecimal of byte 3, and the envelope's doubles
pub record SameGpHeader (s t : List ℕ) : Type 0 where
  pub magic_and_version : slice 0 3 s ≡ slice 0 3 t
  pub flags_below_empty : flags_of s % 0x10 ≡ flags_of t % 0x10
  pub flags_above_empty : flags_of s / 0x20 ≡ flags_of t / 0x20
  pub srid_bytes : slice 4 8 s ≡ slice 4 8 t

-- a blob s whose geometry can be walked, and a blob t that differs from it at most in what is ignored: the same bytes from the geometry's start to its end
pub record SameButIgnored (s t : List ℕ) : Type 0 where
  pub tree : Geometry
  pub end : ℕ
  pub read : walk_of_blob s ≡ ok tree end
  pub both_or_neither : is_gp s ≡ is_gp t
  pub gp_header : is_gp s ≡ true → SameGpHeader s t
  pub same_geometry : slice (geometry_start s) end s ≡ slice (geometry_start s) end t

-- two blobs are read alike: all that reading and measuring take from a blob's bytes is the same; the walk's refusals are told by the walk
pub record ReadAlike (s t : List ℕ) : Type 0 where
  pub header : header_checks s ≡ header_checks t
  pub header_3d : header_checks_3d s ≡ header_checks_3d t
  pub start : geometry_start s ≡ geometry_start t
  pub type : top_type s ≡ top_type t
  pub srid : srid_of s ≡ srid_of t
  pub walk : walk_of_blob s ≡ walk_of_blob t

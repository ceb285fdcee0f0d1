-- End theorems: worked examples of patches, computed by the checker: two patches with a byte after them, damage in the second, and types with the SRID flag and no SRID. Assumes nothing.
use Rattle.refusals.specs.declared.Reason.TheVariants.{BytesMissing, ByteOrder}
use Rattle.refusals.specs.declared.Side.TheVariants.{First}
use mathlib.Core.Path.{◌≡◌, refl}
use mathlib.Core.List.{List, [], ◌∷◌, ◌++◌}
use Prim.Native.Nat.{ℕ}
use lib.ListN.{replicate, take, set}
use Rattle.refusals.specs.Checks.{first_of}
use Rattle.fields.specs.Fields.{u32_at}
use Rattle.gpb.specs.Header.{is_gp, doubles_of, geometry_start, top_type, ewkb_srid, srid_of, under_eight_bytes, version_not_zero, extended_bit, reserved_bits, indicator_above_four, ends_in_envelope, top_header_cut, byte_order_above_one, gp_checks, top_checks, header_checks, header_of}
use Rattle.coords.specs.Walk.{z_of, m_of, header_of_type, header_at, stride_of, coordinates_from, coordinates_at, line_at, times, list_at}
use Rattle.surface.specs.Patches.{range_from, patch_from, patch_at, patches_from, kind_by_number, kind_by_header, surface_kind, surface_by_kind, surface_of, part, nothing, no_surface, refusing, patch_in, patch_of_surface, patch_of}

-- kind 1016 after a GP header with no envelope, two patches: XYZ of kind 1017 with one ring of one coordinate, big-endian; XY of kind 99 with no ring, little-endian
unfoldable pub two_patches : List ℕ
two_patches =
    (0x47 ∷ 0x50 ∷ 0 ∷ 1 ∷ replicate 4 0) ++ (1 ∷ 0xf8 ∷ 3 ∷ 0 ∷ 0 ∷ 2 ∷ 0 ∷ 0 ∷ 0 ∷ [])
    ++ (0 ∷ 0 ∷ 0 ∷ 3 ∷ 0xf9 ∷ 0 ∷ 0 ∷ 0 ∷ 1 ∷ 0 ∷ 0 ∷ 0 ∷ 1 ∷ replicate 24 0) ++ (1 ∷ 99 ∷ replicate 7 0)

-- each patch ends where its layout ends; bytes after the last change nothing
pub patches_of_two : (patch_of (two_patches ++ (5 ∷ [])) 0 ≡ part 17 54) × (patch_of (two_patches ++ (5 ∷ [])) 1 ≡ part 54 63) × (patch_of (two_patches ++ (5 ∷ [])) 2 ≡ nothing)
unfolding two_patches first_of u32_at is_gp doubles_of geometry_start top_type ewkb_srid srid_of under_eight_bytes version_not_zero extended_bit reserved_bits indicator_above_four ends_in_envelope top_header_cut byte_order_above_one gp_checks top_checks header_checks header_of z_of m_of header_of_type header_at stride_of coordinates_from coordinates_at line_at times list_at range_from patch_from patch_at patches_from kind_by_number kind_by_header surface_kind surface_by_kind surface_of patch_in patch_of_surface patch_of
patches_of_two = (refl, refl, refl)

-- a byte of the second patch is missing: every n is refused
pub second_is_cut : (patch_of (take 62 two_patches) 0 ≡ refusing BytesMissing First) × (patch_of (take 62 two_patches) 7 ≡ refusing BytesMissing First)
unfolding two_patches first_of u32_at is_gp doubles_of geometry_start top_type ewkb_srid srid_of under_eight_bytes version_not_zero extended_bit reserved_bits indicator_above_four ends_in_envelope top_header_cut byte_order_above_one gp_checks top_checks header_checks header_of z_of m_of header_of_type header_at stride_of coordinates_from coordinates_at line_at times list_at range_from patch_from patch_at patches_from kind_by_number kind_by_header surface_kind surface_by_kind surface_of patch_in patch_of_surface patch_of
second_is_cut = (refl, refl)

-- the second patch's byte order is 2
pub second_in_no_order : patch_of (set two_patches 54 2) 0 ≡ refusing ByteOrder First
unfolding two_patches first_of u32_at is_gp doubles_of geometry_start top_type ewkb_srid srid_of under_eight_bytes version_not_zero extended_bit reserved_bits indicator_above_four ends_in_envelope top_header_cut byte_order_above_one gp_checks top_checks header_checks header_of z_of m_of header_of_type header_at stride_of coordinates_from coordinates_at line_at times list_at range_from patch_from patch_at patches_from kind_by_number kind_by_header surface_kind surface_by_kind surface_of patch_in patch_of_surface patch_of
second_in_no_order = refl

-- a type of one of these low bytes with the SRID flag, and one byte after it
unfoldable pub flagged : ℕ → List ℕ
flagged low = 1 ∷ low ∷ 0 ∷ 0 ∷ 0x20 ∷ 9 ∷ []

-- a triangle is read no further; a collection of patches is; a polygon is no surface
pub without_srid : (patch_of (flagged 17) 0 ≡ part 0 6) × (patch_of (flagged 17) 1 ≡ nothing) × (patch_of (flagged 15) 0 ≡ refusing BytesMissing First) × (patch_of (flagged 3) 0 ≡ no_surface)
unfolding two_patches first_of u32_at is_gp doubles_of geometry_start top_type ewkb_srid srid_of under_eight_bytes version_not_zero extended_bit reserved_bits indicator_above_four ends_in_envelope top_header_cut byte_order_above_one gp_checks top_checks header_checks header_of z_of m_of header_of_type header_at stride_of coordinates_from coordinates_at line_at times list_at range_from patch_from patch_at patches_from kind_by_number kind_by_header surface_kind surface_by_kind surface_of patch_in patch_of_surface patch_of flagged
without_srid = (refl, refl, refl, refl)

-- The patches of a surface (document 01, Patches; `surfaces` of the Rust): where each stands in the blob, and what is answered for patch n. Definitions only.
use Rattle.std.specs.Prelude.{ℕ, ◌-◌, ◌≡◌, List, [], ◌∷◌, cond, ◌||◌, length, take, drop, eqb, slice_get, Option, None, Some, Result, Ok, Err}
use Rattle.refusals.specs.Table.{sided}
use Rattle.refusals.specs.declared.Reason.{Reason}
use Rattle.refusals.specs.declared.Side.{Side}
use Rattle.refusals.specs.declared.Side.TheVariants.{First}
use Rattle.gpb.specs.Header.{header_of}
use Rattle.gpb.specs.declared.Header.{Header}
use Rattle.fields.specs.TypeCode.{kind_of}
use Rattle.coords.specs.Walk.{Parsed, ok, refused, ParsedHeader, header_at, list_at, rings_at}
use Rattle.surface.specs.declared.Part.{Part}
use Rattle.surface.specs.declared.PatchList.{PatchList}
use Rattle.surface.specs.declared.PatchError.{PatchError}
use Rattle.surface.specs.declared.PatchError.TheVariants as error
use Rattle.surface.specs.declared.Surface.{Surface}
use Rattle.surface.specs.declared.Surface.TheVariants as surface

-- ---- one patch

-- from a position to the end of what was read there
unfoldable pub range_from : {A : Type 0} → ℕ → Parsed A → Parsed Part
range_from at (ok a end) = ok (record { start = at; end = end }) end
range_from at (refused k) = refused k

-- a patch by its own header: its rings, as a polygon's, whatever its kind
unfoldable pub patch_from : List ℕ → ℕ → ParsedHeader → Parsed Part
patch_from s at (Ok h) = range_from at (rings_at h s h.body)
patch_from s at (Err k) = refused k

-- the patch at a position
unfoldable pub patch_at : List ℕ → ℕ → Parsed Part
patch_at s at = patch_from s at (header_at s at)

-- ---- all patches

-- a count after the surface's header, and as many patches: every one is scanned, the first refusal counts
unfoldable pub patches_from : List ℕ → ParsedHeader → Parsed (List Part)
patches_from s (Ok h) = list_at ◌∷◌ [] (patch_at s) h.little s h.body
patches_from s (Err k) = refused k

-- kinds 15 and 16 are collections of patches, 17 is a triangle; no other kind is a surface
unfoldable pub kind_by_number : ℕ → ℕ → Option Surface
kind_by_number k at = cond (eqb k 15 || eqb k 16) (Some (surface.Collection at)) (cond (eqb k 17) (Some (surface.Triangle at)) None)

-- no surface for any fault of the GP header or the top header too
unfoldable pub kind_by_header : Result Header Reason → Option Surface
kind_by_header (Ok h) = kind_by_number (kind_of h.code) h.at
kind_by_header (Err k) = None

-- the kind of a blob's surface, and where its geometry starts
unfoldable pub surface_kind : List ℕ → Option Surface
surface_kind s = kind_by_header (header_of s)

-- the patches in order, or a refusal; none where there is no surface. Of a triangle the whole geometry to the blob's end, read no further
unfoldable pub surface_by_kind : List ℕ → Option Surface → Option (Parsed (List Part))
surface_by_kind s (Some (surface.Collection at)) = Some (patches_from s (header_at s at))
surface_by_kind s (Some (surface.Triangle at)) = Some (ok (record { start = at; end = length s } ∷ []) (length s))
surface_by_kind s None = None

-- the same of a blob
unfoldable pub surface_of : List ℕ → Option (Parsed (List Part))
surface_of s = surface_by_kind s (surface_kind s)

-- ---- what is answered for patch n (document 01, "What the operations say")

-- the part of the blob from a start up to an end; none; no surface; or a refusal and its side
abbrev pub Patch : Type 0
Patch = Result (Option Part) PatchError

abbrev pub part : ℕ → ℕ → Patch
part start end = Ok (Some (record { start = start; end = end }))

abbrev pub nothing : Patch
nothing = Ok None

abbrev pub no_surface : Patch
no_surface = Err error.NoSurface

abbrev pub refusing : Reason → Side → Patch
refusing reason side = Err (error.Refused (sided side reason))

-- refusals are side 1's
abbrev pub refusal_of : Reason → PatchError
refusal_of reason = error.Refused (sided First reason)

-- patch n, 0-based, of patches that were scanned
unfoldable pub patch_in : ℕ → Parsed (List Part) → Patch
patch_in n (ok ranges end) = Ok (slice_get ranges n)
patch_in n (refused k) = Err (refusal_of k)

-- no surface where there is none
unfoldable pub patch_of_surface : ℕ → Option (Parsed (List Part)) → Patch
patch_of_surface n (Some scanned) = patch_in n scanned
patch_of_surface n None = no_surface

-- patch n of a blob
unfoldable pub patch_of : List ℕ → ℕ → Patch
patch_of s n = patch_of_surface n (surface_of s)

-- the bytes of a blob from a start up to an end
abbrev pub bytes_between : List ℕ → ℕ → ℕ → List ℕ
bytes_between s start end = take (end - start) (drop start s)

-- the bytes of a part; of any other answer none
unfoldable pub bytes_of : List ℕ → Patch → List ℕ
bytes_of s (Ok (Some p)) = bytes_between s p.start p.end
bytes_of s (Ok None) = []
bytes_of s (Err e) = []

-- ---- patches one after the other

-- where the first starts: at the end of an empty list
unfoldable pub first_start : List Part → ℕ → ℕ
first_start [] end = end
first_start (r ∷ rs) end = r.start

-- where the first patch starts and how many there are
abbrev pub listed : ℕ → ℕ → Result PatchList PatchError
listed first count = Ok (record { first = first; count = count })

-- the same of patches that were scanned, or a refusal
unfoldable pub list_in : Parsed (List Part) → Result PatchList PatchError
list_in (ok ranges end) = listed (first_start ranges end) (length ranges)
list_in (refused k) = Err (refusal_of k)

-- no surface where there is none
unfoldable pub list_of_surface : Option (Parsed (List Part)) → Result PatchList PatchError
list_of_surface (Some scanned) = list_in scanned
list_of_surface None = Err error.NoSurface

-- the patches of a blob
unfoldable pub list_of : List ℕ → Result PatchList PatchError
list_of s = list_of_surface (surface_of s)

-- one patch that was scanned
unfoldable pub patch_scanned : Parsed Part → Patch
patch_scanned (ok r end) = part r.start r.end
patch_scanned (refused k) = Err (refusal_of k)

-- the patch at a position of a surface; of a triangle its only one
unfoldable pub next_by_kind : List ℕ → ℕ → Option Surface → Patch
next_by_kind s at (Some (surface.Collection start)) = patch_scanned (patch_at s at)
next_by_kind s at (Some (surface.Triangle start)) = part start (length s)
next_by_kind s at None = no_surface

-- the next patch from a position on, with so many left: none where none is left
unfoldable pub next_of : List ℕ → ℕ → ℕ → Patch
next_of s at left = cond (eqb left 0) nothing (next_by_kind s at (surface_kind s))

-- a position, with so many patches left from it on, stands before patch n of a surface whose patches were all scanned: patch n starts there; past the last, the patches end there
pub record Before (s : List ℕ) (at left n : ℕ) : Type 0 where
  pub ranges : List Part
  pub end : ℕ
  pub scanned : surface_of s ≡ Some (ok ranges end)
  pub starts : at ≡ first_start (drop n ranges) end
  pub counted : left ≡ length (drop n ranges)

-- A patch is refused with 9 or 10 alone, as side 1. Assumes nothing.
use Rattle.std.specs.Prelude.{Option, None, Some, Ok, Err}
use Rattle.refusals.specs.declared.Reason.{Reason}
use Rattle.refusals.specs.declared.Reason.TheVariants.{BytesMissing, ByteOrder}
use Rattle.surface.specs.declared.Part.{Part}
use Rattle.surface.specs.declared.Surface.{Surface}
use Rattle.surface.specs.declared.Surface.TheVariants as surface
use Rattle.refusals.specs.Table.{number_of}
use Rattle.refusals.specs.declared.Side.{Side}
use Rattle.refusals.specs.declared.Side.TheVariants.{First}
use Rattle.surface.specs.declared.PatchError.TheVariants as error
use mathlib.Core.Path.{◌≡◌, refl, subst}
use mathlib.Core.List.{List, [], ◌∷◌}
use Prim.Native.Nat.{ℕ, ◌≤◌}
use native.Mathlib.Omega.{arith}
use Rattle.coords.specs.Walk.{Parsed, ok, refused, ParsedHeader, header_at, line_at, rings_at}
use Rattle.coords.proofs.Refusals.{Numbered, HeaderNumbered, numbered_line, numbered_list, numbered_header}
use Rattle.surface.specs.Patches.{range_from, patch_from, patch_at, patches_from, surface_kind, surface_by_kind, surface_of, Patch, refusing, patch_in, patch_of_surface, patch_of}

-- 9 or 10
abbrev pub PatchNumber : Reason → Type 0
PatchNumber k = (9 ≤ number_of k) × (number_of k ≤ 10)

nine : PatchNumber BytesMissing
nine = (omega arith, omega arith)

ten : PatchNumber ByteOrder
ten = (omega arith, omega arith)

numbered_rings : {A : Type 0} (at : ℕ) (w : Parsed A) → Numbered PatchNumber w → Numbered PatchNumber (range_from at w)
unfolding range_from Numbered
numbered_rings at (ok a end) h = tt
numbered_rings at (refused k) h = h

numbered_patch : (s : List ℕ) (at : ℕ) → Numbered PatchNumber (patch_at s at)
unfolding patch_at patch_from Numbered HeaderNumbered
numbered_patch s at = go (header_at s at) (numbered_header PatchNumber nine ten s at)
  where
    go : (h : ParsedHeader) → HeaderNumbered PatchNumber h → Numbered PatchNumber (patch_from s at h)
    go (Ok h) i = numbered_rings at (rings_at h s h.body) (numbered_list PatchNumber nine ◌∷◌ [] (line_at h s) (numbered_line PatchNumber nine h s) h.little s h.body)
    go (Err k) i = i

numbered_patches : (s : List ℕ) (at : ℕ) → Numbered PatchNumber (patches_from s (header_at s at))
unfolding patches_from Numbered HeaderNumbered
numbered_patches s at = go (header_at s at) (numbered_header PatchNumber nine ten s at)
  where
    go : (h : ParsedHeader) → HeaderNumbered PatchNumber h → Numbered PatchNumber (patches_from s h)
    go (Ok h) i = numbered_list PatchNumber nine ◌∷◌ [] (patch_at s) (numbered_patch s) h.little s h.body
    go (Err k) i = i

NumberedAnswer : Patch → Type 0
NumberedAnswer (Ok p) = Unit
NumberedAnswer (Err error.NoSurface) = Unit
NumberedAnswer (Err (error.Refused r)) = PatchNumber r.reason × (r.side ≡ First)

numbered_nth : (n : ℕ) (w : Parsed (List Part)) → Numbered PatchNumber w → NumberedAnswer (patch_in n w)
unfolding patch_in Numbered NumberedAnswer
numbered_nth n (refused k) i = (i, refl)
numbered_nth n (ok rs end) i = tt

numbered_answer : (s : List ℕ) (n : ℕ) → NumberedAnswer (patch_of s n)
unfolding patch_of surface_of surface_by_kind patch_of_surface Numbered NumberedAnswer
numbered_answer s n = go (surface_kind s)
  where
    go : (k : Option Surface) → NumberedAnswer (patch_of_surface n (surface_by_kind s k))
    go (Some (surface.Collection at)) = numbered_nth n (patches_from s (header_at s at)) (numbered_patches s at)
    go (Some (surface.Triangle at)) = numbered_nth n (ok _ _) tt
    go None = tt

-- End theorem: a patch is refused with no other number, and never as side 2
pub patch_refusals : (s : List ℕ) (n : ℕ) (k : Reason) (side : Side) → patch_of s n ≡ refusing k side → PatchNumber k × (side ≡ First)
unfolding NumberedAnswer
patch_refusals s n k side e = subst NumberedAnswer e (numbered_answer s n)

-- A part lies in its blob: its start is at most its end, and its end at most the blob's length. Assumes nothing.
use Rattle.std.specs.Prelude.{Option, None, Some, Result, Ok, Err, slice_get}
use Rattle.refusals.specs.declared.Reason.{Reason}
use Rattle.refusals.specs.declared.Reason.TheVariants.{BytesMissing}
use Rattle.surface.specs.declared.Part.{Part}
use Rattle.surface.specs.declared.Surface.{Surface}
use Rattle.surface.specs.declared.Surface.TheVariants as surface
use mathlib.Core.Path.{◌≡◌, refl, subst}
use mathlib.Core.Bool.{Bool, true, false, cond, ◌||◌}
use mathlib.Core.List.{List, [], ◌∷◌}
use Prim.Native.Nat.{ℕ, zero, suc, ◌+◌, ◌≤◌}
use native.Mathlib.Omega.{arith}
use lib.ListN.{length}
use lib.Dec.{ltb, eqb}
use Rattle.fields.specs.Fields.{u32_at}
use Rattle.gpb.specs.Header.{header_of}
use Rattle.gpb.specs.declared.Header.{Header}
use Rattle.gpb.proofs.HeaderLaws.{accepted}
use Rattle.fields.specs.TypeCode.{kind_of}
use Rattle.coords.specs.Walk.{Parsed, ok, refused, cons_parsed, and_then, times, list_at, ParsedHeader, header_at, line_at, rings_at}
use Rattle.coords.proofs.Each.{Each}
use Rattle.coords.proofs.Ends.{AfterFive, header_after, Within, line_within, list_within}
use Rattle.surface.specs.Patches.{range_from, patch_from, patch_at, patches_from, kind_by_number, kind_by_header, surface_kind, surface_by_kind, surface_of, Patch, part, nothing, patch_in, patch_of_surface, patch_of, patch_scanned, next_by_kind, next_of}

module _ (s : List ℕ) where
  abbrev pub InBlob : ℕ → ℕ → Type 0
  InBlob start end = (start ≤ end) × (end ≤ length s)

  -- of a patch that was scanned
  Scanned : Parsed Part → Type 0
  Scanned (ok r end) = InBlob r.start r.end
  Scanned (refused k) = Unit

  rings_inside : {A : Type 0} (at body : ℕ) → at + 5 ≤ body → (w : Parsed A) → Within s body w → Scanned (range_from at w)
  unfolding range_from Scanned Within
  rings_inside at body h (ok a end) i = (omega (arith, i.0), i.1)
  rings_inside at body h (refused k) i = tt

  patch_inside : (at : ℕ) → Scanned (patch_at s at)
  unfolding patch_at patch_from Scanned AfterFive
  patch_inside at = go (header_at s at) (header_after s at)
    where
      go : (h : ParsedHeader) → AfterFive at h → Scanned (patch_from s at h)
      go (Ok h) i = rings_inside at h.body i (rings_at h s h.body) (list_within s ◌∷◌ [] (line_at h s) (line_within s h) h.little h.body)
      go (Err k) i = tt

  -- of all patches of a list
  AllScanned : Parsed (List Part) → Type 0
  AllScanned (ok rs end) = Each (λ r. InBlob r.start r.end) rs
  AllScanned (refused k) = Unit

  times_inside : (n at : ℕ) → AllScanned (times ◌∷◌ [] (patch_at s) n at)
  unfolding times AllScanned Scanned
  times_inside zero at = tt
  times_inside (suc n) at = go (times_inside n) (patch_at s at) (patch_inside at)
    where
      join : (r : Part) → InBlob r.start r.end → (w : Parsed (List Part)) → AllScanned w → AllScanned (cons_parsed ◌∷◌ r w)
      join r i (ok rs end) j = (i, j)
      join r i (refused k) j = tt

      go : ((next : ℕ) → AllScanned (times ◌∷◌ [] (patch_at s) n next)) → (w : Parsed Part) → Scanned w → AllScanned (and_then ◌∷◌ w (times ◌∷◌ [] (patch_at s) n))
      go rest (ok r next) i = join r i (times ◌∷◌ [] (patch_at s) n next) (rest next)
      go rest (refused k) i = tt

  collection_inside : (h : ParsedHeader) → AllScanned (patches_from s h)
  unfolding patches_from list_at AllScanned
  collection_inside (Err k) = tt
  collection_inside (Ok h) = go (ltb (length s) (h.body + 4))
    where
      go : (b : Bool) → AllScanned (cond b (refused BytesMissing) (times ◌∷◌ [] (patch_at s) (u32_at h.little s h.body) (h.body + 4)))
      go true = tt
      go false = times_inside (u32_at h.little s h.body) (h.body + 4)

  -- a surface's geometry starts in the blob
  Starts : Option Surface → Type 0
  Starts (Some (surface.Collection at)) = at ≤ length s
  Starts (Some (surface.Triangle at)) = at ≤ length s
  Starts None = Unit

  kind_starts : Starts (surface_kind s)
  unfolding surface_kind kind_by_header kind_by_number Starts
  kind_starts = go (header_of s) refl
    where
      by_type : (b c : Bool) (at : ℕ) → at ≤ length s → Starts (cond b (Some (surface.Collection at)) (cond c (Some (surface.Triangle at)) None))
      by_type true c at h = h
      by_type false true at h = h
      by_type false false at h = tt

      go : (h : Result Header Reason) → header_of s ≡ h → Starts (kind_by_header h)
      go (Err k) e = tt
      go (Ok h) e = by_type (eqb (kind_of h.code) 15 || eqb (kind_of h.code) 16) (eqb (kind_of h.code) 17) h.at (omega (arith, (accepted s h e).within))

  -- of an answer
  Answered : Patch → Type 0
  Answered (Ok (Some p)) = InBlob p.start p.end
  Answered (Ok None) = Unit
  Answered (Err e) = Unit

  nth : (rs : List Part) (n : ℕ) → Each (λ r. InBlob r.start r.end) rs → Answered (Ok (slice_get rs n))
  unfolding Answered
  nth [] n i = tt
  nth (r ∷ rs) zero i = i.0
  nth (r ∷ rs) (suc n) i = nth rs n i.1

  nth_inside : (n : ℕ) (w : Parsed (List Part)) → AllScanned w → Answered (patch_in n w)
  unfolding patch_in AllScanned Answered
  nth_inside n (refused k) i = tt
  nth_inside n (ok rs end) i = nth rs n i

  patch_answered : (n : ℕ) → Answered (patch_of s n)
  unfolding patch_of surface_of surface_by_kind patch_of_surface AllScanned Starts Answered
  patch_answered n = go (surface_kind s) kind_starts
    where
      go : (k : Option Surface) → Starts k → Answered (patch_of_surface n (surface_by_kind s k))
      go (Some (surface.Collection at)) h = nth_inside n (patches_from s (header_at s at)) (collection_inside (header_at s at))
      go (Some (surface.Triangle at)) h = nth_inside n (ok (record { start = at; end = length s } ∷ []) (length s)) ((h, omega arith), tt)
      go None h = tt

  -- End theorem: a patch lies in its blob
  pub patch_in_blob : (n start end : ℕ) → patch_of s n ≡ part start end → InBlob start end
  unfolding Answered
  patch_in_blob n start end e = subst Answered e (patch_answered n)

  next_answered : (at left : ℕ) → Answered (next_of s at left)
  unfolding next_of next_by_kind patch_scanned Scanned Starts Answered
  next_answered at left = go (eqb left 0) (surface_kind s) kind_starts
    where
      scan : (w : Parsed Part) → Scanned w → Answered (patch_scanned w)
      scan (ok r end) i = i
      scan (refused k) i = tt

      go : (b : Bool) (k : Option Surface) → Starts k → Answered (cond b nothing (next_by_kind s at k))
      go true k h = tt
      go false (Some (surface.Collection start)) h = scan (patch_at s at) (patch_inside at)
      go false (Some (surface.Triangle start)) h = (h, omega arith)
      go false None h = tt

  -- so does the next patch from any position on
  pub next_in_blob : (at left start end : ℕ) → next_of s at left ≡ part start end → InBlob start end
  unfolding Answered
  next_in_blob at left start end e = subst Answered e (next_answered at left)

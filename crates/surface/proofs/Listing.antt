-- Patches one after the other: a list starts before patch 0; where a position stands before patch n, the next patch from there on is patch n, and its end stands before the one after it. Assumes nothing.
use Rattle.std.specs.Prelude.{Option, None, Some, Ok, Err, slice_get}
use Rattle.refusals.specs.declared.Reason.TheVariants.{BytesMissing}
use Rattle.surface.specs.declared.Part.{Part}
use Rattle.surface.specs.declared.PatchList.{PatchList}
use Rattle.surface.specs.declared.Surface.{Surface}
use Rattle.surface.specs.declared.Surface.TheVariants as surface
use mathlib.Core.Path.{◌≡◌, refl, sym, ap, ◌∙◌, subst}
use mathlib.Core.Bool.{Bool, true, false, cond}
use mathlib.Core.List.{List, [], ◌∷◌}
use Prim.Native.Nat.{ℕ, zero, suc, ◌+◌, ◌-◌}
use native.Mathlib.Numerals.{add-one, sub-one}
use native.Mathlib.Omega.{arith}
use lib.ListN.{length, drop}
use lib.Dec.{ltb}
use borrow.Author.Tests.{ne_eqb}
use Rattle.fields.specs.Fields.{u32_at}
use Rattle.coords.specs.Walk.{Parsed, ok, refused, cons_parsed, and_then, times, list_at, ParsedHeader, header_at}
use Rattle.surface.specs.Patches.{patch_at, patches_from, surface_kind, surface_by_kind, surface_of, part, patch_in, patch_of_surface, patch_of, first_start, listed, list_in, list_of_surface, list_of, patch_scanned, next_by_kind, next_of, Before}
use Rattle.surface.specs.Inner.{scan_end}
use Rattle.surface.proofs.InRow.{patch_ends, patch_starts}

module _ (s : List ℕ) where
  -- patches in a row: each starts where the one before it ends, and is the next from there on
  Row : List Part → ℕ → ℕ → Type 0
  Row [] at end = at ≡ end
  Row (r ∷ rs) at end = (r.start ≡ at) × ((left : ℕ) → next_of s at (suc left) ≡ part r.start r.end) × Row rs r.end end

  -- of patches that were scanned
  Rowed : ℕ → Parsed (List Part) → Type 0
  Rowed at (ok rs end) = Row rs at end
  Rowed at (refused k) = Unit

  FromFirst : Parsed (List Part) → Type 0
  FromFirst (ok rs end) = Row rs (first_start rs end) end
  FromFirst (refused k) = Unit

  row_first : (rs : List Part) (at end : ℕ) → Row rs at end → first_start rs end ≡ at
  unfolding Row first_start
  row_first [] at end h = sym h
  row_first (r ∷ rs) at end h = h.0

  from_first : (at : ℕ) (w : Parsed (List Part)) → Rowed at w → FromFirst w
  unfolding Rowed FromFirst
  from_first at (ok rs end) h = rw (row_first rs at end h) h
  from_first at (refused k) h = tt

  module _ (start : ℕ) (is : surface_kind s ≡ Some (surface.Collection start)) where
    next_scanned : (at left : ℕ) → next_of s at (suc left) ≡ patch_scanned (patch_at s at)
    unfolding next_of next_by_kind
    next_scanned at left = simp (ne_eqb (suc left) 0 (λ z. omega (arith, z)), is)

    times_rowed : (n at : ℕ) → Rowed at (times ◌∷◌ [] (patch_at s) n at)
    unfolding times Row Rowed patch_scanned scan_end
    times_rowed zero at = refl
    times_rowed (suc n) at = go (times_rowed n) (patch_at s at) refl
      where
        join : (r : Part) → (r.start ≡ at) → ((left : ℕ) → next_of s at (suc left) ≡ part r.start r.end) → (w : Parsed (List Part)) → Rowed r.end w → Rowed at (cons_parsed ◌∷◌ r w)
        join r e f (ok rs end) j = (e, f, j)
        join r e f (refused k) j = tt

        go : ((next : ℕ) → Rowed next (times ◌∷◌ [] (patch_at s) n next)) → (w : Parsed Part) → patch_at s at ≡ w → Rowed at (and_then ◌∷◌ w (times ◌∷◌ [] (patch_at s) n))
        go rest (refused k) e = tt
        go rest (ok r next) e =
            let same : r.end ≡ next = cc (patch_ends s at next (ap scan_end e)) in
            join r (patch_starts s at r next e) (λ left. next_scanned at left ∙ ap patch_scanned e) (times ◌∷◌ [] (patch_at s) n next) (rw same (rest next))

    collection_rowed : (h : ParsedHeader) → FromFirst (patches_from s h)
    unfolding patches_from list_at FromFirst
    collection_rowed (Err k) = tt
    collection_rowed (Ok h) = go (ltb (length s) (h.body + 4))
      where
        go : (b : Bool) → FromFirst (cond b (refused BytesMissing) (times ◌∷◌ [] (patch_at s) (u32_at h.little s h.body) (h.body + 4)))
        go true = tt
        go false = from_first (h.body + 4) _ (times_rowed (u32_at h.little s h.body) (h.body + 4))

  surface_rowed : (rs : List Part) (end : ℕ) → surface_of s ≡ Some (ok rs end) → Row rs (first_start rs end) end
  unfolding surface_of surface_by_kind next_of next_by_kind Row FromFirst first_start
  surface_rowed rs end e = go (surface_kind s) refl e
    where
      go : (k : Option Surface) → surface_kind s ≡ k → surface_by_kind s k ≡ Some (ok rs end) → Row rs (first_start rs end) end
      go (Some (surface.Collection start)) is p =
          let same : patches_from s (header_at s start) ≡ ok rs end = cc in
          subst FromFirst same (collection_rowed start is (header_at s start))
      go (Some (surface.Triangle start)) is p =
          let one : record { start = start; end = length s } ∷ [] ≡ rs = cc in
          let last : length s ≡ end = cc in
          rw (← one, ← last) (refl, (λ left. simp (ne_eqb (suc left) 0 (λ z. omega (arith, z)), is)), refl)
      go None is p = cc

  row_drop : (n : ℕ) (rs : List Part) (at end : ℕ) → Row rs at end → Row (drop n rs) (first_start (drop n rs) end) end
  unfolding Row first_start
  row_drop zero rs at end h = rw (row_first rs at end h) h
  row_drop (suc n) [] at end h = refl
  row_drop (suc n) (r ∷ rs) at end h = row_drop n rs r.end end h.2

  -- the next from where patch n starts is patch n
  nth_next : (rs : List Part) (n at left end : ℕ) → Row (drop n rs) at end → left ≡ length (drop n rs) → next_of s at left ≡ Ok (slice_get rs n)
  unfolding Row next_of
  nth_next [] zero at left end h e = rw e refl
  nth_next [] (suc n) at left end h e = rw e refl
  nth_next (r ∷ rs) zero at left end h e = rw e (h.1 (length rs))
  nth_next (r ∷ rs) (suc n) at left end h e = nth_next rs n at left end h e

  -- where patch n ends the one after it starts, and one less is left
  nth_after : (rs : List Part) (n at end start e : ℕ) → Row (drop n rs) at end → Ok (slice_get rs n) ≡ part start e → (e ≡ first_start (drop (suc n) rs) end) × (length (drop n rs) - 1 ≡ length (drop (suc n) rs))
  unfolding Row
  nth_after [] zero at end start e h p = cc
  nth_after [] (suc n) at end start e h p = cc
  nth_after (r ∷ rs) zero at end start e h p = let ends : r.end ≡ e = cc in (cc (row_first rs r.end end h.2), sub-one (suc (length rs)))
  nth_after (r ∷ rs) (suc n) at end start e h p = nth_after rs n at end start e h p

  -- a list stands before patch 0
  pub stands_first : (first count : ℕ) → list_of s ≡ listed first count → Before s first count 0
  unfolding list_of list_of_surface list_in
  stands_first first count = go (surface_of s) refl
    where
      go : (o : Option (Parsed (List Part))) → surface_of s ≡ o → list_of_surface o ≡ listed first count → Before s first count 0
      go None e l = cc
      go (Some (refused k)) e l = cc
      go (Some (ok rs end)) e l =
          let same : record { first = first_start rs end; count = length rs } ≡ record { first = first; count = count } = cc in
          record { ranges = rs; end = end; scanned = e; starts = sym (ap (λ (x : PatchList). x.first) same); counted = sym (ap (λ (x : PatchList). x.count) same) }

  -- the next patch from a position before patch n on is patch n
  pub next_is_patch : (at left n : ℕ) → Before s at left n → next_of s at left ≡ patch_of s n
  unfolding patch_of patch_of_surface patch_in
  next_is_patch at left n b =
      let row : Row (drop n b.ranges) (first_start (drop n b.ranges) b.end) b.end = row_drop n b.ranges _ b.end (surface_rowed b.ranges b.end b.scanned) in
      rw b.scanned (nth_next b.ranges n at left b.end (rw b.starts row) b.counted)

  -- the end of patch n stands before the patch after it
  pub stands_after : (at left n start end : ℕ) → Before s at left n → patch_of s n ≡ part start end → Before s end (left - 1) (n + 1)
  unfolding patch_of patch_of_surface patch_in
  stands_after at left n start end b p =
      let row : Row (drop n b.ranges) (first_start (drop n b.ranges) b.end) b.end = row_drop n b.ranges _ b.end (surface_rowed b.ranges b.end b.scanned) in
      let next : (end ≡ first_start (drop (suc n) b.ranges) b.end) × (length (drop n b.ranges) - 1 ≡ length (drop (suc n) b.ranges)) = nth_after b.ranges n _ b.end start end row (rw b.scanned at p) in
      record { ranges = b.ranges; end = b.end; scanned = b.scanned; starts = rw add-one next.0; counted = rw (add-one, b.counted) next.1 }

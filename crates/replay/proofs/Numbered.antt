-- The patch of a number, where the patches are not listed, and where a cursor stands before an earlier one.
use Rattle.std.proofs.Common.{◌≡◌, ℕ, ◌<◌, ◌≤◌, List, length, refl, inl, inr, arith}
use Rattle.std.specs.Prelude.{Option, None, Some, Ok, Err, slice_get}
use Rattle.std.proofs.lemmas.Option.{slice_get_past, slice_get_cases}
use Rattle.coords.specs.Walk.{Parsed, ok, refused}
use Rattle.surface.specs.declared.Part.{Part}
use Rattle.surface.specs.declared.PatchError.{PatchError}
use Rattle.surface.proofs.Bounds.{patch_in_blob}
use Rattle.surface.specs.Patches.{patch_in, patch_of_surface, patch_of, list_in, list_of_surface, list_of, surface_of, Before}

unlisted_by : (w : Option (Parsed (List Part))) (n : ℕ) (e : PatchError) → list_of_surface w ≡ Err e → patch_of_surface n w ≡ Err e
unfolding list_of_surface list_in patch_of_surface patch_in
unlisted_by None n e h = cc
unlisted_by (Some (refused k)) n e h = cc
unlisted_by (Some (ok ranges end)) n e h = cc

-- where the patches are refused, so is each of them
pub unlisted : (s : List ℕ) (n : ℕ) (e : PatchError) → list_of s ≡ Err e → patch_of s n ≡ Err e
unfolding list_of patch_of
unlisted s n e h = unlisted_by (surface_of s) n e h

module _ (s : List ℕ) (at left k : ℕ) (stands : Before s at left k) where
  -- a cursor stands in patches that were all scanned
  patch_told : (n : ℕ) → patch_of s n ≡ Ok (slice_get stands.ranges n)
  unfolding patch_of patch_of_surface patch_in
  patch_told n = rw stands.scanned refl

  pub never_refused : (e : PatchError) → patch_of s k ≡ Err e → ⊥
  never_refused e h = let t = patch_told k in cc

  past_none : (xs : List Part) (n : ℕ) → slice_get xs k ≡ None → k < n → slice_get xs n ≡ None
  past_none xs n h below = elim (slice_get_cases xs k).1 [
    | inl c ↦ let f = c.2 in cc
    | inr c ↦ slice_get_past xs n (omega arith)
  ]

  -- after nothing there is nothing
  pub nothing_after : (n : ℕ) → patch_of s k ≡ Ok None → k < n → patch_of s n ≡ Ok None
  nothing_after n h below = rw (patch_told n, past_none stands.ranges n (let t = patch_told k in cc) below) refl

-- a patch lies in its blob
pub start_in_blob : (s : List ℕ) (n : ℕ) (p : Part) → patch_of s n ≡ Ok (Some p) → p.start ≤ p.end
start_in_blob s n p h = (patch_in_blob s n p.start p.end h).0

pub end_in_blob : (s : List ℕ) (n : ℕ) (p : Part) → patch_of s n ≡ Ok (Some p) → p.end ≤ length s
end_in_blob s n p h = (patch_in_blob s n p.start p.end h).1

-- so that its bytes can be taken
pub ruleset in_blob = (start_in_blob, end_in_blob)

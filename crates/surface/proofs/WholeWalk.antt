-- End theorems: the walk as a whole: from a list's start on, each step from the end of the patch before it, the next patch is patch 0, 1, 2 and so on, and None after the last. Assumes nothing.
use Rattle.std.specs.Prelude.{None, Some, Ok, Err, slice_get}
use Rattle.surface.specs.declared.Part.{Part}
use mathlib.Core.Path.{◌≡◌, refl}
use mathlib.Core.List.{List, [], ◌∷◌}
use Prim.Native.Nat.{ℕ, zero, suc, ◌+◌, ◌-◌, ◌<◌, ◌≤◌}
use native.Mathlib.Nat.{sub-zero}
use native.Mathlib.Numerals.{add-one}
use native.Mathlib.Omega.{arith}
use lib.ListN.{length, drop}
use Rattle.surface.specs.Patches.{Patch, part, listed, patch_in, patch_of_surface, patch_of, list_of, next_of, Before}
use Rattle.surface.proofs.Listing.{stands_first, next_is_patch, stands_after}

-- where a part starts, and where it ends
unfoldable pub part_start : Patch → ℕ
part_start (Ok (Some p)) = p.start
part_start (Ok None) = 0
part_start (Err e) = 0

unfoldable pub part_end : Patch → ℕ
part_end (Ok (Some p)) = p.end
part_end (Ok None) = 0
part_end (Err e) = 0

-- where a walk over so many patches stands after n of them
unfoldable pub walked_to : List ℕ → ℕ → ℕ → ℕ → ℕ
walked_to s first count zero = first
walked_to s first count (suc n) = part_end (next_of s (walked_to s first count n) (count - n))

there : (rs : List Part) (n : ℕ) → 0 < length (drop n rs) → Ok (slice_get rs n) ≡ part (part_start (Ok (slice_get rs n))) (part_end (Ok (slice_get rs n)))
unfolding part_start part_end
there [] zero h = absurd (omega arith)
there [] (suc n) h = absurd (omega arith)
there (r ∷ rs) zero h = refl
there (r ∷ rs) (suc n) h = there rs n h

module _ (s : List ℕ) where
  -- where patches are left, there is a next one
  pub left_is_part : (at left n : ℕ) → Before s at left n → 0 < left → patch_of s n ≡ part (part_start (patch_of s n)) (part_end (patch_of s n))
  unfolding patch_of patch_of_surface patch_in
  left_is_part at left n b h = rw b.scanned (there b.ranges n (omega (arith, b.counted)))

  -- one step of a walk over so many patches
  one_step : (count at n : ℕ) → Before s at (count - n) n → n < count → Before s (part_end (next_of s at (count - n))) (count - suc n) (suc n)
  one_step count at n b h =
      let less : count - suc n ≡ count - n - 1 = omega arith in
      let after : Before s (part_end (patch_of s n)) (count - n - 1) (n + 1) = stands_after s at (count - n) n _ _ b (left_is_part at (count - n) n b (omega arith)) in
      rw (next_is_patch s at (count - n) n b, less) (rw add-one at after)

  module _ (first count : ℕ) (listed : list_of s ≡ listed first count) where
    pub walk_stands : (n : ℕ) → n ≤ count → Before s (walked_to s first count n) (count - n) n
    unfolding walked_to
    walk_stands zero h = rw sub-zero (stands_first s first count listed)
    walk_stands (suc n) h = one_step count (walked_to s first count n) n (walk_stands n (omega arith)) (omega arith)

    pub walk_lists_patches : (n : ℕ) → n ≤ count → next_of s (walked_to s first count n) (count - n) ≡ patch_of s n
    walk_lists_patches n h = next_is_patch s (walked_to s first count n) (count - n) n (walk_stands n h)

-- What the replies to a list of patches and to the next patch say of the steps from patch to patch. Assumes nothing.
use mathlib.Core.Path.{◌≡◌, refl, ap, ◌∙◌}
use mathlib.Core.List.{List}
use Prim.Native.Nat.{ℕ, ◌+◌, ◌-◌}
use native.Mathlib.Omega.{arith}
use Rattle.std.specs.Prelude.{Result, Ok, Err, Some, None}
use Rattle.surface.specs.Patches.{Patch, patch_of, list_of, next_of, Before}
use Rattle.surface.specs.declared.PatchList.{PatchList}
use Rattle.surface.specs.declared.PatchError.{PatchError}
use Rattle.surface.specs.declared.PatchError.TheVariants as error
use Rattle.surface.proofs.Listing.{stands_first, next_is_patch, stands_after}
use Rattle.replies.specs.Replies.{patch_reply}
use Rattle.replies.specs.PatchReplies.{patches_reply}
use Rattle.replies.specs.declared.PairReply.{PairReply}

module _ (s : List ℕ) (r : PairReply) where
  -- a list that is told stands before patch 0
  first_told : r ≡ patches_reply (list_of s) → r.case ≡ 1 → Before s r.first r.second 0
  first_told = go (list_of s) refl
    where
      go : (l : Result PatchList PatchError) → list_of s ≡ l → r ≡ patches_reply l → r.case ≡ 1 → Before s r.first r.second 0
      go (Ok found) l e is = rw e (stands_first s found.first found.count l)
      go (Err error.NoSurface) l e is = absurd (omega (arith, ap (λ (x : PairReply). x.case) e))
      go (Err (error.Refused k)) l e is = absurd (omega (arith, ap (λ (x : PairReply). x.case) e))

  module _ (at left : ℕ) (e : r ≡ patch_reply (next_of s at left)) (n : ℕ) (b : Before s at left n) where
    -- the next patch is patch n
    patch_told : r ≡ patch_reply (patch_of s n)
    patch_told = e ∙ ap patch_reply (next_is_patch s at left n b)

    -- and the end that is told stands before the one after it
    end_told : r.case ≡ 1 → Before s r.second (left - 1) (n + 1)
    end_told = go (patch_of s n) refl patch_told
      where
        go : (p : Patch) → patch_of s n ≡ p → r ≡ patch_reply p → r.case ≡ 1 → Before s r.second (left - 1) (n + 1)
        go (Ok (Some p)) l f is = rw f (stands_after s at left n p.start p.end b l)
        go (Ok None) l f is = absurd (omega (arith, ap (λ (x : PairReply). x.case) f))
        go (Err error.NoSurface) l f is = absurd (omega (arith, ap (λ (x : PairReply). x.case) f))
        go (Err (error.Refused k)) l f is = absurd (omega (arith, ap (λ (x : PairReply). x.case) f))

  -- all that the two exports' clauses say, from the first
  pub list_told : r ≡ patches_reply (list_of s) → (r ≡ patches_reply (list_of s)) × (r.case ≡ 1 → Before s r.first r.second 0)
  list_told e = (e, first_told e)

  pub next_told : (at left : ℕ) → r ≡ patch_reply (next_of s at left) → (r ≡ patch_reply (next_of s at left)) × ((n : ℕ) → Before s at left n → (r ≡ patch_reply (patch_of s n)) × (r.case ≡ 1 → Before s r.second (left - 1) (n + 1)))
  next_told at left e = (e, (λ n b. (patch_told at left e n b, end_told at left e n b)))

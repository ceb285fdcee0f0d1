-- Patch n among patches in a row: the n before it are scanned, then itself, then those after it. Assumes nothing.
use Rattle.std.specs.Prelude.{Result, Ok, Err}
use Rattle.refusals.specs.declared.Reason.{Reason}
use Rattle.refusals.specs.declared.Reason.TheVariants.{BytesMissing}
use Rattle.surface.specs.declared.Part.{Part}
use Rattle.surface.specs.declared.PatchList.{PatchList}
use mathlib.Core.Path.{◌≡◌, refl, sym, ap, ◌∙◌}
use mathlib.Core.List.{List, [], ◌∷◌}
use Prim.Native.Nat.{ℕ, zero, suc, ◌+◌, ◌-◌, ◌<◌, ◌≤◌}
use native.Mathlib.Nat.{suc-sub-suc, sub-zero}
use native.Mathlib.Numerals.{sub-one}
use native.Mathlib.Omega.{arith}
use mathlib.Core.Bool.{Bool, true, false, cond}
use lib.ListN.{length}
use lib.Dec.{ltb}
use Rattle.fields.specs.Fields.{u32_at}
use Rattle.coords.specs.Walk.{Parsed, ok, refused, cons_parsed, and_then, times, list_at, ParsedHeader, header_at, rings_at}
use Rattle.surface.specs.Patches.{Patch, part, nothing, refusal_of, range_from, patch_from, patch_at, patches_from, patch_in, first_start, listed, list_in, patch_scanned}
use Rattle.surface.specs.Inner.{scan_end, count_from}

-- an answer that goes on from the end of what was scanned; a refusal of that is the answer
abbrev pub scan_then : {A : Type 0} → Parsed A → (ℕ → Patch) → Patch
scan_then (ok a end) g = g end
scan_then (refused k) g = Err (refusal_of k)

-- the part of a patch, once the rest is scanned too
abbrev pub part_then : Parsed Part → (ℕ → Parsed (List Part)) → Patch
part_then (ok r end) g = scan_then (g end) (λ last. part r.start r.end)
part_then (refused k) g = Err (refusal_of k)

pub scan_ends : {A : Type 0} (w : Parsed A) (g : ℕ → Patch) (e : ℕ) → scan_end w ≡ Ok e → scan_then w g ≡ g e
unfolding scan_end
scan_ends (refused k) g e p = cc
scan_ends (ok a end) g e p = let y : end ≡ e = cc in ap g y

pub scan_refused : {A : Type 0} (w : Parsed A) (g : ℕ → Patch) (k : Reason) → scan_end w ≡ Err k → scan_then w g ≡ Err (refusal_of k)
unfolding scan_end
scan_refused (refused j) g k p = let y : j ≡ k = cc in ap (λ (i : Reason). Err (refusal_of i)) y
scan_refused (ok a end) g k p = cc

-- a patch that was scanned stands from where it was looked for to where scanning ended
pub patch_ends : (s : List ℕ) (at e : ℕ) → scan_end (patch_at s at) ≡ Ok e → patch_at s at ≡ ok (record { start = at; end = e }) e
unfolding patch_at patch_from range_from scan_end
patch_ends s at e = go (header_at s at)
  where
    rings : {A : Type 0} (w : Parsed A) → scan_end (range_from at w) ≡ Ok e → range_from at w ≡ ok (record { start = at; end = e }) e
    rings (refused k) p = cc
    rings (ok a end) p = let y : end ≡ e = cc in rw y

    go : (h : ParsedHeader) → scan_end (patch_from s at h) ≡ Ok e → patch_from s at h ≡ ok (record { start = at; end = e }) e
    go (Err k) p = cc
    go (Ok h) p = rings (rings_at h s h.body) p

module _ (f : ℕ → Parsed Part) where
  abbrev in_row : ℕ → ℕ → Parsed (List Part)
  in_row = times ◌∷◌ [] f

  scan_cons : (r : Part) (w : Parsed (List Part)) (g : ℕ → Patch) → scan_then (cons_parsed ◌∷◌ r w) g ≡ scan_then w g
  scan_cons r (ok rs end) g = refl
  scan_cons r (refused k) g = refl

  first_cons : (r : Part) (w : Parsed (List Part)) → patch_in 0 (cons_parsed ◌∷◌ r w) ≡ scan_then w (λ last. part r.start r.end)
  unfolding patch_in
  first_cons r (ok rs end) = refl
  first_cons r (refused k) = refl

  later_cons : (n : ℕ) (r : Part) (w : Parsed (List Part)) → patch_in (suc n) (cons_parsed ◌∷◌ r w) ≡ patch_in n w
  unfolding patch_in
  later_cons n r (ok rs end) = refl
  later_cons n r (refused k) = refl

  -- one of them
  within : (count n at : ℕ) → n < count → patch_in n (in_row count at) ≡ scan_then (in_row n at) (λ p. part_then (f p) (in_row (count - n - 1)))
  unfolding times patch_in
  within zero n at h = absurd (omega arith)
  within (suc c) zero at h = rw (sub-zero, sub-one) (go (f at))
    where
      go : (w : Parsed Part) → patch_in 0 (and_then ◌∷◌ w (in_row c)) ≡ part_then w (in_row c)
      go (ok r end) = first_cons r (in_row c end)
      go (refused k) = refl
  within (suc c) (suc n) at h = go (f at) (λ e. within c n e (omega arith))
    where
      go : (w : Parsed Part) → ((e : ℕ) → patch_in n (in_row c e) ≡ scan_then (in_row n e) (λ p. part_then (f p) (in_row (c - n - 1)))) → patch_in (suc n) (and_then ◌∷◌ w (in_row c)) ≡ scan_then (and_then ◌∷◌ w (in_row n)) (λ p. part_then (f p) (in_row (suc c - suc n - 1)))
      go (refused k) ih = refl
      go (ok r e) ih = rw suc-sub-suc (later_cons n r (in_row c e) ∙ (ih e ∙ sym (scan_cons r (in_row n e) _)))

  -- past the last
  past : (count n at : ℕ) → count ≤ n → patch_in n (in_row count at) ≡ scan_then (in_row count at) (λ last. nothing)
  unfolding times patch_in
  past zero n at h = refl
  past (suc c) zero at h = absurd (omega arith)
  past (suc c) (suc n) at h = go (f at) (λ e. past c n e (omega arith))
    where
      go : (w : Parsed Part) → ((e : ℕ) → patch_in n (in_row c e) ≡ scan_then (in_row c e) (λ last. nothing)) → patch_in (suc n) (and_then ◌∷◌ w (in_row c)) ≡ scan_then (and_then ◌∷◌ w (in_row c)) (λ last. nothing)
      go (refused k) ih = refl
      go (ok r e) ih = later_cons n r (in_row c e) ∙ (ih e ∙ sym (scan_cons r (in_row c e) _))

  -- what is answered, by what was scanned
  pub past_refused : (count n at : ℕ) (k : Reason) → count ≤ n → scan_end (in_row count at) ≡ Err k → patch_in n (in_row count at) ≡ Err (refusal_of k)
  past_refused count n at k h p = past count n at h ∙ scan_refused (in_row count at) (λ last. nothing) k p

  pub past_nothing : (count n at e : ℕ) → count ≤ n → scan_end (in_row count at) ≡ Ok e → patch_in n (in_row count at) ≡ nothing
  past_nothing count n at e h p = past count n at h ∙ scan_ends (in_row count at) (λ last. nothing) e p

  abbrev from : ℕ → ℕ → ℕ → Patch
  from count n p = part_then (f p) (in_row (count - n - 1))

  pub before_refused : (count n at : ℕ) (k : Reason) → n < count → scan_end (in_row n at) ≡ Err k → patch_in n (in_row count at) ≡ Err (refusal_of k)
  before_refused count n at k h p = within count n at h ∙ scan_refused (in_row n at) (from count n) k p

  pub itself_refused : (count n at start : ℕ) (k : Reason) → n < count → scan_end (in_row n at) ≡ Ok start → scan_end (f start) ≡ Err k → patch_in n (in_row count at) ≡ Err (refusal_of k)
  unfolding scan_end
  itself_refused count n at start k h p q = within count n at h ∙ (scan_ends (in_row n at) (from count n) start p ∙ go (f start) q)
    where
      go : (w : Parsed Part) → scan_end w ≡ Err k → part_then w (in_row (count - n - 1)) ≡ Err (refusal_of k)
      go (ok r end) t = cc
      go (refused j) t = let y : j ≡ k = cc in ap (λ (i : Reason). Err (refusal_of i)) y

  pub rest_refused : (count n at start : ℕ) (r : Part) (end : ℕ) (k : Reason) → n < count → scan_end (in_row n at) ≡ Ok start → f start ≡ ok r end → scan_end (in_row (count - n - 1) end) ≡ Err k → patch_in n (in_row count at) ≡ Err (refusal_of k)
  rest_refused count n at start r end k h p q t = within count n at h ∙ (scan_ends (in_row n at) (from count n) start p ∙ rw q (scan_refused (in_row (count - n - 1) end) (λ last. part r.start r.end) k t))

  pub all_scanned : (count n at start : ℕ) (r : Part) (end last : ℕ) → n < count → scan_end (in_row n at) ≡ Ok start → f start ≡ ok r end → scan_end (in_row (count - n - 1) end) ≡ Ok last → patch_in n (in_row count at) ≡ part r.start r.end
  all_scanned count n at start r end last h p q t = within count n at h ∙ (scan_ends (in_row n at) (from count n) start p ∙ rw q (scan_ends (in_row (count - n - 1) end) (λ last. part r.start r.end) last t))

  -- where the first starts, and how many there are
  module _ (starts : (at : ℕ) (r : Part) (end : ℕ) → f at ≡ ok r end → r.start ≡ at) where
    Listed : ℕ → ℕ → Parsed (List Part) → Type 0
    Listed count at (ok rs end) = (first_start rs end ≡ at) × (length rs ≡ count)
    Listed count at (refused k) = Unit

    row_listed : (count at : ℕ) → Listed count at (in_row count at)
    unfolding times Listed first_start
    row_listed zero at = (refl, refl)
    row_listed (suc c) at = go (row_listed c) (f at) refl
      where
        join : (r : Part) (next : ℕ) → r.start ≡ at → (w : Parsed (List Part)) → Listed c next w → Listed (suc c) at (cons_parsed ◌∷◌ r w)
        join r next e (ok rs end) l = (e, ap suc l.1)
        join r next e (refused k) l = tt

        go : ((next : ℕ) → Listed c next (in_row c next)) → (w : Parsed Part) → f at ≡ w → Listed (suc c) at (and_then ◌∷◌ w (in_row c))
        go rest (ok r next) e = join r next (starts at r next e) (in_row c next) (rest next)
        go rest (refused k) e = tt

    pub list_scanned : (count at e : ℕ) → scan_end (in_row count at) ≡ Ok e → list_in (in_row count at) ≡ listed at count
    unfolding Listed list_in scan_end
    list_scanned count at e = go (in_row count at) (row_listed count at)
      where
        go : (w : Parsed (List Part)) → Listed count at w → scan_end w ≡ Ok e → list_in w ≡ listed at count
        go (ok rs end) l p = rw (l.0, l.1)
        go (refused k) l p = cc

  pub list_refused : (count at : ℕ) (k : Reason) → scan_end (in_row count at) ≡ Err k → list_in (in_row count at) ≡ Err (refusal_of k)
  unfolding list_in scan_end
  list_refused count at k = go (in_row count at)
    where
      go : (w : Parsed (List Part)) → scan_end w ≡ Err k → list_in w ≡ Err (refusal_of k)
      go (ok rs end) p = cc
      go (refused j) p = let y : j ≡ k = cc in rw y

-- the patches of a collection, by their count
pub collection_refused : (s : List ℕ) (h : ParsedHeader) (k : Reason) → count_from s h ≡ Err k → patches_from s h ≡ refused k
unfolding count_from patches_from list_at
collection_refused s (Err j) k p = let y : j ≡ k = cc in ap refused y
collection_refused s (Ok h) k p = go (ltb (length s) (h.body + 4)) p
  where
    go : (b : Bool) → cond {A = Result PatchList Reason} b (Err BytesMissing) (Ok (record { first = (h.body + 4); count = (u32_at h.little s h.body) })) ≡ Err k → cond b (refused BytesMissing) (times ◌∷◌ [] (patch_at s) (u32_at h.little s h.body) (h.body + 4)) ≡ refused k
    go true p = cc
    go false p = cc

pub collection_counted : (s : List ℕ) (h : ParsedHeader) (l : PatchList) → count_from s h ≡ Ok l → patches_from s h ≡ times ◌∷◌ [] (patch_at s) l.count l.first
unfolding count_from patches_from list_at
collection_counted s (Err j) l p = cc
collection_counted s (Ok h) l p = go (ltb (length s) (h.body + 4)) p
  where
    go : (b : Bool) → cond {A = Result PatchList Reason} b (Err BytesMissing) (Ok (record { first = h.body + 4; count = u32_at h.little s h.body })) ≡ Ok l → cond b (refused BytesMissing) (times ◌∷◌ [] (patch_at s) (u32_at h.little s h.body) (h.body + 4)) ≡ times ◌∷◌ [] (patch_at s) l.count l.first
    go true p = cc
    go false p =
        let same : (λ (x : PatchList). x) (record { first = h.body + 4; count = u32_at h.little s h.body }) ≡ l = cc in
        ap (λ (x : PatchList). times ◌∷◌ [] (patch_at s) x.count x.first) same

-- a patch starts where it was looked for
pub patch_starts : (s : List ℕ) (at : ℕ) (r : Part) (end : ℕ) → patch_at s at ≡ ok r end → r.start ≡ at
unfolding scan_end
patch_starts s at r end e =
    let is : patch_at s at ≡ ok (record { start = at; end = end }) end = patch_ends s at end (ap scan_end e) in
    let same : r ≡ record { start = at; end = end } = cc in
    ap (λ (x : Part). x.start) same

-- what is answered for one patch
pub scanned_part : (s : List ℕ) (at e : ℕ) → scan_end (patch_at s at) ≡ Ok e → patch_scanned (patch_at s at) ≡ part at e
unfolding patch_scanned
scanned_part s at e p = ap patch_scanned (patch_ends s at e p)

pub scanned_refusing : (w : Parsed Part) (k : Reason) → scan_end w ≡ Err k → patch_scanned w ≡ Err (refusal_of k)
unfolding patch_scanned scan_end
scanned_refusing (ok r end) k p = cc
scanned_refusing (refused j) k p = let y : j ≡ k = cc in ap (λ (i : Reason). Err (refusal_of i)) y

-- of a surface with one patch, patch 0 is that one, and there is no other
pub only_first : (n a e end : ℕ) → n ≡ 0 → patch_in n (ok (record { start = a; end = e } ∷ []) end) ≡ part a e
unfolding patch_in
only_first zero a e end p = refl
only_first (suc n) a e end p = absurd (omega arith)

pub only_nothing : (n : ℕ) (r : Part) (end : ℕ) → (n ≡ 0 → ⊥) → patch_in n (ok (r ∷ []) end) ≡ nothing
unfolding patch_in
only_nothing zero r end f = absurd (f refl)
only_nothing (suc n) r end f = refl

-- what a patch by its number, a collection's, the one of a triangle, the list and the next need
pub ruleset ranges = (past_refused, past_nothing, before_refused, itself_refused, rest_refused, all_scanned, patch_ends)

pub ruleset collections = (collection_refused, collection_counted)

pub ruleset only = (only_nothing, only_first)

pub ruleset lists = (collection_refused, collection_counted, list_scanned, list_refused)

pub ruleset steps = (scanned_part, scanned_refusing)

-- The hits in three lists: one after the other, and as many as there are places for. Assumes nothing.
use mathlib.Core.Path.{◌≡◌, refl, ◌∙◌}
use mathlib.Core.Bool.{Bool, true, false, cond}
use mathlib.Core.List.{List, [], ◌∷◌, ◌++◌, map, map-append}
use Prim.Native.Nat.{ℕ, suc, ◌+◌, min, ◌<◌, ◌≤◌}
use native.Mathlib.Nat.{min-le_left, min-le_right}
use native.Mathlib.Numerals.{add-one}
use native.Mathlib.Omega.{arith}
use borrow.Author.Tests.{ltb-true, ltb-false}
use lib.Dec.{ltb}
use lib.ListN.{length, take, drop, set, get_or, length-append, length-take, length-drop, length-map}
use lib.Seq.{take-suc, length-take-le, take_all, take-nil, take-append-le, drop-cons, append_snoc, set-append_seam}
use Rattle.dig_matcher.specs.Job.{HitLists, hit_lists, places_in}
use Rattle.dig_matcher.specs.declared.Hit.{Hit}
use Rattle.dig_matcher.specs.Inner.{placed, stored, with_hit}

-- ---- values before what stands after them

module _ {A : Type 0} where
  pub placed_length : (xs l : List A) → length xs ≤ length l → length (placed xs l) ≡ length l
  placed_length xs l h = simp (length-append, length-drop) (omega arith)

  pub placed_next : (xs : List A) (x : A) (l : List A) → length xs < length l → placed (xs ++ (x ∷ [])) l ≡ set (placed xs l) (length xs) x
  placed_next xs x l h =
      let one_more : length (xs ++ (x ∷ [])) ≡ suc (length xs) = length-append xs (x ∷ []) ∙ add-one (length xs) in
      rw (one_more, append_snoc xs x (drop (suc (length xs)) l), drop-cons l (length xs) x h, set-append_seam xs _ _ x)

-- ---- as many as there are places for

at_most_firsts : (l : HitLists) → places_in l ≤ length l.firsts
at_most_firsts l = min-le_left _ _

at_most_seconds : (l : HitLists) → places_in l ≤ length l.seconds
at_most_seconds l = omega (arith, min-le_right (length l.firsts) (min (length l.seconds) (length l.distances)), min-le_left (length l.seconds) (length l.distances))

at_most_distances : (l : HitLists) → places_in l ≤ length l.distances
at_most_distances l = omega (arith, min-le_right (length l.firsts) (min (length l.seconds) (length l.distances)), min-le_right (length l.seconds) (length l.distances))

module _ {B : Type 0} (f : Hit → B) (n : ℕ) (hits : List Hit) (l : List B) (room : n ≤ length l) where
  field_length : length (placed (map f (take n hits)) l) ≡ length l
  field_length = placed_length (map f (take n hits)) l (simp (length-map, length-take) (omega (arith, min-le_left n (length hits))))

  field_next : (h : Hit) → length hits < n → placed (map f (take n (hits ++ (h ∷ [])))) l ≡ set (placed (map f (take n hits)) l) (length hits) (f h)
  field_next h under =
      let all : take n hits ≡ hits = take_all n hits (omega arith) in
      let one_more : length (hits ++ (h ∷ [])) ≤ n = simp length-append (omega arith) in
      let long : length (map f hits) ≡ length hits = length-map hits f in
      rw (all, take_all n (hits ++ (h ∷ [])) one_more, map-append f hits (h ∷ []), placed_next (map f hits) (f h) l (omega arith), long)

-- ---- hits stored

stored_firsts : (l : HitLists) (hits : List Hit) → length (stored l hits).firsts ≡ length l.firsts
unfolding stored
stored_firsts l hits = field_length (λ (h : Hit). h.first) (places_in l) hits l.firsts (at_most_firsts l)

stored_seconds : (l : HitLists) (hits : List Hit) → length (stored l hits).seconds ≡ length l.seconds
unfolding stored
stored_seconds l hits = field_length (λ (h : Hit). h.second) (places_in l) hits l.seconds (at_most_seconds l)

stored_distances : (l : HitLists) (hits : List Hit) → length (stored l hits).distances ≡ length l.distances
unfolding stored
stored_distances l hits = field_length (λ (h : Hit). h.apart) (places_in l) hits l.distances (at_most_distances l)

stored_places : (l : HitLists) (hits : List Hit) → places_in (stored l hits) ≡ places_in l
stored_places l hits = rw (stored_firsts, stored_seconds, stored_distances)

-- no hit: the lists as they were
pub stored_none : (l : HitLists) → stored l [] ≡ l
unfolding stored
stored_none l = simp (take-nil {A = Hit})

put_next : (l : HitLists) (hits : List Hit) (h : Hit) → length hits < places_in l → stored l (hits ++ (h ∷ [])) ≡ hit_lists (set (stored l hits).firsts (length hits) h.first) (set (stored l hits).seconds (length hits) h.second) (set (stored l hits).distances (length hits) h.apart)
unfolding stored
put_next l hits h under = rw (field_next (λ (x : Hit). x.first) (places_in l) hits l.firsts (at_most_firsts l) h under, field_next (λ (x : Hit). x.second) (places_in l) hits l.seconds (at_most_seconds l) h under, field_next (λ (x : Hit). x.apart) (places_in l) hits l.distances (at_most_distances l) h under)

no_room : (l : HitLists) (hits : List Hit) (h : Hit) → places_in l ≤ length hits → stored l (hits ++ (h ∷ [])) ≡ stored l hits
unfolding stored
no_room l hits h over = rw (take-append-le (places_in l) hits (h ∷ []) over)

-- a hit more
pub stored_next : (l : HitLists) (hits : List Hit) (h : Hit) → stored l (hits ++ (h ∷ [])) ≡ with_hit (length hits) h (stored l hits)
unfolding with_hit
stored_next l hits h = rw (stored_places l hits) (by_room (ltb (length hits) (places_in l)) refl)
  where
    by_room : (fits : Bool) → ltb (length hits) (places_in l) ≡ fits → stored l (hits ++ (h ∷ [])) ≡ cond (ltb (length hits) (places_in l)) (hit_lists (set (stored l hits).firsts (length hits) h.first) (set (stored l hits).seconds (length hits) h.second) (set (stored l hits).distances (length hits) h.apart)) (stored l hits)
    by_room true e = rw e (put_next l hits h (ltb-true _ _ e))
    by_room false e = rw e (no_room l hits h (ltb-false _ _ e))

-- the first k stored, then one more
pub stored_turn : (l : HitLists) (hits : List Hit) (k : ℕ) (d : Hit) → k < length hits → with_hit k (get_or hits k d) (stored l (take k hits)) ≡ stored l (take (k + 1) hits)
stored_turn l hits k d under =
    let long : length (take k hits) ≡ k = length-take-le k hits (omega arith) in
    let more : take (k + 1) hits ≡ take k hits ++ (get_or hits k d ∷ []) = rw add-one (take-suc hits k d under) in
    rw (more, stored_next l (take k hits) (get_or hits k d), long)

pub stored_whole : (l : HitLists) (hits : List Hit) (k : ℕ) → length hits ≤ k → stored l (take k hits) ≡ stored l hits
stored_whole l hits k over = rw (take_all k hits over)

-- ---- hits kept, as many of the first as there is room for

module _ (l : List Hit) where
  pub kept_none : placed (take (length l) []) l ≡ l
  kept_none = simp (take-nil {A = Hit})

  pub kept_next : (hits : List Hit) (h : Hit) → length hits < length l → placed (take (length l) (hits ++ (h ∷ []))) l ≡ set (placed (take (length l) hits) l) (length hits) h
  kept_next hits h under =
      let all : take (length l) hits ≡ hits = take_all (length l) hits (omega arith) in
      let one_more : length (hits ++ (h ∷ [])) ≤ length l = simp length-append (omega arith) in
      rw (all, take_all (length l) (hits ++ (h ∷ [])) one_more) (placed_next hits h l under)

  pub kept_full : (hits : List Hit) (h : Hit) → length l ≤ length hits → placed (take (length l) (hits ++ (h ∷ []))) l ≡ placed (take (length l) hits) l
  kept_full hits h over = rw (take-append-le (length l) hits (h ∷ []) over)

  pub kept_length : (hits : List Hit) → length (placed (take (length l) hits) l) ≡ length l
  kept_length hits = placed_length (take (length l) hits) l (simp length-take (omega (arith, min-le_left (length l) (length hits))))

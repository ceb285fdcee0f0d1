-- Elements stored in a row. Assumes nothing.
use mathlib.Core.Path.{◌≡◌, sym, ap, ◌∙◌}
use mathlib.Core.List.{List, [], ◌∷◌, ◌++◌}
use Prim.Native.Nat.{ℕ, suc, ◌+◌, ◌<◌, ◌≤◌}
use native.Mathlib.Nat.{zero-add, add-zero}
use native.Mathlib.Numerals.{add-one}
use native.Mathlib.Omega.{arith}
use lib.ListN.{length, get_or, set, take, drop, length-append, get_or-append}
use lib.Seq.{sets, sets-eq, length-take-le, get_or-append-add, drop-cons}

module _ {A : Type 0} where
  -- two rows, the second behind the first, are one
  pub sets_append : (xs ys l : List A) (i : ℕ) → sets l i (xs ++ ys) ≡ sets (sets l i xs) (i + length xs) ys
  sets_append [] ys l i = rw add-zero
  sets_append (x ∷ xs) ys l i =
      let e : suc i + length xs ≡ i + suc (length xs) = omega arith in
      sets_append xs ys (set l i x) (suc i) ∙ ap (λ (k : ℕ). sets (sets (set l i x) (suc i) xs) k ys) e

  -- a row from i on begins with its element i
  pub sets_turn : (s l : List A) (at i : ℕ) (z : A) → i < length s → sets l (at + i) (drop i s) ≡ sets (set l (at + i) (get_or s i z)) (at + (i + 1)) (drop (i + 1) s)
  sets_turn s l at i z h =
      let e : suc (at + i) ≡ at + (i + 1) = omega arith in
      ap (sets l (at + i)) (drop-cons s i z h)
      ∙ ap (λ (k : ℕ). sets (set l (at + i) (get_or s i z)) k (drop (suc i) s)) e
      ∙ ap (λ (k : ℕ). sets (set l (at + i) (get_or s i z)) (at + (i + 1)) (drop k s)) (sym (add-one i))

  -- a row from the start on stands before what is left
  pub sets_front : (n : ℕ) (xs l : List A) → length xs ≡ n → n ≤ length l → sets l 0 xs ≡ xs ++ drop n l
  sets_front n xs l e h = sets-eq xs l 0 (omega arith) ∙ rw (zero-add, e)

  -- what was stored is read
  pub get_d_sets : (vs l : List A) (at i : ℕ) (d : A) → at + length vs ≤ length l → i < length vs → get_or (sets l at vs) (at + i) d ≡ get_or vs i d
  get_d_sets vs l at i d h b =
      let e : length (take at l) ≡ at = length-take-le at l (omega arith) in
      ap (λ (x : List A). get_or x (at + i) d) (sets-eq vs l at h)
      ∙ get_or-append (take at l ++ vs) (drop (at + length vs) l) d (at + i) (simp length-append (omega arith))
      ∙ ap (λ (k : ℕ). get_or (take at l ++ vs) (k + i) d) (sym e)
      ∙ get_or-append-add (take at l) vs i d

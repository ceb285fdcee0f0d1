-- A joined blob, stored part by part. Assumes nothing.
use mathlib.Core.Path.{◌≡◌, refl, sym, ap, ◌∙◌}
use mathlib.Core.List.{List, ◌++◌}
use Prim.Native.Nat.{ℕ, ◌+◌, ◌-◌, ◌≤◌}
use native.Mathlib.Omega.{arith}
use lib.ListN.{length, take, drop, length-append}
use lib.Seq.{sets, slice, take-add, drop_at, length-take-le}
use Rattle.fields.specs.Fields.{bytes_of_u32}
use Rattle.fields.proofs.Stores.{sets_append, sets_front}
use Rattle.gpb.specs.Header.{srid_of}
use Rattle.gpb.specs.Written.{header_bytes}
use Rattle.operands.specs.declared.Operands.{Operands}
use Rattle.joining.specs.Joined.{own_bytes, joined_blob}
use Rattle.joining.specs.Inner.{BothRead}
use Rattle.joining.proofs.Answers.{both_lie}

-- as many as lie between two places, from the first on, are the part between them
pub part_is : (s : List ℕ) (start end : ℕ) → start ≤ end → end ≤ length s → take (end - start) (drop start s) ≡ slice start end s
part_is s start end h k =
    let e : start + (end - start) ≡ end = omega arith in
    sym (ap (λ (n : ℕ). drop start (take n s)) (sym e) ∙ ap (drop start) (take-add start (end - start) s) ∙ drop_at (take start s) (take (end - start) (drop start s)) start (length-take-le start s (omega arith)))

join_stored : (a b l l₁ l₂ l₃ l₄ : List ℕ) (middle : ℕ) → length (joined_blob a b) ≤ length l → middle ≡ 17 + length (own_bytes a) → l₁ ≡ sets l 0 (header_bytes (srid_of a) 1007) → l₂ ≡ sets l₁ 13 (bytes_of_u32 2) → l₃ ≡ sets l₂ 17 (own_bytes a) → l₄ ≡ sets l₃ middle (own_bytes b) → l₄ ≡ joined_blob a b ++ drop (length (joined_blob a b)) l
unfolding joined_blob header_bytes bytes_of_u32
join_stored a b l l₁ l₂ l₃ l₄ middle h m e₁ e₂ e₃ e₄ =
    let head = header_bytes (srid_of a) 1007 in
    let front = head ++ bytes_of_u32 2 in
    let two : l₂ ≡ sets l 0 front = e₂ ∙ ap (λ (n : List ℕ). sets n 13 (bytes_of_u32 2)) e₁ ∙ sym (sets_append head (bytes_of_u32 2) l 0) in
    let three : l₃ ≡ sets l 0 (front ++ own_bytes a) = e₃ ∙ ap (λ (n : List ℕ). sets n 17 (own_bytes a)) two ∙ sym (sets_append front (own_bytes a) l 0) in
    let long : middle ≡ 0 + length (front ++ own_bytes a) = omega (arith, length-append front (own_bytes a)) in
    e₄ ∙ ap (λ (n : List ℕ). sets n middle (own_bytes b)) three ∙ ap (λ (i : ℕ). sets (sets l 0 (front ++ own_bytes a)) i (own_bytes b)) long
    ∙ sym (sets_append (front ++ own_bytes a) (own_bytes b) l 0) ∙ sets_front (length (joined_blob a b)) (joined_blob a b) l refl h

-- by the operands
module _ (a b : List ℕ) (o : Operands) (r : BothRead a b o) where
  own1 : slice o.first.at o.first.end a ≡ own_bytes a
  unfolding own_bytes
  own1 = rw r.own

  own2 : slice o.second.at o.second.end b ≡ own_bytes b
  unfolding own_bytes
  own2 = rw r.own

  srid : o.srid ≡ srid_of a
  srid = rw r.own

  pub join_put : (l l₁ l₂ l₃ l₄ : List ℕ) → length (joined_blob a b) ≤ length l → l₁ ≡ sets l 0 (header_bytes o.srid 1007) → l₂ ≡ sets l₁ 13 (bytes_of_u32 2) → l₃ ≡ sets l₂ 17 (slice o.first.at o.first.end a) → l₄ ≡ sets l₃ (17 + (o.first.end - o.first.at)) (slice o.second.at o.second.end b) → l₄ ≡ joined_blob a b ++ drop (length (joined_blob a b)) l
  join_put l l₁ l₂ l₃ l₄ h e₁ e₂ e₃ e₄ =
      join_stored a b l l₁ l₂ l₃ l₄ (17 + (o.first.end - o.first.at)) h (ap (λ (n : ℕ). 17 + n) (sym (both_lie a b o r).size1))
      (e₁ ∙ ap (λ (n : ℕ). sets l 0 (header_bytes n 1007)) srid) e₂ (e₃ ∙ ap (sets l₂ 17) own1) (e₄ ∙ ap (sets l₃ (17 + (o.first.end - o.first.at))) own2)

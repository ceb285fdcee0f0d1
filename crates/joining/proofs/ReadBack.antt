-- The bytes of a join read as a blob: the collection of both geometries, to the last byte, with the first blob's SRID. Assumes nothing.
use mathlib.Core.Path.{◌≡◌, refl, sym, ap, ◌∙◌}
use mathlib.Core.Bool.{true, false}
use mathlib.Core.List.{List, ◌++◌, append_assoc}
use Rattle.std.specs.Prelude.{None, Ok}
use Prim.Native.Nat.{ℕ, suc, max, ◌+◌, ◌^◌, ◌<◌, ◌≤◌}
use native.Mathlib.Nat.{le-max_left, le-max_right}
use native.Mathlib.Omega.{arith}
use lib.Dec.{lit<}
use lib.ListN.{length, get_or, take, length-append, get_or-append}
use lib.Seq.{slice, get_or-take, get_or-drop, get_or-append-add}
use borrow.Author.Tests.{ltb-false}
use Rattle.refusals.specs.Checks.{first_of}
use Rattle.refusals.proofs.Checks.{accepted_is}
use Rattle.fields.specs.Fields.{u32_at, bytes_of_u32}
use Rattle.gpb.specs.Header.{geometry_start, srid_of, has_z, header_checks_3d, header_of_3d}
use Rattle.gpb.specs.Written.{header_bytes}
use Rattle.gpb.proofs.Bounds.{srid_fits}
use Rattle.gpb.proofs.HeaderLaws.{Accepted, accepted_3d, accepted}
use Rattle.gpb.proofs.ReadBack.{header_back}
use Rattle.coords.specs.Walk.{Geometry, ok, walk_of, all_levels}
use Rattle.coords.specs.Levels.{deepest_level}
use Rattle.coords.proofs.Refusals.{accepted_gives_none}
use Rattle.coords.proofs.Levels.{walk_with_levels}
use Rattle.coords.proofs.Moves.{walk_moves}
use Rattle.coords.proofs.Pairs.{pair_walk}
use Rattle.blob.specs.Blob.{walk_of_blob, walk_end}
use Rattle.operands.proofs.Order.{none_of_bytes}
use Rattle.joining.specs.Joined.{own_bytes, joined_blob, deepest_of, nests_too_deep, join_checks}
use Rattle.joining.specs.Promises.{collection_of, ReadsAsBoth}
use Rattle.joining.proofs.Size.{joined_size}
use Rattle.joining.proofs.Order.{none_of_join, fits_where_none}
use Rattle.joining.proofs.Own.{was_read, lies}

-- ---- a geometry's own bytes

module _ (s : List ℕ) (g : Geometry) (end : ℕ) (e : walk_of_blob s ≡ ok g end) where
  own_is : own_bytes s ≡ slice (geometry_start s) end s
  unfolding own_bytes walk_end
  own_is = rw e

  own_length : geometry_start s + length (own_bytes s) ≡ end
  unfolding walk_end
  own_length =
      let l = lies s (accepted_gives_none s (geometry_start s) g end e) in
      let is : walk_end (walk_of_blob s) ≡ end = ap walk_end e in
      omega (arith, l.forward, l.size, is)

  own_byte : (i : ℕ) → i < length (own_bytes s) → get_or (own_bytes s) i 0 ≡ get_or s (geometry_start s + i) 0
  own_byte i l =
      ap (λ (r : List ℕ). get_or r i 0) own_is ∙ get_or-drop (geometry_start s) (take end s) i 0 ∙ get_or-take end s (geometry_start s + i) 0 (omega (arith, own_length, l))

  -- they are walked alike where they stand in j
  own_walk : (j : List ℕ) (at : ℕ) → deepest_level g < 32 → at + length (own_bytes s) ≤ length j → ((i : ℕ) → i < length (own_bytes s) → get_or j (at + i) 0 ≡ get_or (own_bytes s) i 0) → walk_of 32 j at ≡ ok g (at + length (own_bytes s))
  own_walk j at d room there =
      walk_moves s j (geometry_start s) at (length (own_bytes s)) (λ i l. sym (there i l ∙ own_byte i l)) room 32 g
      (walk_with_levels all_levels 32 s (geometry_start s) g (geometry_start s + length (own_bytes s)) (e ∙ ap (ok g) (sym own_length)) d)

-- ---- where they stand in the join, and its header

module _ (a b : List ℕ) where
  -- 17 bytes stand before them
  abbrev front : List ℕ
  front = header_bytes (srid_of a) 1007 ++ bytes_of_u32 2

  first_there : (i : ℕ) → i < length (own_bytes a) → get_or (joined_blob a b) (17 + i) 0 ≡ get_or (own_bytes a) i 0
  unfolding joined_blob header_bytes bytes_of_u32
  first_there i l =
      get_or-append (front ++ own_bytes a) (own_bytes b) 0 (17 + i) (omega (arith, length-append front (own_bytes a), l))
      ∙ get_or-append-add front (own_bytes a) i 0

  second_there : (i : ℕ) → get_or (joined_blob a b) (17 + length (own_bytes a) + i) 0 ≡ get_or (own_bytes b) i 0
  unfolding joined_blob header_bytes bytes_of_u32
  second_there i =
      ap (λ (n : ℕ). get_or (front ++ own_bytes a ++ own_bytes b) (n + i) 0) (sym (length-append front (own_bytes a)))
      ∙ get_or-append-add (front ++ own_bytes a) (own_bytes b) i 0

  -- at byte 8: little-endian, type 1007, count 2
  order : get_or (joined_blob a b) 8 0 ≡ 1
  unfolding joined_blob header_bytes bytes_of_u32
  order = refl

  type : u32_at true (joined_blob a b) 9 ≡ 1007
  unfolding joined_blob header_bytes bytes_of_u32 u32_at
  type = refl

  count : u32_at true (joined_blob a b) 13 ≡ 2
  unfolding joined_blob header_bytes bytes_of_u32 u32_at
  count = refl

  module _ (small : srid_of a < 2 ^ 32) where
    header_is : header_of_3d (joined_blob a b) ≡ Ok (record { at = 8; code = 1007; srid = srid_of a })
    unfolding joined_blob has_z
    header_is = simp append_assoc (header_back (srid_of a) 1007 (bytes_of_u32 2 ++ (own_bytes a ++ own_bytes b)) small (lit< tt) refl)

    head_of : Accepted (joined_blob a b) (record { at = 8; code = 1007; srid = srid_of a })
    head_of = accepted (joined_blob a b) _ (accepted_3d (joined_blob a b) _ header_is).0

-- ---- the whole join

module _ (a b : List ℕ) (nests : nests_too_deep a b ≡ false) (g h : Geometry) (end1 end2 : ℕ) (walk1 : walk_of_blob a ≡ ok g end1) (walk2 : walk_of_blob b ≡ ok h end2) where
  depths : (deepest_level g < 32) × (deepest_level h < 32)
  unfolding nests_too_deep deepest_of
  depths =
      let m = deepest_of (walk_of_blob a) in
      let n = deepest_of (walk_of_blob b) in
      let l : suc (max m n) ≤ 32 = ltb-false 32 (suc (max m n)) nests in
      let p : m ≡ deepest_level g = ap deepest_of walk1 in
      let q : n ≡ deepest_level h = ap deepest_of walk2 in
      (omega (arith, le-max_left m n, l, p), omega (arith, le-max_right m n, l, q))

  -- behind the header of 8 bytes, a pair of members with 32 levels left
  pair : walk_of 33 (joined_blob a b) 8 ≡ ok (collection_of g h) (17 + length (own_bytes a) + length (own_bytes b))
  pair =
      pair_walk (joined_blob a b) 8 (order a b) (type a b) 32 (17 + length (own_bytes a)) (17 + length (own_bytes a) + length (own_bytes b)) g h (omega (arith, joined_size a b)) (count a b)
      (own_walk a g end1 walk1 (joined_blob a b) 17 depths.0 (omega (arith, joined_size a b)) (first_there a b))
      (own_walk b h end2 walk2 (joined_blob a b) (17 + length (own_bytes a)) depths.1 (omega (arith, joined_size a b)) (λ i l. second_there a b i))

  reads : srid_of a < 2 ^ 32 → ReadsAsBoth a b (joined_blob a b)
  unfolding header_of_3d
  reads small =
      let head = head_of a b small in
      let end : 17 + length (own_bytes a) + length (own_bytes b) ≡ length (joined_blob a b) = omega (arith, joined_size a b) in
      record {
        size = joined_size a b;
        header = (accepted_is (first_of (header_checks_3d (joined_blob a b))) _ _ (header_is a b small)).0;
        srid = sym head.own;
        first = g;
        second = h;
        end1 = end1;
        end2 = end2;
        walk1 = walk1;
        walk2 = walk2;
        walk = ap (walk_of all_levels (joined_blob a b)) (sym head.start) ∙ (pair ∙ ap (ok (collection_of g h)) end);
      }

-- End theorem: what a join that nothing refuses writes is read as both.
pub joined_reads : (a b : List ℕ) (lent : ℕ) → ((i : ℕ) → get_or a i 0 < 256) → ((i : ℕ) → get_or b i 0 < 256) → first_of (join_checks a b lent) ≡ None → ReadsAsBoth a b (joined_blob a b)
joined_reads a b lent bytes1 bytes2 h =
    let n = none_of_join a b lent h in
    let both = none_of_bytes a b n.0 in
    let v = was_read a both.walk1 in
    let w = was_read b both.walk2 in
    reads a b (fits_where_none a b lent n.1).0 v.tree w.tree v.end w.end v.walk w.walk (srid_fits a bytes1)

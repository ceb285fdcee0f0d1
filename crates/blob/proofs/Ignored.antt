-- Trailing bytes, the envelope doubles' values and the empty flag change nothing in reading: a blob that can be walked and one that differs from it in these alone are read alike. Assumes nothing.
use mathlib.Core.Path.{◌≡◌, refl, sym, ap, ◌∙◌}
use mathlib.Core.Bool.{Bool, true, false, cond, not, ◌&&◌}
use mathlib.Core.List.{List}
use Prim.Native.Nat.{ℕ, ◌+◌, ◌*◌, ◌-◌, ◌/◌, ◌%◌, ◌<◌, ◌≤◌}
use native.Mathlib.Omega.{arith}
use lib.Dec.{ltb, eqb}
use lib.ListN.{length, get_or, take, length-take, length-drop}
use lib.Seq.{slice, get_or-take, get_or-drop, length-slice}
use borrow.Author.Tests.{le-ltb, le-leb}
use Rattle.fields.specs.Fields.{u32_at}
use Rattle.gpb.specs.Header.{is_gp, flags_of, envelope_indicator, doubles_of, geometry_start, byte_order_of, top_type, ewkb_srid, srid_of, under_eight_bytes, version_not_zero, extended_bit, reserved_bits, indicator_above_four, ends_in_envelope, top_header_cut, byte_order_above_one, lacks_z, gp_checks, top_checks, header_checks, header_checks_3d}
use Rattle.coords.specs.Walk.{ok, walk_of, all_levels}
use Rattle.coords.proofs.Ends.{walk_end_lem}
use Rattle.coords.proofs.Moves.{walk_moves}
use Rattle.blob.specs.Blob.{walk_of_blob}
use Rattle.blob.specs.Ignored.{SameGpHeader, SameButIgnored, ReadAlike}

-- ---- bytes

-- a byte of equal parts
same_byte : (from to : ℕ) (s t : List ℕ) → slice from to s ≡ slice from to t → (i : ℕ) → from ≤ i → i < to → get_or s i 0 ≡ get_or t i 0
same_byte from to s t e i f h = sym (at s) ∙ (ap (λ (l : List ℕ). get_or l (i - from) 0) e ∙ at t)
  where
    back : from + (i - from) ≡ i
    back = omega arith

    at : (l : List ℕ) → get_or (slice from to l) (i - from) 0 ≡ get_or l i 0
    at l = get_or-drop from (take to l) (i - from) 0 ∙ (ap (λ (j : ℕ). get_or (take to l) j 0) back ∙ get_or-take to l i 0 h)

-- four equal bytes are the same number
same_u32 : (little : Bool) (s t : List ℕ) (p : ℕ) → ((i : ℕ) → p ≤ i → i < p + 4 → get_or s i 0 ≡ get_or t i 0) → u32_at little s p ≡ u32_at little t p
unfolding u32_at
same_u32 true s t p e = rw (e p (omega arith) (omega arith), e (p + 1) (omega arith) (omega arith), e (p + 2) (omega arith) (omega arith), e (p + 3) (omega arith) (omega arith))
same_u32 false s t p e = rw (e p (omega arith) (omega arith), e (p + 1) (omega arith) (omega arith), e (p + 2) (omega arith) (omega arith), e (p + 3) (omega arith) (omega arith))

-- a part that is not empty ends in both
ends_in_both : (from to : ℕ) (s t : List ℕ) → slice from to s ≡ slice from to t → from < to → to ≤ length s → to ≤ length t
ends_in_both from to s t e f h = omega (arith, ap length e, length-slice from to s h, length-drop from (take to t), length-take to t)

-- ---- tests

both_false : (x y n m : ℕ) → n ≤ x → m ≤ y → ltb x n ≡ ltb y m
both_false x y n m h k = le-ltb x n h ∙ sym (le-ltb y m k)

and_alike : (a b c d : Bool) → a ≡ b → (a ≡ true → c ≡ d) → (a && c) ≡ (b && d)
and_alike true b c d e f = rw (← e) (f refl)
and_alike false b c d e f = rw (← e)

-- ---- the header

module _ (s t : List ℕ) (same : SameButIgnored s t) where
  gp : is_gp s ≡ true → SameGpHeader s t
  gp = same.gp_header

  indicator : is_gp s ≡ true → envelope_indicator s ≡ envelope_indicator t
  indicator g = omega (arith, (gp g).flags_below_empty)

  start : geometry_start s ≡ geometry_start t
  unfolding geometry_start
  start = go (is_gp s) refl
    where
      go : (b : Bool) → is_gp s ≡ b → cond (is_gp s) (8 + 8 * doubles_of (envelope_indicator s)) 0 ≡ cond (is_gp t) (8 + 8 * doubles_of (envelope_indicator t)) 0
      go true g = rw (← same.both_or_neither, g, indicator g)
      go false g = rw (← same.both_or_neither, g)

  ends : (geometry_start s + 9 ≤ same.end) × (same.end ≤ length s)
  ends = walk_end_lem s all_levels (geometry_start s) same.tree same.end same.read

  end_there : same.end ≤ length t
  end_there = ends_in_both (geometry_start s) same.end s t same.same_geometry (omega (arith, ends.0)) ends.1

  byte : (i : ℕ) → geometry_start s ≤ i → i < same.end → get_or s i 0 ≡ get_or t i 0
  byte = same_byte (geometry_start s) same.end s t same.same_geometry

  -- where the geometry of a GP blob starts, its header is over
  eight : is_gp s ≡ true → 8 ≤ geometry_start s
  unfolding geometry_start
  eight g = rw g (omega arith)

  order : byte_order_of s ≡ byte_order_of t
  order = byte (geometry_start s) (omega arith) (omega (arith, ends.0)) ∙ ap (λ (i : ℕ). get_or t i 0) start

  type : top_type s ≡ top_type t
  unfolding top_type
  type =
      same_u32 (eqb (byte_order_of s) 1) s t (geometry_start s + 1) (λ i f h. byte i (omega arith) (omega (arith, ends.0)))
      ∙ rw (order, start)

  bare_srid : is_gp s ≡ false → ewkb_srid s ≡ ewkb_srid t
  unfolding ewkb_srid geometry_start
  bare_srid g =
      let at-0 : geometry_start s ≡ 0 = rw g in
      rw (le-leb 9 (length s) (omega (arith, ends.0, ends.1)), le-leb 9 (length t) (omega (arith, ends.0, end_there)), type, order, same_u32 (eqb (byte_order_of t) 1) s t 5 (λ i f h. byte i (omega arith) (omega (arith, ends.0))))

  srid : srid_of s ≡ srid_of t
  unfolding srid_of
  srid = go (is_gp s) refl
    where
      go : (b : Bool) → is_gp s ≡ b → cond (is_gp s) (u32_at (eqb (flags_of s % 2) 1) s 4) (ewkb_srid s) ≡ cond (is_gp t) (u32_at (eqb (flags_of t % 2) 1) t 4) (ewkb_srid t)
      go true g =
          let low : flags_of s % 2 ≡ flags_of t % 2 = omega (arith, (gp g).flags_below_empty) in
          rw (← same.both_or_neither, g, low) (same_u32 (eqb (flags_of t % 2) 1) s t 4 (λ i f h. same_byte 4 8 s t (gp g).srid_bytes i f h))
      go false g = rw (← same.both_or_neither, g) (bare_srid g)

  gp_alike : gp_checks s ≡ gp_checks t
  unfolding gp_checks under_eight_bytes version_not_zero extended_bit reserved_bits indicator_above_four ends_in_envelope
  gp_alike =
      rw (
        and_alike (is_gp s) (is_gp t) (ltb (length s) 8) (ltb (length t) 8) same.both_or_neither (λ g. both_false (length s) (length t) 8 8 (omega (arith, eight g, ends.0, ends.1)) (omega (arith, eight g, ends.0, end_there))),
        and_alike (is_gp s) (is_gp t) (not (eqb (get_or s 2 0) 0)) (not (eqb (get_or t 2 0) 0)) same.both_or_neither (λ g. ap (λ (v : ℕ). not (eqb v 0)) (same_byte 0 3 s t (gp g).magic_and_version 2 (omega arith) (omega arith))),
        and_alike (is_gp s) (is_gp t) (eqb (flags_of s / 0x20 % 2) 1) (eqb (flags_of t / 0x20 % 2) 1) same.both_or_neither (λ g. ap (λ (v : ℕ). eqb (v % 2) 1) (gp g).flags_above_empty),
        and_alike (is_gp s) (is_gp t) (not (eqb (flags_of s / 0x40 % 4) 0)) (not (eqb (flags_of t / 0x40 % 4) 0)) same.both_or_neither (λ g. ap (λ (v : ℕ). not (eqb (v % 4) 0)) (above g)),
        and_alike (is_gp s) (is_gp t) (ltb 4 (envelope_indicator s)) (ltb 4 (envelope_indicator t)) same.both_or_neither (λ g. ap (ltb 4) (indicator g)),
        and_alike (is_gp s) (is_gp t) (ltb (length s) (geometry_start s)) (ltb (length t) (geometry_start t)) same.both_or_neither (λ g. both_false (length s) (length t) (geometry_start s) (geometry_start t) (omega (arith, ends.0, ends.1)) (omega (arith, ends.0, end_there, start))),
      )
    where
      above : is_gp s ≡ true → flags_of s / 0x40 ≡ flags_of t / 0x40
      above g = omega (arith, (gp g).flags_above_empty)

  top_alike : top_checks s ≡ top_checks t
  unfolding top_checks top_header_cut byte_order_above_one
  top_alike =
      rw (both_false (length s) (length t) (geometry_start s + 5) (geometry_start t + 5) (omega (arith, ends.0, ends.1)) (omega (arith, ends.0, end_there, start)), order)

  header_alike : header_checks s ≡ header_checks t
  unfolding header_checks
  header_alike = rw (gp_alike, top_alike)

  header_3d_alike : header_checks_3d s ≡ header_checks_3d t
  unfolding header_checks_3d lacks_z
  header_3d_alike = rw (header_alike, type)

  -- ---- the walk

  walk_there : walk_of all_levels t (geometry_start s) ≡ ok same.tree same.end
  walk_there =
      let n : ℕ = same.end - geometry_start s in
      let to_end : geometry_start s + (same.end - geometry_start s) ≡ same.end = omega (arith, ends.0) in
      walk_moves s t (geometry_start s) (geometry_start s) (same.end - geometry_start s) (λ i h. byte (geometry_start s + i) (omega arith) (omega (arith, h))) (omega (arith, end_there, to_end)) all_levels same.tree (same.read ∙ ap (ok same.tree) (sym to_end))
      ∙ ap (ok same.tree) to_end

  walk_alike : walk_of_blob s ≡ walk_of_blob t
  walk_alike = same.read ∙ (sym walk_there ∙ ap (walk_of all_levels t) start)

  -- the law
  pub ignored_changes_nothing : ReadAlike s t
  ignored_changes_nothing =
      record {
        header = header_alike;
        header_3d = header_3d_alike;
        start = start;
        type = type;
        srid = srid;
        walk = walk_alike;
      }

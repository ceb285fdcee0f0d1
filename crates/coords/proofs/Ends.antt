-- Where a geometry ends: nine bytes on at least, a header's five and a count's four, and in the blob. Assumes nothing.
use mathlib.Core.Path.{◌≡◌, refl, subst}
use mathlib.Core.Bool.{Bool, true, false, cond}
use mathlib.Core.List.{List, [], ◌∷◌}
use Prim.Native.Nat.{ℕ, zero, suc, ◌+◌, ◌*◌, ◌≤◌}
use native.Mathlib.Omega.{arith}
use lib.Dec.{ltb, eqb}
use lib.ListN.{length, get_or}
use borrow.Author.Tests.{ltb-false}
use Rattle.fields.specs.Fields.{u32_at}
use Rattle.std.specs.Prelude.{Option, None, Some, Ok, Err}
use Rattle.refusals.specs.declared.Reason.TheVariants.{BytesMissing, ByteOrder}
use Rattle.coords.specs.declared.GeometryClass.{GeometryClass}
use Rattle.coords.specs.declared.GeometryClass.TheVariants as class
use Rattle.coords.proofs.Laws.{wide}
use Rattle.coords.specs.declared.WkbHeader.{WkbHeader}
use Rattle.fields.specs.TypeCode.{has_flag, srid_flag}
use Rattle.coords.specs.Walk.{ParsedHeader, Geometry, geometry, Content, point, line, rings, members, no_members, one_more, Parsed, ok, refused, map_parsed, stride, coordinate_at, coordinates_from, point_at, coordinates_at, line_at, cons_parsed, and_then, times, list_at, rings_at, members_at, geometry_class_of, content_of, wkb_header, header_of_type, header_at, geometry_from, walk_of}

-- a header has at least five bytes
unfoldable pub AfterFive : ℕ → ParsedHeader → Type 0
AfterFive p (Ok h) = p + 5 ≤ h.body
AfterFive p (Err k) = Unit

after_tests : (b c d e : Bool) (p : ℕ) (g h : WkbHeader) → p + 5 ≤ g.body → p + 5 ≤ h.body → AfterFive p (cond b (Err BytesMissing) (cond c (Err ByteOrder) (cond d (cond e (Err BytesMissing) (Ok g)) (Ok h))))
unfolding AfterFive
after_tests true c d e p g h i j = tt
after_tests false true d e p g h i j = tt
after_tests false false true true p g h i j = tt
after_tests false false true false p g h i j = i
after_tests false false false e p g h i j = j

pub header_after : (s : List ℕ) (p : ℕ) → AfterFive p (header_at s p)
unfolding header_at header_of_type
header_after s p =
    let little = eqb (get_or s p 0) 1 in
    let code = u32_at little s (p + 1) in
    after_tests (ltb (length s) (p + 5)) (ltb 1 (get_or s p 0)) (has_flag srid_flag code) (ltb (length s) (p + 9)) p (wkb_header little code (p + 9)) (wkb_header little code (p + 5)) (omega arith) (omega arith)

module _ (s : List ℕ) where
  -- what was read from p on ends in the blob
  unfoldable pub Within : {A : Type 0} → ℕ → Parsed A → Type 0
  Within p (ok x end) = (p ≤ end) × (end ≤ length s)
  Within p (refused k) = Unit

  needed : {A : Type 0} (x : A) (p k : ℕ) (b : Bool) → ltb (length s) (p + k) ≡ b → Within p (cond b (refused BytesMissing) (ok x (p + k)))
  unfolding Within
  needed x p k true e = tt
  needed x p k false e = (omega arith, ltb-false (length s) (p + k) e)

  coordinates_within : (h : WkbHeader) (c p : ℕ) → Within p (coordinates_at h s c p)
  unfolding coordinates_at
  coordinates_within h c p = needed (coordinates_from h s c p) p (c * stride h) (ltb (length s) (p + c * stride h)) refl

  -- what ends after q ends after an earlier p
  earlier : {A : Type 0} (p q : ℕ) → p ≤ q → (r : Parsed A) → Within q r → Within p r
  unfolding Within
  earlier p q h (ok x end) i = (omega (arith, h, i.0), i.1)
  earlier p q h (refused k) i = tt

  count_after : {A : Type 0} (f : ℕ → ℕ → Parsed A) (each : (c q : ℕ) → q ≤ length s → Within q (f c q)) (c p : ℕ) → Within (p + 4) (cond (ltb (length s) (p + 4)) (refused BytesMissing) (f c (p + 4)))
  unfolding Within
  count_after f each c p = go (ltb (length s) (p + 4)) refl
    where
      go : (b : Bool) → ltb (length s) (p + 4) ≡ b → Within (p + 4) (cond b (refused BytesMissing) (f c (p + 4)))
      go true e = tt
      go false e = each c (p + 4) (ltb-false (length s) (p + 4) e)

  line_after : (h : WkbHeader) (p : ℕ) → Within (p + 4) (line_at h s p)
  unfolding line_at
  line_after h p = count_after (coordinates_at h s) (λ c q l. coordinates_within h c q) (u32_at h.little s p) p

  pub line_within : (h : WkbHeader) (p : ℕ) → Within p (line_at h s p)
  line_within h p = earlier p (p + 4) (omega arith) (line_at h s p) (line_after h p)

  times_within : {A B : Type 0} (cons : A → B → B) (nil : B) (f : ℕ → Parsed A) (each : (q : ℕ) → Within q (f q)) (c p : ℕ) → p ≤ length s → Within p (times cons nil f c p)
  unfolding times Within
  times_within cons nil f each zero p h = (omega arith, h)
  times_within {A} {B} cons nil f each (suc c) p h = go (times_within cons nil f each c) (f p) (each p)
    where
      join : (x : A) (next : ℕ) (r : Parsed B) → p ≤ next → Within next r → Within p (cons_parsed cons x r)
      join x next (refused k) i j = tt
      join x next (ok y end) i j = (omega (arith, i, j.0), j.1)

      go : ((q : ℕ) → q ≤ length s → Within q (times cons nil f c q)) → (r : Parsed A) → Within p r → Within p (and_then cons r (times cons nil f c))
      go rest (refused k) i = tt
      go rest (ok x next) i = join x next (times cons nil f c next) i.0 (rest next i.1)

  list_after : {A B : Type 0} (cons : A → B → B) (nil : B) (f : ℕ → Parsed A) (each : (q : ℕ) → Within q (f q)) (little : Bool) (p : ℕ) → Within (p + 4) (list_at cons nil f little s p)
  unfolding list_at
  list_after cons nil f each little p = count_after (times cons nil f) (times_within cons nil f each) (u32_at little s p) p

  pub list_within : {A B : Type 0} (cons : A → B → B) (nil : B) (f : ℕ → Parsed A) (each : (q : ℕ) → Within q (f q)) (little : Bool) (p : ℕ) → Within p (list_at cons nil f little s p)
  list_within cons nil f each little p = earlier p (p + 4) (omega arith) (list_at cons nil f little s p) (list_after cons nil f each little p)

  map_within : {A B : Type 0} (c : A → B) (p : ℕ) (r : Parsed A) → Within p r → Within p (map_parsed c r)
  unfolding Within map_parsed
  map_within c p (ok x end) i = i
  map_within c p (refused k) i = tt

  point_after : (h : WkbHeader) (p : ℕ) → Within (p + 4) (point_at h s p)
  unfolding point_at Within
  point_after h p = go (ltb (length s) (p + stride h)) refl
    where
      go : (b : Bool) → ltb (length s) (p + stride h) ≡ b → Within (p + 4) (cond b (refused BytesMissing) (ok (coordinate_at h s p) (p + stride h)))
      go true e = tt
      go false e = (omega (arith, wide h.z h.m), ltb-false (length s) (p + stride h) e)

  content_after : (k : Option GeometryClass) (f : ℕ → Parsed Geometry) (each : (q : ℕ) → Within q (f q)) (h : WkbHeader) → Within (h.body + 4) (content_of k f s h)
  unfolding content_of Within
  content_after (Some class.Point) f each h = map_within point (h.body + 4) (point_at h s h.body) (point_after h h.body)
  content_after (Some class.Line) f each h = map_within line (h.body + 4) (line_at h s h.body) (line_after h h.body)
  content_after (Some class.Polygon) f each h = map_within rings (h.body + 4) (rings_at h s h.body) (list_after ◌∷◌ [] (line_at h s) (line_within h) h.little h.body)
  content_after (Some class.Collection) f each h = map_within members (h.body + 4) (members_at f h.little s h.body) (list_after one_more no_members f each h.little h.body)
  content_after None f each h = tt

  -- a geometry is at least its header and a count
  Ends : ℕ → Parsed Geometry → Type 0
  Ends p (ok g end) = (p + 9 ≤ end) × (end ≤ length s)
  Ends p (refused k) = Unit

  geometry_ends : (f : ℕ → Parsed Geometry) (each : (q : ℕ) → Within q (f q)) (p : ℕ) (r : ParsedHeader) → AfterFive p r → Ends p (geometry_from f s r)
  unfolding geometry_from Ends AfterFive Within map_parsed
  geometry_ends f each p (Err k) i = tt
  geometry_ends f each p (Ok h) i = go (content_of (geometry_class_of h.kind) f s h) (content_after (geometry_class_of h.kind) f each h)
    where
      go : (r : Parsed Content) → Within (h.body + 4) r → Ends p (map_parsed (geometry h.kind h.z h.m) r)
      go (ok x end) j = (omega (arith, i, j.0), j.1)
      go (refused k) j = tt

  within : (p : ℕ) (r : Parsed Geometry) → Ends p r → Within p r
  unfolding Ends Within
  within p (ok g end) i = (omega (arith, i.0), i.1)
  within p (refused k) i = tt

  walk_ends : (levels p : ℕ) → Ends p (walk_of levels s p)
  unfolding walk_of Ends
  walk_ends zero p = tt
  walk_ends (suc levels) p = geometry_ends (walk_of levels s) (λ q. within q (walk_of levels s q) (walk_ends levels q)) p (header_at s p) (header_after s p)

  pub walk_end_lem : (levels at : ℕ) (g : Geometry) (end : ℕ) → walk_of levels s at ≡ ok g end → (at + 9 ≤ end) × (end ≤ length s)
  unfolding Ends
  walk_end_lem levels at g end e = subst (Ends at) e (walk_ends levels at)

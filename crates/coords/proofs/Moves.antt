-- A geometry is read alike wherever its bytes stand: what is read from n bytes is read from the same n bytes at another position of another blob. Assumes nothing.
use mathlib.Core.Path.{◌≡◌, refl, sym, ap, subst, ◌∙◌}
use mathlib.Core.Bool.{Bool, true, false, cond}
use mathlib.Core.List.{List, [], ◌∷◌}
use Prim.Native.Nat.{ℕ, zero, suc, ◌+◌, ◌*◌, ◌-◌, ◌<◌, ◌≤◌}
use native.Mathlib.Nat.{suc-mul}
use native.Mathlib.Omega.{arith}
use lib.Dec.{ltb, eqb}
use lib.ListN.{length, get_or}
use borrow.Author.Tests.{le-ltb}
use Rattle.fields.specs.Fields.{u32_at, u64_at}
use Rattle.std.specs.Prelude.{Option, None, Some, Ok, Err}
use Rattle.refusals.specs.declared.Reason.TheVariants.{BytesMissing, ByteOrder}
use Rattle.coords.specs.declared.GeometryClass.{GeometryClass}
use Rattle.coords.specs.declared.GeometryClass.TheVariants as class
use Rattle.coords.proofs.Laws.{wide}
use Rattle.coords.specs.declared.WkbHeader.{WkbHeader}
use Rattle.fields.specs.TypeCode.{has_flag, srid_flag}
use Rattle.coords.specs.Walk.{ParsedHeader, Coordinate, Geometry, geometry, Content, point, line, rings, members, no_members, one_more, Parsed, ok, refused, map_parsed, stride_of, stride, ordinate_if, m_offset, coordinate_at, coordinates_from, point_at, coordinates_at, line_at, cons_parsed, and_then, times, list_at, rings_at, members_at, geometry_class_of, content_of, wkb_header, header_of_type, header_at, geometry_from, walk_of}

-- n bytes at a of s stand at a' of s' too
module _ (s s' : List ℕ) (a a' n : ℕ) (same : (i : ℕ) → i < n → get_or s (a + i) 0 ≡ get_or s' (a' + i) 0) (room : a' + n ≤ length s') where
  abbrev there : ℕ → ℕ
  there p = a' + (p - a)

  on : (p k : ℕ) → a ≤ p → there (p + k) ≡ there p + k
  on p k h = omega arith

  fits : (p k : ℕ) → a ≤ p → p + k ≤ a + n → ltb (length s') (there p + k) ≡ false
  fits p k h l = le-ltb (length s') (there p + k) (omega (arith, room))

  byte : (p : ℕ) → a ≤ p → p < a + n → get_or s p 0 ≡ get_or s' (there p) 0
  byte p h l =
      let e : a + (p - a) ≡ p = omega arith in
      subst (λ (q : ℕ). get_or s q 0 ≡ get_or s' (there p) 0) e (same (p - a) (omega arith))

  byte_on : (p k : ℕ) → a ≤ p → p + k < a + n → get_or s (p + k) 0 ≡ get_or s' (there p + k) 0
  byte_on p k h l = byte (p + k) (omega arith) l ∙ ap (λ (q : ℕ). get_or s' q 0) (on p k h)

  u32_moves : (little : Bool) (p : ℕ) → a ≤ p → p + 4 ≤ a + n → u32_at little s p ≡ u32_at little s' (there p)
  unfolding u32_at
  u32_moves true p h l = rw (byte p h (omega arith), byte_on p 1 h (omega arith), byte_on p 2 h (omega arith), byte_on p 3 h (omega arith))
  u32_moves false p h l = rw (byte p h (omega arith), byte_on p 1 h (omega arith), byte_on p 2 h (omega arith), byte_on p 3 h (omega arith))

  u32_on : (little : Bool) (p k : ℕ) → a ≤ p → p + k + 4 ≤ a + n → u32_at little s (p + k) ≡ u32_at little s' (there p + k)
  u32_on little p k h l = u32_moves little (p + k) (omega arith) l ∙ ap (u32_at little s') (on p k h)

  u64_moves : (little : Bool) (p : ℕ) → a ≤ p → p + 8 ≤ a + n → u64_at little s p ≡ u64_at little s' (there p)
  unfolding u64_at
  u64_moves true p h l = rw (u32_moves true p h (omega arith), u32_on true p 4 h (omega arith))
  u64_moves false p h l = rw (u32_moves false p h (omega arith), u32_on false p 4 h (omega arith))

  u64_on : (little : Bool) (p k : ℕ) → a ≤ p → p + k + 8 ≤ a + n → u64_at little s (p + k) ≡ u64_at little s' (there p + k)
  u64_on little p k h l = u64_moves little (p + k) (omega arith) l ∙ ap (u64_at little s') (on p k h)

  abbrev moved : WkbHeader → WkbHeader
  moved h = record { little = h.little; z = h.z; m = h.m; kind = h.kind; body = there h.body }

  z_moves : (z m little : Bool) (p : ℕ) → a ≤ p → p + stride_of z m ≤ a + n → ordinate_if z little s (p + 16) ≡ ordinate_if z little s' (there p + 16)
  unfolding ordinate_if stride_of
  z_moves true true little p h l = u64_on little p 16 h (omega arith)
  z_moves true false little p h l = u64_on little p 16 h (omega arith)
  z_moves false m little p h l = refl

  m_moves : (z m little : Bool) (p : ℕ) → a ≤ p → p + stride_of z m ≤ a + n → ordinate_if m little s (p + m_offset z) ≡ ordinate_if m little s' (there p + m_offset z)
  unfolding ordinate_if stride_of m_offset
  m_moves true true little p h l = u64_on little p 24 h (omega arith)
  m_moves false true little p h l = u64_on little p 16 h (omega arith)
  m_moves z false little p h l = refl

  coordinate_moves : (h : WkbHeader) (p : ℕ) → a ≤ p → p + stride h ≤ a + n → coordinate_at h s p ≡ coordinate_at (moved h) s' (there p)
  unfolding coordinate_at
  coordinate_moves h p g l =
      rw (
        u64_moves h.little p g (omega (arith, wide h.z h.m, l)),
        u64_on h.little p 8 g (omega (arith, wide h.z h.m, l)),
        z_moves h.z h.m h.little p g l,
        m_moves h.z h.m h.little p g l,
      )

  coordinates_move : (h : WkbHeader) (c p : ℕ) → a ≤ p → p + c * stride h ≤ a + n → coordinates_from h s c p ≡ coordinates_from (moved h) s' c (there p)
  unfolding coordinates_from
  coordinates_move h zero p g l = refl
  coordinates_move h (suc c) p g l =
      let e = suc-mul c (stride h) in
      let rest : coordinates_from h s c (p + stride h) ≡ coordinates_from (moved h) s' c (there (p + stride h)) = coordinates_move h c (p + stride h) (omega arith) (omega (arith, e, l)) in
      ap (λ (x : Coordinate). x ∷ coordinates_from h s c (p + stride h)) (coordinate_moves h p g (omega (arith, e, l)))
      ∙ (ap (λ (xs : List Coordinate). coordinate_at (moved h) s' (there p) ∷ xs) rest
      ∙ ap (λ (q : ℕ). coordinate_at (moved h) s' (there p) ∷ coordinates_from (moved h) s' c q) (on p (stride h) g))

  -- r was read at p of s; w reads the same in s' if r lies in the n bytes
  Carries : {A : Type 0} → ℕ → Parsed A → Parsed A → Type 0
  Carries p (ok x end) w = (p ≤ end) × (end ≤ a + n → w ≡ ok x (there end))
  Carries p (refused k) w = Unit

  needed : {A : Type 0} (x x' : A) (p k : ℕ) (b : Bool) → a ≤ p → (p + k ≤ a + n → x ≡ x') → Carries p (cond b (refused BytesMissing) (ok x (p + k))) (cond (ltb (length s') (there p + k)) (refused BytesMissing) (ok x' (there p + k)))
  unfolding Carries
  needed x x' p k true h e = tt
  needed x x' p k false h e =
      (omega arith, λ l. ap (λ (b : Bool). cond b (refused BytesMissing) (ok x' (there p + k))) (fits p k h l) ∙ (ap (λ y. ok y (there p + k)) (sym (e l)) ∙ ap (ok x) (sym (on p k h))))

  point_carries : (h : WkbHeader) (p : ℕ) → a ≤ p → Carries p (point_at h s p) (point_at (moved h) s' (there p))
  unfolding point_at
  point_carries h p g = needed (coordinate_at h s p) (coordinate_at (moved h) s' (there p)) p (stride h) (ltb (length s) (p + stride h)) g (coordinate_moves h p g)

  coordinates_carry : (h : WkbHeader) (c p : ℕ) → a ≤ p → Carries p (coordinates_at h s c p) (coordinates_at (moved h) s' c (there p))
  unfolding coordinates_at
  coordinates_carry h c p g = needed (coordinates_from h s c p) (coordinates_from (moved h) s' c (there p)) p (c * stride h) (ltb (length s) (p + c * stride h)) g (coordinates_move h c p g)

  -- a count, and what is read by it
  count_carries : {A : Type 0} (little : Bool) (f f' : ℕ → ℕ → Parsed A) (each : (c q : ℕ) → a ≤ q → Carries q (f c q) (f' c (there q))) (p : ℕ) → a ≤ p → Carries p (cond (ltb (length s) (p + 4)) (refused BytesMissing) (f (u32_at little s p) (p + 4))) (cond (ltb (length s') (there p + 4)) (refused BytesMissing) (f' (u32_at little s' (there p)) (there p + 4)))
  unfolding Carries
  count_carries {A} little f f' each p h = go (ltb (length s) (p + 4)) (f (u32_at little s p) (p + 4)) (each (u32_at little s p) (p + 4) (omega arith))
    where
      go : (b : Bool) (r : Parsed A) → Carries (p + 4) r (f' (u32_at little s p) (there (p + 4))) → Carries p (cond b (refused BytesMissing) r) (cond (ltb (length s') (there p + 4)) (refused BytesMissing) (f' (u32_at little s' (there p)) (there p + 4)))
      go true r i = tt
      go false (refused k) i = tt
      go false (ok x end) i = (
        omega (arith, i.0),
        λ l.
            let in-it : p + 4 ≤ a + n = omega (arith, i.0, l) in
            ap (λ (b : Bool). cond b (refused BytesMissing) (f' (u32_at little s' (there p)) (there p + 4))) (fits p 4 h in-it)
            ∙ (ap (λ (c : ℕ). f' c (there p + 4)) (sym (u32_moves little p h in-it))
            ∙ (ap (f' (u32_at little s p)) (sym (on p 4 h)) ∙ i.1 l)),
      )

  line_carries : (h : WkbHeader) (p : ℕ) → a ≤ p → Carries p (line_at h s p) (line_at (moved h) s' (there p))
  unfolding line_at
  line_carries h p g = count_carries h.little (coordinates_at h s) (coordinates_at (moved h) s') (coordinates_carry h) p g

  times_carries : {A B : Type 0} (cons : A → B → B) (nil : B) (f f' : ℕ → Parsed A) (each : (q : ℕ) → a ≤ q → Carries q (f q) (f' (there q))) (c p : ℕ) → a ≤ p → Carries p (times cons nil f c p) (times cons nil f' c (there p))
  unfolding times Carries
  times_carries cons nil f f' each zero p h = (omega arith, λ l. refl)
  times_carries {A} {B} cons nil f f' each (suc c) p h = go (times_carries cons nil f f' each c) (f p) (each p h)
    where
      join : (x : A) (next : ℕ) (r : Parsed B) → Carries p (ok x next) (f' (there p)) → Carries next r (times cons nil f' c (there next)) → Carries p (cons_parsed cons x r) (and_then cons (f' (there p)) (times cons nil f' c))
      join x next (refused k) i j = tt
      join x next (ok y end) i j =
          (omega (arith, i.0, j.0), λ l. ap (λ (r : Parsed A). and_then cons r (times cons nil f' c)) (i.1 (omega (arith, j.0, l))) ∙ ap (cons_parsed cons x) (j.1 l))

      go : ((q : ℕ) → a ≤ q → Carries q (times cons nil f c q) (times cons nil f' c (there q))) → (r : Parsed A) → Carries p r (f' (there p)) → Carries p (and_then cons r (times cons nil f c)) (and_then cons (f' (there p)) (times cons nil f' c))
      go rest (refused k) i = tt
      go rest (ok x next) i = join x next (times cons nil f c next) i (rest next (omega (arith, i.0, h)))

  list_carries : {A B : Type 0} (cons : A → B → B) (nil : B) (f f' : ℕ → Parsed A) (each : (q : ℕ) → a ≤ q → Carries q (f q) (f' (there q))) (little : Bool) (p : ℕ) → a ≤ p → Carries p (list_at cons nil f little s p) (list_at cons nil f' little s' (there p))
  unfolding list_at
  list_carries cons nil f f' each little p h = count_carries little (times cons nil f) (times cons nil f') (times_carries cons nil f f' each) p h

  map_carries : {A B : Type 0} (c : A → B) (p : ℕ) (r w : Parsed A) → Carries p r w → Carries p (map_parsed c r) (map_parsed c w)
  unfolding Carries map_parsed
  map_carries c p (ok x end) w i = (i.0, λ l. ap (map_parsed c) (i.1 l))
  map_carries c p (refused k) w i = tt

  content_carries : (k : Option GeometryClass) (f f' : ℕ → Parsed Geometry) (each : (q : ℕ) → a ≤ q → Carries q (f q) (f' (there q))) (h : WkbHeader) → a ≤ h.body → Carries h.body (content_of k f s h) (content_of k f' s' (moved h))
  unfolding content_of Carries
  content_carries (Some class.Point) f f' each h g = map_carries point h.body (point_at h s h.body) (point_at (moved h) s' (there h.body)) (point_carries h h.body g)
  content_carries (Some class.Line) f f' each h g = map_carries line h.body (line_at h s h.body) (line_at (moved h) s' (there h.body)) (line_carries h h.body g)
  content_carries (Some class.Polygon) f f' each h g =
      map_carries rings h.body (rings_at h s h.body) (rings_at (moved h) s' (there h.body)) (list_carries ◌∷◌ [] (line_at h s) (line_at (moved h) s') (line_carries h) h.little h.body g)
  content_carries (Some class.Collection) f f' each h g =
      map_carries members h.body (members_at f h.little s h.body) (members_at f' h.little s' (there h.body)) (list_carries one_more no_members f f' each h.little h.body g)
  content_carries None f f' each h g = tt

  HeaderCarries : ℕ → ParsedHeader → ParsedHeader → Type 0
  HeaderCarries p (Ok h) w = (p ≤ h.body) × (h.body ≤ a + n → w ≡ Ok (moved h))
  HeaderCarries p (Err k) w = Unit

  -- a header's first five bytes lie in the n bytes
  header_there : (p : ℕ) → a ≤ p → p + 5 ≤ a + n → header_at s' (there p) ≡ cond (ltb 1 (get_or s p 0)) (Err ByteOrder) (header_of_type s' (eqb (get_or s p 0) 1) (u32_at (eqb (get_or s p 0) 1) s (p + 1)) (there p))
  unfolding header_at
  header_there p h l = rw (fits p 5 h l, ← byte p h (omega arith), ← u32_on (eqb (get_or s p 0) 1) p 1 h (omega arith))

  header_carries : (p : ℕ) → a ≤ p → HeaderCarries p (header_at s p) (header_at s' (there p))
  unfolding header_at header_of_type HeaderCarries
  header_carries p h = go (ltb (length s) (p + 5)) (ltb 1 (get_or s p 0)) (has_flag srid_flag (u32_at (eqb (get_or s p 0) 1) s (p + 1))) (ltb (length s) (p + 9)) refl refl
    where
      little : Bool
      little = eqb (get_or s p 0) 1

      code : ℕ
      code = u32_at (eqb (get_or s p 0) 1) s (p + 1)

      go : (b c d e : Bool) → ltb 1 (get_or s p 0) ≡ c → has_flag srid_flag (u32_at (eqb (get_or s p 0) 1) s (p + 1)) ≡ d → HeaderCarries p (cond b (Err BytesMissing) (cond c (Err ByteOrder) (cond d (cond e (Err BytesMissing) (Ok (wkb_header (eqb (get_or s p 0) 1) (u32_at (eqb (get_or s p 0) 1) s (p + 1)) (p + 9)))) (Ok (wkb_header (eqb (get_or s p 0) 1) (u32_at (eqb (get_or s p 0) 1) s (p + 1)) (p + 5)))))) (header_at s' (there p))
      go true c d e p2 p3 = tt
      go false true d e p2 p3 = tt
      go false false true true p2 p3 = tt
      go false false true false p2 p3 = (omega arith, λ l. header_there p h (omega (arith, l)) ∙ rw (p2, p3, fits p 9 h l, on p 9 h))
      go false false false e p2 p3 = (omega arith, λ l. header_there p h l ∙ rw (p2, p3, on p 5 h))

  geometry_carries : (f f' : ℕ → Parsed Geometry) (each : (q : ℕ) → a ≤ q → Carries q (f q) (f' (there q))) (p : ℕ) (r w : ParsedHeader) → a ≤ p → HeaderCarries p r w → Carries p (geometry_from f s r) (geometry_from f' s' w)
  unfolding geometry_from Carries HeaderCarries map_parsed
  geometry_carries f f' each p (Err k) w h i = tt
  geometry_carries f f' each p (Ok g) w h i = go (content_of (geometry_class_of g.kind) f s g) (content_carries (geometry_class_of g.kind) f f' each g (omega (arith, i.0, h)))
    where
      go : (r : Parsed Content) → Carries g.body r (content_of (geometry_class_of g.kind) f' s' (moved g)) → Carries p (map_parsed (geometry g.kind g.z g.m) r) (geometry_from f' s' w)
      go (refused k) j = tt
      go (ok x end) j =
          (omega (arith, i.0, j.0), λ l. ap (geometry_from f' s') (i.1 (omega (arith, j.0, l))) ∙ ap (map_parsed (geometry g.kind g.z g.m)) (j.1 l))

  walk_carries : (levels p : ℕ) → a ≤ p → Carries p (walk_of levels s p) (walk_of levels s' (there p))
  unfolding walk_of Carries
  walk_carries zero p h = tt
  walk_carries (suc levels) p h = geometry_carries (walk_of levels s) (walk_of levels s') (walk_carries levels) p (header_at s p) (header_at s' (there p)) h (header_carries p h)

  pub walk_moves : (levels : ℕ) (g : Geometry) → walk_of levels s a ≡ ok g (a + n) → walk_of levels s' a' ≡ ok g (a' + n)
  unfolding Carries
  walk_moves levels g e =
      let i = subst (λ (r : Parsed Geometry). Carries a r (walk_of levels s' (there a))) e (walk_carries levels a (omega arith)) in
      let start : there a ≡ a' = omega arith in
      let end : there (a + n) ≡ a' + n = omega arith in
      ap (walk_of levels s') (sym start) ∙ (i.1 (omega arith) ∙ ap (ok g) end)

-- The levels that a walk needs: what is read with some levels left is read with any number above the deepest level, and with no fewer. Assumes nothing.
use mathlib.Core.Path.{◌≡◌, refl, ap, subst, ◌∙◌}
use mathlib.Core.Bool.{Bool, true, false, cond}
use mathlib.Core.List.{List}
use Prim.Native.Nat.{ℕ, zero, suc, ◌+◌, ◌<◌, ◌≤◌}
use native.Mathlib.Nat.{max-le, le-max_left, le-max_right}
use native.Mathlib.Omega.{arith}
use lib.Dec.{ltb}
use lib.ListN.{length}
use Rattle.fields.specs.Fields.{u32_at}
use Rattle.std.specs.Prelude.{Option, None, Some, Ok, Err}
use Rattle.refusals.specs.declared.Reason.TheVariants.{BytesMissing, UnknownKind, TooManyLevels}
use Rattle.coords.specs.declared.GeometryClass.{GeometryClass}
use Rattle.coords.specs.declared.GeometryClass.TheVariants as class
use Rattle.coords.specs.declared.WkbHeader.{WkbHeader}
use Rattle.coords.specs.Walk.{ParsedHeader, Geometry, geometry, Content, point, line, rings, members, Members, no_members, one_more, Parsed, ok, refused, map_parsed, cons_parsed, and_then, times, list_at, point_at, line_at, rings_at, members_at, geometry_class_of, content_of, header_at, geometry_from, walk_of}
use Rattle.coords.specs.Levels.{deepest_level, content_level, members_level}

-- what r says once `level` of what was read is at most n; w reads the same then
Reads : {A : Type 0} → (A → ℕ) → ℕ → Parsed A → Parsed A → Type 0
Reads level n (ok a end) w = (level a ≤ n) → w ≡ ok a end
Reads level n (refused k) w = Unit

-- the level of what was read is at most n
AtMost : {A : Type 0} → (A → ℕ) → ℕ → Parsed A → Type 0
AtMost level n (ok a end) = level a ≤ n
AtMost level n (refused k) = Unit

geometry_level : Geometry → ℕ
geometry_level g = suc (deepest_level g)

module _ (f : ℕ → Parsed Geometry) (n : ℕ) (each : (at : ℕ) → AtMost geometry_level n (f at)) where
  members_at_most : (count at : ℕ) → AtMost members_level n (times one_more no_members f count at)
  unfolding times AtMost members_level geometry_level
  members_at_most zero at = omega arith
  members_at_most (suc count) at = go (members_at_most count) (f at) (each at)
    where
      join : (g : Geometry) (r : Parsed Members) → suc (deepest_level g) ≤ n → AtMost members_level n r → AtMost members_level n (cons_parsed one_more g r)
      join g (refused k) h i = tt
      join g (ok gs end) h i = max-le h i

      go : ((i : ℕ) → AtMost members_level n (times one_more no_members f count i)) → (r : Parsed Geometry) → AtMost geometry_level n r → AtMost members_level n (and_then one_more r (times one_more no_members f count))
      go rest (refused k) h = tt
      go rest (ok g next) h = join g (times one_more no_members f count next) h (rest next)

at_most_needed : {A : Type 0} (level : A → ℕ) (n : ℕ) (b : Bool) (r : Parsed A) → AtMost level n r → AtMost level n (cond b (refused BytesMissing) r)
unfolding AtMost
at_most_needed level n true r h = tt
at_most_needed level n false r h = h

at_most_map : {A B : Type 0} (level : A → ℕ) (level' : B → ℕ) (n n' : ℕ) (c : A → B) → ((a : A) → level a ≤ n → level' (c a) ≤ n') → (r : Parsed A) → AtMost level n r → AtMost level' n' (map_parsed c r)
unfolding AtMost map_parsed
at_most_map level level' n n' c e (ok a end) h = e a h
at_most_map level level' n n' c e (refused k) h = tt

flat_content : {A : Type 0} (n : ℕ) (c : A → Content) → ((a : A) → content_level (c a) ≡ 0) → (r : Parsed A) → AtMost content_level n (map_parsed c r)
unfolding AtMost map_parsed
flat_content n c e (ok a end) = omega (arith, e a)
flat_content n c e (refused k) = tt

content_at_most : (k : Option GeometryClass) (f : ℕ → Parsed Geometry) (n : ℕ) (each : (at : ℕ) → AtMost geometry_level n (f at)) (s : List ℕ) (h : WkbHeader) → AtMost content_level n (content_of k f s h)
unfolding content_of AtMost content_level list_at
content_at_most (Some class.Point) f n each s h = flat_content n point (λ a. refl) (point_at h s h.body)
content_at_most (Some class.Line) f n each s h = flat_content n line (λ a. refl) (line_at h s h.body)
content_at_most (Some class.Polygon) f n each s h = flat_content n rings (λ a. refl) (rings_at h s h.body)
content_at_most (Some class.Collection) f n each s h =
    at_most_map members_level content_level n n members (λ a i. i) (members_at f h.little s h.body)
    (at_most_needed members_level n (ltb (length s) (h.body + 4)) (times one_more no_members f (u32_at h.little s h.body) (h.body + 4)) (members_at_most f n each (u32_at h.little s h.body) (h.body + 4)))
content_at_most None f n each s h = tt

geometry_at_most : (f : ℕ → Parsed Geometry) (n : ℕ) (each : (at : ℕ) → AtMost geometry_level n (f at)) (s : List ℕ) (r : ParsedHeader) → AtMost geometry_level (suc n) (geometry_from f s r)
unfolding geometry_from AtMost geometry_level deepest_level
geometry_at_most f n each s (Err k) = tt
geometry_at_most f n each s (Ok h) =
    at_most_map content_level geometry_level n (suc n) (geometry h.kind h.z h.m) (λ a i. omega arith) (content_of (geometry_class_of h.kind) f s h) (content_at_most (geometry_class_of h.kind) f n each s h)

walk_at_most : (levels : ℕ) (s : List ℕ) (at : ℕ) → AtMost geometry_level levels (walk_of levels s at)
unfolding walk_of AtMost
walk_at_most zero s at = tt
walk_at_most (suc levels) s at = geometry_at_most (walk_of levels s) levels (walk_at_most levels s) s (header_at s at)

-- End theorem: the deepest level of what is read lies below the levels left.
pub deepest_below : (levels : ℕ) (s : List ℕ) (at : ℕ) (g : Geometry) (end : ℕ) → walk_of levels s at ≡ ok g end → deepest_level g < levels
unfolding AtMost geometry_level
deepest_below levels s at g end e = let h : suc (deepest_level g) ≤ levels = subst (AtMost geometry_level levels) e (walk_at_most levels s at) in omega arith

module _ (f f' : ℕ → Parsed Geometry) (n : ℕ) (each : (at : ℕ) → Reads geometry_level n (f at) (f' at)) where
  members_read : (count at : ℕ) → Reads members_level n (times one_more no_members f count at) (times one_more no_members f' count at)
  unfolding times Reads members_level geometry_level
  members_read zero at = λ h. refl
  members_read (suc count) at = go (members_read count) (f at) (each at)
    where
      join : (g : Geometry) (next : ℕ) (r : Parsed Members) → Reads geometry_level n (ok g next) (f' at) → Reads members_level n r (times one_more no_members f' count next) → Reads members_level n (cons_parsed one_more g r) (and_then one_more (f' at) (times one_more no_members f' count))
      join g next (refused k) h i = tt
      join g next (ok gs end) h i = λ l.
          let a : suc (deepest_level g) ≤ n = omega (arith, le-max_left (suc (deepest_level g)) (members_level gs), l) in
          let b : members_level gs ≤ n = omega (arith, le-max_right (suc (deepest_level g)) (members_level gs), l) in
          ap (λ (r : Parsed Geometry). and_then one_more r (times one_more no_members f' count)) (h a) ∙ ap (cons_parsed one_more g) (i b)

      go : ((i : ℕ) → Reads members_level n (times one_more no_members f count i) (times one_more no_members f' count i)) → (r : Parsed Geometry) → Reads geometry_level n r (f' at) → Reads members_level n (and_then one_more r (times one_more no_members f count)) (and_then one_more (f' at) (times one_more no_members f' count))
      go rest (refused k) h = tt
      go rest (ok g next) h = join g next (times one_more no_members f count next) h (rest next)

reads_needed : {A : Type 0} (level : A → ℕ) (n : ℕ) (b : Bool) (r w : Parsed A) → Reads level n r w → Reads level n (cond b (refused BytesMissing) r) (cond b (refused BytesMissing) w)
unfolding Reads
reads_needed level n true r w h = tt
reads_needed level n false r w h = h

reads_map : {A B : Type 0} (level : A → ℕ) (level' : B → ℕ) (n n' : ℕ) (c : A → B) → ((a : A) → level' (c a) ≤ n' → level a ≤ n) → (r w : Parsed A) → Reads level n r w → Reads level' n' (map_parsed c r) (map_parsed c w)
unfolding Reads map_parsed
reads_map level level' n n' c e (ok a end) w h = λ l. ap (map_parsed c) (h (e a l))
reads_map level level' n n' c e (refused k) w h = tt

reads_same : {A : Type 0} (level : A → ℕ) (n : ℕ) (r : Parsed A) → Reads level n r r
unfolding Reads
reads_same level n (ok a end) = λ l. refl
reads_same level n (refused k) = tt

content_reads : (k : Option GeometryClass) (f f' : ℕ → Parsed Geometry) (n : ℕ) (each : (at : ℕ) → Reads geometry_level n (f at) (f' at)) (s : List ℕ) (h : WkbHeader) → Reads content_level n (content_of k f s h) (content_of k f' s h)
unfolding content_of content_level list_at
content_reads (Some class.Point) f f' n each s h = reads_same content_level n (map_parsed point (point_at h s h.body))
content_reads (Some class.Line) f f' n each s h = reads_same content_level n (map_parsed line (line_at h s h.body))
content_reads (Some class.Polygon) f f' n each s h = reads_same content_level n (map_parsed rings (rings_at h s h.body))
content_reads (Some class.Collection) f f' n each s h =
    reads_map members_level content_level n n members (λ a i. i) (members_at f h.little s h.body) (members_at f' h.little s h.body)
    (reads_needed members_level n (ltb (length s) (h.body + 4)) (times one_more no_members f (u32_at h.little s h.body) (h.body + 4)) (times one_more no_members f' (u32_at h.little s h.body) (h.body + 4)) (members_read f f' n each (u32_at h.little s h.body) (h.body + 4)))
content_reads None f f' n each s h = reads_same content_level n (refused UnknownKind)

geometry_reads : (f f' : ℕ → Parsed Geometry) (n : ℕ) (each : (at : ℕ) → Reads geometry_level n (f at) (f' at)) (s : List ℕ) (r : ParsedHeader) → Reads geometry_level (suc n) (geometry_from f s r) (geometry_from f' s r)
unfolding geometry_from geometry_level deepest_level Reads
geometry_reads f f' n each s (Err k) = tt
geometry_reads f f' n each s (Ok h) =
    reads_map content_level geometry_level n (suc n) (geometry h.kind h.z h.m) (λ a i. omega arith) (content_of (geometry_class_of h.kind) f s h) (content_of (geometry_class_of h.kind) f' s h) (content_reads (geometry_class_of h.kind) f f' n each s h)

no_level : (r w : Parsed Geometry) → Reads geometry_level 0 r w
unfolding Reads geometry_level
no_level (ok g end) w = λ l. absurd (omega arith)
no_level (refused k) w = tt

walk_reads : (levels n : ℕ) (s : List ℕ) (at : ℕ) → Reads geometry_level n (walk_of levels s at) (walk_of n s at)
unfolding walk_of Reads
walk_reads zero n s at = tt
walk_reads (suc levels) zero s at = no_level (walk_of (suc levels) s at) (refused TooManyLevels)
walk_reads (suc levels) (suc n) s at = geometry_reads (walk_of levels s) (walk_of n s) n (walk_reads levels n s) s (header_at s at)

-- End theorem: what is read is read with any levels above its deepest.
pub walk_with_levels : (levels n : ℕ) (s : List ℕ) (at : ℕ) (g : Geometry) (end : ℕ) → walk_of levels s at ≡ ok g end → deepest_level g < n → walk_of n s at ≡ ok g end
unfolding Reads geometry_level
walk_with_levels levels n s at g end e h = subst (λ (r : Parsed Geometry). Reads geometry_level n r (walk_of n s at)) e (walk_reads levels n s at) (omega arith)

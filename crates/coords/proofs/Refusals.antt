-- The walk refuses with 9, 10, 11 or 12 alone, so its checks give exactly its refusal. Assumes nothing.
use mathlib.Core.Path.{◌≡◌, refl, sym, ap, subst, ◌∙◌}
use mathlib.Core.Logic.{◌↔◌}
use mathlib.Core.Bool.{Bool, true, false, cond, true≢false}
use mathlib.Core.List.{List, [], ◌∷◌}
use Prim.Native.Nat.{ℕ, zero, suc, ◌+◌, ◌*◌, ◌≤◌}
use native.Mathlib.Omega.{arith}
use lib.Dec.{ltb, eqb}
use lib.ListN.{length, get_or}
use borrow.Author.Tests.{eqb-true, eqb-false, eq-eqb}
use Rattle.refusals.specs.Checks.{first_of}
use Rattle.fields.specs.Fields.{u32_at}
use Rattle.std.specs.Prelude.{Option, None, Some, Ok, Err}
use Rattle.std.proofs.lemmas.Option.{none-some}
use Rattle.refusals.specs.declared.Reason.{Reason}
use Rattle.refusals.specs.Table.{number_of}
use Rattle.refusals.proofs.Table.{same_reason}
use Rattle.refusals.specs.declared.Reason.TheVariants.{BytesMissing, ByteOrder, UnknownKind, TooManyLevels}
use Rattle.coords.specs.declared.GeometryClass.{GeometryClass}
use Rattle.coords.specs.declared.GeometryClass.TheVariants as class
use Rattle.coords.specs.declared.WkbHeader.{WkbHeader}
use Rattle.fields.specs.TypeCode.{has_flag, srid_flag}
use Rattle.coords.specs.Walk.{ParsedHeader, Geometry, geometry, point, line, rings, members, no_members, one_more, Parsed, ok, refused, map_parsed, cons_parsed, and_then, times, list_at, stride, coordinate_at, coordinates_from, point_at, coordinates_at, line_at, rings_at, members_at, geometry_class_of, content_of, wkb_header, header_of_type, header_at, geometry_from, walk_of, all_levels}
use Rattle.coords.specs.Refusals.{refused_with, is_accepted, walk_checks}

-- what holds of the reason of every refusal
module _ (P : Reason → Type 0) where
  unfoldable pub Numbered : {A : Type 0} → Parsed A → Type 0
  Numbered (ok a end) = Unit
  Numbered (refused k) = P k

  unfoldable pub HeaderNumbered : ParsedHeader → Type 0
  HeaderNumbered (Ok h) = Unit
  HeaderNumbered (Err k) = P k

  numbered_map : {A B : Type 0} (f : A → B) (r : Parsed A) → Numbered r → Numbered (map_parsed f r)
  unfolding Numbered map_parsed
  numbered_map f (ok a end) h = tt
  numbered_map f (refused k) h = h

-- coordinates, lines and lists of things refuse for missing bytes, or as the things do
module _ (P : Reason → Type 0) (nine : P BytesMissing) where
  pub numbered_needed : {A : Type 0} (b : Bool) (r : Parsed A) → Numbered P r → Numbered P (cond b (refused BytesMissing) r)
  unfolding Numbered
  numbered_needed true r h = nine
  numbered_needed false r h = h

  numbered_read : {A : Type 0} (b : Bool) (a : A) (end : ℕ) → Numbered P (cond b (refused BytesMissing) (ok a end))
  unfolding Numbered
  numbered_read b a end = numbered_needed b (ok a end) tt

  numbered_coordinates : (h : WkbHeader) (s : List ℕ) (n at : ℕ) → Numbered P (coordinates_at h s n at)
  unfolding coordinates_at
  numbered_coordinates h s n at = numbered_read (ltb (length s) (at + n * stride h)) (coordinates_from h s n at) (at + n * stride h)

  pub numbered_line : (h : WkbHeader) (s : List ℕ) (at : ℕ) → Numbered P (line_at h s at)
  unfolding line_at
  numbered_line h s at = numbered_needed (ltb (length s) (at + 4)) (coordinates_at h s (u32_at h.little s at) (at + 4)) (numbered_coordinates h s (u32_at h.little s at) (at + 4))

  numbered_point : (h : WkbHeader) (s : List ℕ) (at : ℕ) → Numbered P (point_at h s at)
  unfolding point_at
  numbered_point h s at = numbered_read (ltb (length s) (at + stride h)) (coordinate_at h s at) (at + stride h)

  module _ {A B : Type 0} (cons : A → B → B) (nil : B) (f : ℕ → Parsed A) (each : (at : ℕ) → Numbered P (f at)) where
    numbered_times : (n at : ℕ) → Numbered P (times cons nil f n at)
    unfolding times Numbered
    numbered_times zero at = tt
    numbered_times (suc n) at = go (numbered_times n) (f at) (each at)
      where
        join : (a : A) (r : Parsed B) → Numbered P r → Numbered P (cons_parsed cons a r)
        join a (ok b end) h = tt
        join a (refused k) h = h

        go : ((i : ℕ) → Numbered P (times cons nil f n i)) → (r : Parsed A) → Numbered P r → Numbered P (and_then cons r (times cons nil f n))
        go rest (ok a next) h = join a (times cons nil f n next) (rest next)
        go rest (refused k) h = h

    pub numbered_list : (little : Bool) (s : List ℕ) (at : ℕ) → Numbered P (list_at cons nil f little s at)
    unfolding list_at
    numbered_list little s at = numbered_needed (ltb (length s) (at + 4)) (times cons nil f (u32_at little s at) (at + 4)) (numbered_times (u32_at little s at) (at + 4))

  -- a header for missing bytes or its byte order
  header_tests : P ByteOrder → (a b c d : Bool) (g h : WkbHeader) → HeaderNumbered P (cond a (Err BytesMissing) (cond b (Err ByteOrder) (cond c (cond d (Err BytesMissing) (Ok g)) (Ok h))))
  unfolding HeaderNumbered
  header_tests ten true b c d g h = nine
  header_tests ten false true c d g h = ten
  header_tests ten false false true true g h = nine
  header_tests ten false false true false g h = tt
  header_tests ten false false false d g h = tt

  pub numbered_header : P ByteOrder → (s : List ℕ) (at : ℕ) → HeaderNumbered P (header_at s at)
  unfolding header_at header_of_type
  numbered_header ten s at =
      let little = eqb (get_or s at 0) 1 in
      let code = u32_at little s (at + 1) in
      header_tests ten (ltb (length s) (at + 5)) (ltb 1 (get_or s at 0)) (has_flag srid_flag code) (ltb (length s) (at + 9)) (wkb_header little code (at + 9)) (wkb_header little code (at + 5))

-- a refusal of the walk is one of 9 to 12
abbrev pub WalkReason : Reason → Type 0
WalkReason k = (9 ≤ number_of k) × (number_of k ≤ 12)

nine : WalkReason BytesMissing
nine = (omega arith, omega arith)

numbered_content : (c : Option GeometryClass) (f : ℕ → Parsed Geometry) (each : (at : ℕ) → Numbered WalkReason (f at)) (s : List ℕ) (h : WkbHeader) → Numbered WalkReason (content_of c f s h)
unfolding content_of Numbered
numbered_content (Some class.Point) f each s h = numbered_map WalkReason point (point_at h s h.body) (numbered_point WalkReason nine h s h.body)
numbered_content (Some class.Line) f each s h = numbered_map WalkReason line (line_at h s h.body) (numbered_line WalkReason nine h s h.body)
numbered_content (Some class.Polygon) f each s h = numbered_map WalkReason rings (rings_at h s h.body) (numbered_list WalkReason nine ◌∷◌ [] (line_at h s) (numbered_line WalkReason nine h s) h.little s h.body)
numbered_content (Some class.Collection) f each s h = numbered_map WalkReason members (members_at f h.little s h.body) (numbered_list WalkReason nine one_more no_members f each h.little s h.body)
numbered_content None f each s h = (omega arith, omega arith)

numbered_geometry : (f : ℕ → Parsed Geometry) (each : (at : ℕ) → Numbered WalkReason (f at)) (s : List ℕ) (r : ParsedHeader) → HeaderNumbered WalkReason r → Numbered WalkReason (geometry_from f s r)
unfolding geometry_from HeaderNumbered Numbered
numbered_geometry f each s (Err k) h = h
numbered_geometry f each s (Ok g) h = numbered_map WalkReason (geometry g.kind g.z g.m) (content_of (geometry_class_of g.kind) f s g) (numbered_content (geometry_class_of g.kind) f each s g)

numbered_walk : (levels : ℕ) (s : List ℕ) (at : ℕ) → Numbered WalkReason (walk_of levels s at)
unfolding walk_of Numbered
numbered_walk zero s at = (omega arith, omega arith)
numbered_walk (suc levels) s at = numbered_geometry (walk_of levels s) (numbered_walk levels s) s (header_at s at) (numbered_header WalkReason nine (omega arith, omega arith) s at)

pub walk_reason : (levels : ℕ) (s : List ℕ) (at : ℕ) (k : Reason) → walk_of levels s at ≡ refused k → WalkReason k
unfolding Numbered
walk_reason levels s at k e = subst (Numbered WalkReason) e (numbered_walk levels s at)

-- End theorem: each check holds exactly when the walk refuses for its reason.
pub refused_with_exactly : (k : Reason) (w : Parsed Geometry) → (refused_with k w ≡ true) ↔ (w ≡ refused k)
unfolding refused_with
refused_with_exactly k (ok g end) = (λ h. absurd (true≢false (sym h)), λ h. cc)
refused_with_exactly k (refused j) =
    (λ h. ap refused (same_reason j k (eqb-true (number_of j) (number_of k) h)), λ h. let e : j ≡ k = cc in eq-eqb (number_of j) (number_of k) (ap number_of e))

-- what the walk refuses, its checks give
pub refused_is_given : (s : List ℕ) (at : ℕ) (k : Reason) → walk_of all_levels s at ≡ refused k → first_of (walk_checks s at) ≡ Some k
unfolding first_of walk_checks refused_with
refused_is_given s at k e = rw e (go (eqb (number_of k) 12) (eqb (number_of k) 9) (eqb (number_of k) 10) (eqb (number_of k) 11) refl refl refl refl (walk_reason all_levels s at k e))
  where
    is : (r : Reason) → eqb (number_of k) (number_of r) ≡ true → Some r ≡ Some k
    is r h = ap Some (sym (same_reason k r (eqb-true (number_of k) (number_of r) h)))

    go : (a b c d : Bool) → eqb (number_of k) 12 ≡ a → eqb (number_of k) 9 ≡ b → eqb (number_of k) 10 ≡ c → eqb (number_of k) 11 ≡ d → WalkReason k → cond a (Some TooManyLevels) (cond b (Some BytesMissing) (cond c (Some ByteOrder) (cond d (Some UnknownKind) None))) ≡ Some k
    go true b c d p q r t i = is TooManyLevels p
    go false true c d p q r t i = is BytesMissing q
    go false false true d p q r t i = is ByteOrder r
    go false false false true p q r t i = is UnknownKind t
    go false false false false p q r t i = absurd (omega (arith, eqb-false (number_of k) 12 p, eqb-false (number_of k) 9 q, eqb-false (number_of k) 10 r, eqb-false (number_of k) 11 t, i))

-- where the walk refuses nothing, no check of it holds
pub accepted_gives_none : (s : List ℕ) (at : ℕ) (g : Geometry) (end : ℕ) → walk_of all_levels s at ≡ ok g end → first_of (walk_checks s at) ≡ None
unfolding first_of walk_checks refused_with
accepted_gives_none s at g end e = rw e

-- and where no check of it holds, it refuses nothing
pub none_given_is_accepted : (s : List ℕ) (at : ℕ) → first_of (walk_checks s at) ≡ None → is_accepted (walk_of all_levels s at) ≡ true
unfolding is_accepted
none_given_is_accepted s at h = go (walk_of all_levels s at) refl
  where
    go : (w : Parsed Geometry) → walk_of all_levels s at ≡ w → is_accepted w ≡ true
    go (ok g end) e = refl
    go (refused k) e = absurd (none-some k (sym h ∙ refused_is_given s at k e))

-- The runs of what the walk's readers give, said of runs alone. Assumes nothing.
use mathlib.Core.Path.{◌≡◌, refl, sym, ap, ◌∙◌}
use mathlib.Core.Bool.{Bool, true, false, cond}
use mathlib.Core.List.{List, [], ◌∷◌, ◌++◌}
use Prim.Native.Nat.{ℕ, zero, suc, ◌+◌, ◌*◌}
use native.Mathlib.Omega.{arith}
use lib.Dec.{ltb}
use lib.ListN.{length}
use Rattle.fields.specs.Fields.{u32_at}
use Rattle.std.specs.Prelude.{Option, None, Some}
use Rattle.refusals.specs.declared.Reason.TheVariants.{BytesMissing, UnknownKind}
use Rattle.coords.specs.declared.GeometryClass.{GeometryClass}
use Rattle.coords.specs.declared.GeometryClass.TheVariants as class
use Rattle.coords.specs.declared.WkbHeader.{WkbHeader}
use Rattle.coords.specs.Walk.{Coordinate, geometry, Content, point, line, rings, members, no_members, one_more, Parsed, ok, refused, map_parsed, stride, coordinate_at, coordinates_from, point_at, coordinates_at, line_at, cons_parsed, and_then, times, list_at, rings_at, members_at, content_of, walk_of}
use Rattle.coords.specs.Parts.{Run, run, non_empty_run, rings_runs, runs_of, content_runs, members_runs}
use Rattle.coords.specs.Inner.{ParsedRuns, coordinates_runs, line_runs, rings_at_runs, members_at_runs, walk_runs}

pub map_needed : {A B : Type 0} (f : A → B) (b : Bool) (r : Parsed A) → map_parsed f (cond b (refused BytesMissing) r) ≡ cond b (refused BytesMissing) (map_parsed f r)
unfolding map_parsed
map_needed f true r = refl
map_needed f false r = refl

-- the runs of a list are those of its things in order
module _ {A B : Type 0} (cons : A → B → B) (nil : B) (runs : A → List (Run Coordinate)) (all : B → List (Run Coordinate)) (at-nil : all nil ≡ []) (at-cons : (a : A) (b : B) → all (cons a b) ≡ runs a ++ all b) (f : ℕ → Parsed A) where
  map_cons : (a : A) (r : Parsed B) → map_parsed all (cons_parsed cons a r) ≡ cons_parsed ◌++◌ (runs a) (map_parsed all r)
  unfolding map_parsed
  map_cons a (ok b end) = ap (λ (rs : List (Run Coordinate)). ok rs end) (at-cons a b)
  map_cons a (refused k) = refl

  map_times : (n at : ℕ) → map_parsed all (times cons nil f n at) ≡ times ◌++◌ [] (λ (i : ℕ). map_parsed runs (f i)) n at
  unfolding times map_parsed
  map_times zero at = ap (λ (rs : List (Run Coordinate)). ok rs at) at-nil
  map_times (suc n) at = go (map_times n) (f at)
    where
      go : ((i : ℕ) → map_parsed all (times cons nil f n i) ≡ times ◌++◌ [] (λ (j : ℕ). map_parsed runs (f j)) n i) → (r : Parsed A) → map_parsed all (and_then cons r (times cons nil f n)) ≡ and_then ◌++◌ (map_parsed runs r) (times ◌++◌ [] (λ (j : ℕ). map_parsed runs (f j)) n)
      go rest (refused k) = refl
      go rest (ok a next) = map_cons a (times cons nil f n next) ∙ ap (cons_parsed ◌++◌ (runs a)) (rest next)

  pub map_list : (little : Bool) (s : List ℕ) (at : ℕ) → map_parsed all (list_at cons nil f little s at) ≡ list_at ◌++◌ [] (λ (i : ℕ). map_parsed runs (f i)) little s at
  unfolding list_at
  map_list little s at =
      map_needed all (ltb (length s) (at + 4)) (times cons nil f (u32_at little s at) (at + 4)) ∙ ap (cond (ltb (length s) (at + 4)) (refused BytesMissing)) (map_times (u32_at little s at) (at + 4))

pub rings_runs_lem : (h : WkbHeader) (s : List ℕ) (at : ℕ) → rings_at_runs h s at ≡ list_at ◌++◌ [] (line_runs h s) h.little s at
unfolding rings_runs
rings_runs_lem h s at = map_list ◌∷◌ [] (non_empty_run h.kind) (rings_runs h.kind) refl (λ ring rs. refl) (line_at h s) h.little s at

pub members_runs_lem : (levels : ℕ) (little : Bool) (s : List ℕ) (at : ℕ) → members_at_runs levels little s at ≡ list_at ◌++◌ [] (walk_runs levels s) little s at
unfolding members_runs
members_runs_lem levels little s at = map_list one_more no_members runs_of members_runs refl (λ g gs. refl) (walk_of levels s) little s at

pub line_runs_lem : (h : WkbHeader) (s : List ℕ) (at : ℕ) → line_runs h s at ≡ cond (ltb (length s) (at + 4)) (refused BytesMissing) (coordinates_runs h s (u32_at h.little s at) (at + 4))
unfolding line_at
line_runs_lem h s at = map_needed (non_empty_run h.kind) (ltb (length s) (at + 4)) (coordinates_at h s (u32_at h.little s at) (at + 4))

pub coordinates_runs_lem : (h : WkbHeader) (s : List ℕ) (n at : ℕ) → coordinates_runs h s n at ≡ cond (ltb (length s) (at + n * stride h)) (refused BytesMissing) (ok (non_empty_run h.kind (coordinates_from h s n at)) (at + n * stride h))
unfolding coordinates_at map_parsed
coordinates_runs_lem h s n at = map_needed (non_empty_run h.kind) (ltb (length s) (at + n * stride h)) (ok (coordinates_from h s n at) (at + n * stride h))

-- the runs of what follows a header
unfoldable pub content_runs_at : Option GeometryClass → ℕ → List ℕ → WkbHeader → ParsedRuns
content_runs_at (Some class.Point) levels s h = coordinates_runs h s 1 h.body
content_runs_at (Some class.Line) levels s h = line_runs h s h.body
content_runs_at (Some class.Polygon) levels s h = rings_at_runs h s h.body
content_runs_at (Some class.Collection) levels s h = members_at_runs levels h.little s h.body
content_runs_at None levels s h = refused UnknownKind

-- a geometry's runs are its content's
map_geometry : {A : Type 0} (k : ℕ) (z m : Bool) (content : A → Content) (runs : A → List (Run Coordinate)) → ((a : A) → content_runs k (content a) ≡ runs a) → (r : Parsed A) → map_parsed runs_of (map_parsed (geometry k z m) (map_parsed content r)) ≡ map_parsed runs r
unfolding map_parsed runs_of
map_geometry k z m content runs e (ok a end) = ap (λ (rs : List (Run Coordinate)). ok rs end) (e a)
map_geometry k z m content runs e (refused k') = refl

point_run : (h : WkbHeader) (s : List ℕ) (at : ℕ) → map_parsed (λ (c : Coordinate). run h.kind (c ∷ []) ∷ []) (point_at h s at) ≡ coordinates_runs h s 1 at
unfolding point_at map_parsed non_empty_run coordinates_from
point_run h s at =
    let e : stride h ≡ 1 * stride h = omega arith in
    map_needed (λ (c : Coordinate). run h.kind (c ∷ []) ∷ []) (ltb (length s) (at + stride h)) (ok (coordinate_at h s at) (at + stride h)) ∙ (ap (λ (n : ℕ). cond (ltb (length s) (at + n)) (refused BytesMissing) (ok (run h.kind (coordinate_at h s at ∷ []) ∷ []) (at + n))) e ∙ sym (coordinates_runs_lem h s 1 at))

pub content_runs_lem : (c : Option GeometryClass) (levels : ℕ) (s : List ℕ) (h : WkbHeader) → map_parsed runs_of (map_parsed (geometry h.kind h.z h.m) (content_of c (walk_of levels s) s h)) ≡ content_runs_at c levels s h
unfolding content_of content_runs_at content_runs map_parsed
content_runs_lem (Some class.Point) levels s h = map_geometry h.kind h.z h.m point (λ (c : Coordinate). run h.kind (c ∷ []) ∷ []) (λ c. refl) (point_at h s h.body) ∙ point_run h s h.body
content_runs_lem (Some class.Line) levels s h = map_geometry h.kind h.z h.m line (non_empty_run h.kind) (λ c. refl) (line_at h s h.body)
content_runs_lem (Some class.Polygon) levels s h = map_geometry h.kind h.z h.m rings (rings_runs h.kind) (λ c. refl) (rings_at h s h.body)
content_runs_lem (Some class.Collection) levels s h = map_geometry h.kind h.z h.m members members_runs (λ c. refl) (members_at (walk_of levels s) h.little s h.body)
content_runs_lem None levels s h = refl

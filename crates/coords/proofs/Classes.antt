-- Which class of content a kind's number names, by the tests that a match makes, and a geometry by its head. Assumes nothing.
use mathlib.Core.Path.{◌≡◌, refl, ap, ◌∙◌}
use mathlib.Core.Logic.{◌⊎◌, ⊎_elim}
use mathlib.Core.Bool.{Bool, true, false, cond, ◌&&◌, ◌||◌}
use mathlib.Core.List.{List}
use Prim.Native.Nat.{ℕ, zero, suc, ◌-◌, ◌<◌, ◌≤◌}
use native.Mathlib.Numerals.{sub-one}
use native.Mathlib.Omega.{arith}
use lib.Dec.{eqb, leb}
use borrow.Author.Tests.{le-leb, lt-leb, ne_eqb, eqb-false, eqb-true}
use Rattle.refusals.specs.declared.Reason.{Reason}
use Rattle.std.specs.Prelude.{Option, None, Some, Result, Ok, Err}
use Rattle.coords.specs.declared.GeometryClass.{GeometryClass}
use Rattle.coords.specs.declared.GeometryClass.TheVariants as class
use Rattle.coords.specs.Walk.{refused, map_parsed, geometry_class_of, header_at, geometry_from, walk_of}
use Rattle.coords.specs.Parts.{runs_of, other_if}
use Rattle.std.specs.Option.{ok_or}
use Rattle.refusals.specs.declared.Reason.TheVariants.{UnknownKind, TooManyLevels}
use Rattle.coords.specs.Inner.{coordinates_runs, line_runs, rings_at_runs, members_at_runs, walk_runs}
use Rattle.coords.specs.Counts.{run_counts}
use Rattle.coords.proofs.Runs.{content_runs_at, content_runs_lem}
use Rattle.coords.specs.declared.WkbHeader.{WkbHeader}

pub class_point : (k : ℕ) → k ≡ 1 → geometry_class_of k ≡ (Some class.Point)
unfolding geometry_class_of
class_point k e = rw e

pub class_line : (k : ℕ) → k ≡ 2 → geometry_class_of k ≡ (Some class.Line)
unfolding geometry_class_of
class_line k e = rw e

pub class_polygon : (k : ℕ) → (k ≡ 3) ⊎ (k ≡ 17) → geometry_class_of k ≡ (Some class.Polygon)
unfolding geometry_class_of
class_polygon k = ⊎_elim (λ e. rw e) (λ e. rw e)

class_low : (k : ℕ) → 4 ≤ k → k < 8 → geometry_class_of k ≡ (Some class.Collection)
unfolding geometry_class_of
class_low k h g = simp (ne_eqb k 1 (omega arith), ne_eqb k 2 (omega arith), ne_eqb k 3 (omega arith), ne_eqb k 17 (omega arith), le-leb 4 k h, le-leb k 7 (omega arith))

class_high : (k : ℕ) → 15 ≤ k → k < 17 → geometry_class_of k ≡ (Some class.Collection)
unfolding geometry_class_of
class_high k h g = go (eqb k 15) refl
  where
    go : (b : Bool) → eqb k 15 ≡ b → geometry_class_of k ≡ (Some class.Collection)
    go true e = simp (ne_eqb k 1 (omega arith), ne_eqb k 2 (omega arith), ne_eqb k 3 (omega arith), ne_eqb k 17 (omega arith), lt-leb k 7 (omega arith), le-leb 4 k (omega arith), e)
    go false e = let ne = eqb-false k 15 e in let is : k ≡ 16 = omega (arith, ne) in rw is

-- what the match knows at its arm 4..=7 | 15 | 16
pub class_collection : (k : ℕ) → (k ≡ 1 → ⊥) → (k ≡ 2 → ⊥) → ((k ≡ 3) ⊎ (k ≡ 17) → ⊥) → 1 ≤ k → (k < 8) ⊎ ((15 ≤ k) × (k < 17)) → geometry_class_of k ≡ (Some class.Collection)
class_collection k n1 n2 n3 h =
    let m3 : k ≡ 3 → ⊥ = λ e. n3 (◌⊎◌.inl e) in
    ⊎_elim (λ g. class_low k (omega (arith, n1, n2, m3)) g) (λ g. class_high k g.0 g.1)

pub class_none : (k : ℕ) → k < 1 → geometry_class_of k ≡ None
unfolding geometry_class_of
class_none k h = let e : k ≡ 0 = omega arith in rw e

pub class_above : (k : ℕ) → 8 ≤ k → (k ≡ 15 → ⊥) → (k ≡ 16 → ⊥) → (k ≡ 17 → ⊥) → geometry_class_of k ≡ None
unfolding geometry_class_of
class_above k h n15 n16 n17 =
    simp (ne_eqb k 1 (omega arith), ne_eqb k 2 (omega arith), ne_eqb k 3 (omega arith), ne_eqb k 17 n17, le-leb 4 k (omega arith), lt-leb k 7 h, ne_eqb k 15 n15, ne_eqb k 16 n16)

abbrev class_is_other : Result GeometryClass Reason → ℕ
class_is_other (Ok class.Point) = 1
class_is_other (Ok class.Line) = 0
class_is_other (Ok class.Polygon) = 1
class_is_other (Ok class.Collection) = 0
class_is_other (Err k) = 0

-- points and polygons are the kinds that are no lines
pub other_class : (k : ℕ) → other_if k ≡ class_is_other (ok_or (geometry_class_of k) UnknownKind)
unfolding geometry_class_of
other_class k = go (eqb k 1) (eqb k 2) (eqb k 3) (eqb k 17) ((leb 4 k && leb k 7) || (eqb k 15 || eqb k 16)) refl refl refl refl
  where
    go : (a b c d e : Bool) → eqb k 1 ≡ a → eqb k 2 ≡ b → eqb k 3 ≡ c → eqb k 17 ≡ d → cond (a || (c || d)) 1 0 ≡ class_is_other (ok_or (cond a (Some class.Point) (cond b (Some class.Line) (cond (c || d) (Some class.Polygon) (cond e (Some class.Collection) None)))) UnknownKind)
    go true b c d e p q r t = refl
    go false true true d e p q r t = absurd (omega (arith, eqb-true k 2 q, eqb-true k 3 r))
    go false true false true e p q r t = absurd (omega (arith, eqb-true k 2 q, eqb-true k 17 t))
    go false true false false e p q r t = refl
    go false false true d e p q r t = refl
    go false false false true e p q r t = refl
    go false false false false true p q r t = refl
    go false false false false false p q r t = refl

walk_step : (levels : ℕ) (s : List ℕ) (at : ℕ) → (levels ≡ 0 → ⊥) → walk_of levels s at ≡ geometry_from (walk_of (levels - 1) s) s (header_at s at)
unfolding walk_of
walk_step zero s at h = absurd (h refl)
walk_step (suc n) s at h = rw sub-one

pub geometry_refused : (levels : ℕ) (s : List ℕ) (at : ℕ) (k : Reason) → (levels ≡ 0 → ⊥) → header_at s at ≡ Err k → walk_runs levels s at ≡ refused k
unfolding geometry_from map_parsed
geometry_refused levels s at k h e = ap (map_parsed runs_of) (walk_step levels s at h ∙ ap (geometry_from (walk_of (levels - 1) s) s) e)

pub geometry_is : (levels : ℕ) (s : List ℕ) (at : ℕ) (h : WkbHeader) (c : Option GeometryClass) → (levels ≡ 0 → ⊥) → header_at s at ≡ Ok h → geometry_class_of h.kind ≡ c → walk_runs levels s at ≡ content_runs_at c (levels - 1) s h
unfolding geometry_from
geometry_is levels s at h c l e p =
    ap (map_parsed runs_of) (walk_step levels s at l ∙ ap (geometry_from (walk_of (levels - 1) s) s) e)
    ∙ (content_runs_lem (geometry_class_of h.kind) (levels - 1) s h ∙ ap (λ (x : Option GeometryClass). content_runs_at x (levels - 1) s h) p)

-- ---- what is counted of a geometry, from level to level

pub too_deep : (levels : ℕ) (s : List ℕ) (at : ℕ) → levels ≡ 0 → run_counts (walk_runs levels s at) ≡ Err TooManyLevels
unfolding walk_of run_counts map_parsed
too_deep levels s at e = rw e

pub header_refused : (levels : ℕ) (s : List ℕ) (at : ℕ) (k : Reason) → (levels ≡ 0 → ⊥) → header_at s at ≡ Err k → run_counts (walk_runs levels s at) ≡ Err k
unfolding run_counts
header_refused levels s at k h e = ap run_counts (geometry_refused levels s at k h e)

-- the class that a kind was read as
pub class_is : (c d : Option GeometryClass) → ok_or c UnknownKind ≡ ok_or d UnknownKind → c ≡ d
class_is (Some x) (Some y) e = let is : x ≡ y = cc in ap Some is
class_is (Some x) None e = cc
class_is None (Some y) e = cc
class_is None None e = refl

pub kind_unknown : (levels : ℕ) (s : List ℕ) (at : ℕ) (h : WkbHeader) (k : Reason) → (levels ≡ 0 → ⊥) → header_at s at ≡ Ok h → ok_or (geometry_class_of h.kind) UnknownKind ≡ Err k → run_counts (walk_runs levels s at) ≡ Err k
unfolding run_counts content_runs_at
kind_unknown levels s at h k l e p = go (geometry_class_of h.kind) refl p
  where
    go : (c : Option GeometryClass) → geometry_class_of h.kind ≡ c → ok_or c UnknownKind ≡ Err k → run_counts (walk_runs levels s at) ≡ Err k
    go (Some x) q r = cc
    go None q r = let is : UnknownKind ≡ k = cc in ap run_counts (geometry_is levels s at h None l e q) ∙ ap (λ (x : Reason). run_counts (refused x)) is

content_counted : (levels : ℕ) (s : List ℕ) (at : ℕ) (h : WkbHeader) (c : GeometryClass) → (levels ≡ 0 → ⊥) → header_at s at ≡ Ok h → ok_or (geometry_class_of h.kind) UnknownKind ≡ Ok c → run_counts (walk_runs levels s at) ≡ run_counts (content_runs_at (Some c) (levels - 1) s h)
content_counted levels s at h c l e p = ap run_counts (geometry_is levels s at h (Some c) l e (class_is (geometry_class_of h.kind) (Some c) p))

pub point_counted : (levels : ℕ) (s : List ℕ) (at : ℕ) (h : WkbHeader) → (levels ≡ 0 → ⊥) → header_at s at ≡ Ok h → ok_or (geometry_class_of h.kind) UnknownKind ≡ Ok class.Point → run_counts (walk_runs levels s at) ≡ run_counts (coordinates_runs h s 1 h.body)
unfolding content_runs_at
point_counted levels s at h l e p = content_counted levels s at h class.Point l e p

pub line_counted : (levels : ℕ) (s : List ℕ) (at : ℕ) (h : WkbHeader) → (levels ≡ 0 → ⊥) → header_at s at ≡ Ok h → ok_or (geometry_class_of h.kind) UnknownKind ≡ Ok class.Line → run_counts (walk_runs levels s at) ≡ run_counts (line_runs h s h.body)
unfolding content_runs_at
line_counted levels s at h l e p = content_counted levels s at h class.Line l e p

pub polygon_counted : (levels : ℕ) (s : List ℕ) (at : ℕ) (h : WkbHeader) → (levels ≡ 0 → ⊥) → header_at s at ≡ Ok h → ok_or (geometry_class_of h.kind) UnknownKind ≡ Ok class.Polygon → run_counts (walk_runs levels s at) ≡ run_counts (rings_at_runs h s h.body)
unfolding content_runs_at
polygon_counted levels s at h l e p = content_counted levels s at h class.Polygon l e p

pub collection_counted : (levels : ℕ) (s : List ℕ) (at : ℕ) (h : WkbHeader) → (levels ≡ 0 → ⊥) → header_at s at ≡ Ok h → ok_or (geometry_class_of h.kind) UnknownKind ≡ Ok class.Collection → run_counts (walk_runs levels s at) ≡ run_counts (members_at_runs (levels - 1) h.little s h.body)
unfolding content_runs_at
collection_counted levels s at h l e p = content_counted levels s at h class.Collection l e p

-- what a geometry's counts are by its level, its header and its kind
pub ruleset counts_content = (too_deep, header_refused, kind_unknown, point_counted, line_counted, polygon_counted, collection_counted)

-- A fact of each run that a walk reads, from its kind and the place of its bytes: one induction for all such facts. Assumes nothing.
use mathlib.Core.Path.{◌≡◌, refl, sym, subst}
use mathlib.Core.Logic.{◌⊎◌, inl, inr}
use mathlib.Core.Bool.{Bool, true, false, cond, ◌&&◌, ◌||◌}
use mathlib.Core.List.{List, [], ◌++◌}
use Prim.Native.Nat.{ℕ, zero, suc, ◌+◌, ◌*◌, ◌≤◌, ◌<◌}
use native.Mathlib.Omega.{arith}
use lib.Dec.{ltb, leb, eqb}
use lib.ListN.{length}
use borrow.Author.Tests.{eqb-true, ltb-false}
use Rattle.fields.specs.Fields.{u32_at}
use Rattle.std.specs.Prelude.{Option, None, Some, Ok, Err}
use Rattle.refusals.specs.declared.Reason.TheVariants.{BytesMissing}
use Rattle.coords.specs.declared.GeometryClass.{GeometryClass}
use Rattle.coords.specs.declared.GeometryClass.TheVariants as class
use Rattle.coords.specs.declared.WkbHeader.{WkbHeader}
use Rattle.coords.specs.Walk.{ParsedHeader, Coordinate, Geometry, Parsed, ok, refused, map_parsed, stride, coordinates_from, and_then, cons_parsed, times, list_at, geometry_class_of, header_at, geometry_from, walk_of}
use Rattle.coords.specs.Parts.{Run, run, non_empty_run, runs_of}
use Rattle.coords.specs.Inner.{ParsedRuns, coordinates_runs, line_runs, walk_runs}
use Rattle.coords.proofs.Each.{Each, each_append}
use Rattle.coords.proofs.Runs.{coordinates_runs_lem, line_runs_lem, rings_runs_lem, members_runs_lem, content_runs_at, content_runs_lem}

-- the kinds whose geometries have runs of their own
abbrev pub RunKind : ℕ → Type 0
RunKind k = (k ≡ 1) ⊎ ((k ≡ 2) ⊎ ((k ≡ 3) ⊎ (k ≡ 17)))

-- what a class says of the kind
KindOf : Option GeometryClass → ℕ → Type 0
KindOf (Some class.Point) k = RunKind k
KindOf (Some class.Line) k = RunKind k
KindOf (Some class.Polygon) k = RunKind k
KindOf (Some class.Collection) k = Unit
KindOf None k = Unit

class_kind : (k : ℕ) → KindOf (geometry_class_of k) k
unfolding geometry_class_of KindOf
class_kind k = go (eqb k 1) (eqb k 2) (eqb k 3) (eqb k 17) ((leb 4 k && leb k 7) || (eqb k 15 || eqb k 16)) refl refl refl refl
  where
    go : (a b c d e : Bool) → eqb k 1 ≡ a → eqb k 2 ≡ b → eqb k 3 ≡ c → eqb k 17 ≡ d → KindOf (cond a (Some class.Point) (cond b (Some class.Line) (cond (c || d) (Some class.Polygon) (cond e (Some class.Collection) None)))) k
    go true b c d e p q r t = inl (eqb-true k 1 p)
    go false true c d e p q r t = inr (inl (eqb-true k 2 q))
    go false false true d e p q r t = inr (inr (inl (eqb-true k 3 r)))
    go false false false true e p q r t = inr (inr (inr (eqb-true k 17 t)))
    go false false false false true p q r t = tt
    go false false false false false p q r t = tt

-- P holds of a run of n coordinates at a position where the bytes hold them
module _ (s : List ℕ) (P : Run Coordinate → Type 0) (one : (h : WkbHeader) (n at : ℕ) → RunKind h.kind → 0 < n → at + n * stride h ≤ length s → P (run h.kind (coordinates_from h s n at))) where
  AllRead : ParsedRuns → Type 0
  AllRead (ok rs end) = Each P rs
  AllRead (refused k) = Unit {0}

  all_needed : (b : Bool) (w : ParsedRuns) → (b ≡ false → AllRead w) → AllRead (cond b (refused BytesMissing) w)
  unfolding AllRead
  all_needed true w f = tt
  all_needed false w f = f refl

  non_empty : (h : WkbHeader) (n at : ℕ) → RunKind h.kind → at + n * stride h ≤ length s → Each P (non_empty_run h.kind (coordinates_from h s n at))
  unfolding non_empty_run coordinates_from
  non_empty h zero at k l = tt
  non_empty h (suc n) at k l = (one h (suc n) at k (omega arith) l, tt)

  all_coordinates : (h : WkbHeader) → RunKind h.kind → (n at : ℕ) → AllRead (coordinates_runs h s n at)
  unfolding AllRead
  all_coordinates h k n at =
      subst AllRead (sym (coordinates_runs_lem h s n at))
      (all_needed (ltb (length s) (at + n * stride h)) (ok (non_empty_run h.kind (coordinates_from h s n at)) (at + n * stride h)) (λ e. non_empty h n at k (ltb-false (length s) (at + n * stride h) e)))

  all_line : (h : WkbHeader) → RunKind h.kind → (at : ℕ) → AllRead (line_runs h s at)
  all_line h k at =
      subst AllRead (sym (line_runs_lem h s at)) (all_needed (ltb (length s) (at + 4)) (coordinates_runs h s (u32_at h.little s at) (at + 4)) (λ e. all_coordinates h k (u32_at h.little s at) (at + 4)))

  module _ (f : ℕ → ParsedRuns) (each : (at : ℕ) → AllRead (f at)) where
    all_times : (n at : ℕ) → AllRead (times ◌++◌ [] f n at)
    unfolding times AllRead
    all_times zero at = tt
    all_times (suc n) at = go (all_times n) (f at) (each at)
      where
        join : (rs : List (Run Coordinate)) (w : ParsedRuns) → Each P rs → AllRead w → AllRead (cons_parsed ◌++◌ rs w)
        join rs (ok qs end) i j = each_append P rs qs i j
        join rs (refused k) i j = tt

        go : ((i : ℕ) → AllRead (times ◌++◌ [] f n i)) → (w : ParsedRuns) → AllRead w → AllRead (and_then ◌++◌ w (times ◌++◌ [] f n))
        go rest (ok rs next) i = join rs (times ◌++◌ [] f n next) i (rest next)
        go rest (refused k) i = tt

    all_list : (little : Bool) (at : ℕ) → AllRead (list_at ◌++◌ [] f little s at)
    unfolding list_at
    all_list little at = all_needed (ltb (length s) (at + 4)) (times ◌++◌ [] f (u32_at little s at) (at + 4)) (λ e. all_times (u32_at little s at) (at + 4))

  all_content : (c : Option GeometryClass) (levels : ℕ) (each : (at : ℕ) → AllRead (walk_runs levels s at)) (h : WkbHeader) → KindOf c h.kind → AllRead (content_runs_at c levels s h)
  unfolding content_runs_at AllRead KindOf
  all_content (Some class.Point) levels each h k = all_coordinates h k 1 h.body
  all_content (Some class.Line) levels each h k = all_line h k h.body
  all_content (Some class.Polygon) levels each h k = subst AllRead (sym (rings_runs_lem h s h.body)) (all_list (line_runs h s) (all_line h k) h.little h.body)
  all_content (Some class.Collection) levels each h k = subst AllRead (sym (members_runs_lem levels h.little s h.body)) (all_list (walk_runs levels s) each h.little h.body)
  all_content None levels each h k = tt

  all_from : (levels : ℕ) (each : (at : ℕ) → AllRead (walk_runs levels s at)) (r : ParsedHeader) → AllRead (map_parsed runs_of (geometry_from (walk_of levels s) s r))
  unfolding geometry_from AllRead map_parsed
  all_from levels each (Err k) = tt
  all_from levels each (Ok h) = subst AllRead (sym (content_runs_lem (geometry_class_of h.kind) levels s h)) (all_content (geometry_class_of h.kind) levels each h (class_kind h.kind))

  all_walk : (levels at : ℕ) → AllRead (walk_runs levels s at)
  unfolding walk_of AllRead map_parsed
  all_walk zero at = tt
  all_walk (suc levels) at = all_from levels (all_walk levels) (header_at s at)

  pub each_run : (levels at : ℕ) (g : Geometry) (end : ℕ) → walk_of levels s at ≡ ok g end → Each P (runs_of g)
  unfolding AllRead map_parsed
  each_run levels at g end e = subst (λ (w : Parsed Geometry). AllRead (map_parsed runs_of w)) e (all_walk levels at)

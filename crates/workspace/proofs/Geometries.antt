-- A geometry is written as its content is: where the walk refuses nothing there are a level, a header and a known kind. Assumes nothing.
use mathlib.Core.Path.{◌≡◌, refl}
use mathlib.Core.Bool.{true}
use mathlib.Core.List.{List}
use Prim.Native.Nat.{ℕ, zero, suc, ◌-◌, ◌<◌}
use native.Mathlib.Omega.{arith}
use lib.ListN.{length}
use lib.Ieee.{Float}
use Rattle.std.specs.Prelude.{Option, None, Some, Ok, Err, is_ok}
use Rattle.std.specs.Option.{ok_or}
use Rattle.refusals.specs.declared.Reason.{Reason}
use Rattle.refusals.specs.declared.Reason.TheVariants.{TooManyLevels, UnknownKind}
use Rattle.coords.specs.declared.WkbHeader.{WkbHeader}
use Rattle.coords.specs.declared.GeometryClass.{GeometryClass}
use Rattle.coords.specs.declared.GeometryClass.TheVariants as class
use Rattle.coords.specs.Walk.{ParsedHeader, refused, map_parsed, geometry_class_of, header_at, walk_of}
use Rattle.coords.specs.Inner.{ParsedRuns, coordinates_runs, line_runs, rings_at_runs, members_at_runs, walk_runs}
use Rattle.coords.proofs.Runs.{content_runs_at}
use Rattle.coords.proofs.Classes.{geometry_refused, geometry_is, class_is}
use Rattle.workspace.specs.declared.Progress.{Progress}
use Rattle.workspace.specs.Inner.{ReadyToFill, Filled}
use Rattle.workspace.proofs.Runs.{moved, ready_at, filled_at}

unrefused : (w : ParsedRuns) (p : Progress) (lf lt : ℕ) (k : Reason) → ReadyToFill w p lf lt → w ≡ refused k → ⊥
unfolding ReadyToFill
unrefused w p lf lt k r e = rw e at r

pub some_level : (levels : ℕ) (s : List ℕ) (at : ℕ) (p : Progress) (lf lt : ℕ) → ReadyToFill (walk_runs levels s at) p lf lt → 0 < levels
unfolding walk_of map_parsed
some_level zero s at p lf lt r = absurd (unrefused (walk_runs 0 s at) p lf lt TooManyLevels r refl)
some_level (suc n) s at p lf lt r = omega arith

not_none : (levels : ℕ) (s : List ℕ) (at : ℕ) (p : Progress) (lf lt : ℕ) → ReadyToFill (walk_runs levels s at) p lf lt → levels ≡ 0 → ⊥
not_none levels s at p lf lt r e = omega (arith, e, some_level levels s at p lf lt r)

pub header_read : (levels : ℕ) (s : List ℕ) (at : ℕ) (p : Progress) (lf lt : ℕ) → ReadyToFill (walk_runs levels s at) p lf lt → is_ok (header_at s at) ≡ true
header_read levels s at p lf lt r = go (header_at s at) refl
  where
    go : (o : ParsedHeader) → header_at s at ≡ o → is_ok o ≡ true
    go (Ok h) e = refl
    go (Err k) e = absurd (unrefused (walk_runs levels s at) p lf lt k r (geometry_refused levels s at k (not_none levels s at p lf lt r) e))

pub kind_known : (levels : ℕ) (s : List ℕ) (at : ℕ) (p : Progress) (lf lt : ℕ) (h : WkbHeader) → ReadyToFill (walk_runs levels s at) p lf lt → header_at s at ≡ Ok h → is_ok (ok_or (geometry_class_of h.kind) UnknownKind) ≡ true
unfolding content_runs_at
kind_known levels s at p lf lt h r e = go (geometry_class_of h.kind) refl
  where
    go : (c : Option GeometryClass) → geometry_class_of h.kind ≡ c → is_ok (ok_or c UnknownKind) ≡ true
    go (Some x) q = refl
    go None q = absurd (unrefused (walk_runs levels s at) p lf lt UnknownKind r (geometry_is levels s at h None (not_none levels s at p lf lt r) e q))

-- the runs of a geometry are those of its content
content_is : (levels : ℕ) (s : List ℕ) (at : ℕ) (p : Progress) (lf lt : ℕ) (h : WkbHeader) (c : GeometryClass) → ReadyToFill (walk_runs levels s at) p lf lt → header_at s at ≡ Ok h → ok_or (geometry_class_of h.kind) UnknownKind ≡ Ok c → walk_runs levels s at ≡ content_runs_at (Some c) (levels - 1) s h
content_is levels s at p lf lt h c r e q = geometry_is levels s at h (Some c) (not_none levels s at p lf lt r) e (class_is (geometry_class_of h.kind) (Some c) q)

pub point_ready : (levels : ℕ) (s : List ℕ) (p : Progress) (lf lt : ℕ) (h : WkbHeader) → ReadyToFill (walk_runs levels s p.next) p lf lt → header_at s p.next ≡ Ok h → ok_or (geometry_class_of h.kind) UnknownKind ≡ Ok class.Point → ReadyToFill (coordinates_runs h s 1 h.body) (moved p h.body) lf lt
unfolding content_runs_at
point_ready levels s p lf lt h r e q = ready_at (content_is levels s p.next p lf lt h class.Point r e q) p h.body lf lt r

pub point_filled : (levels : ℕ) (s : List ℕ) (p : Progress) (fs fs' : List Float) (ts ts' : List ℕ) (o : Progress) (h : WkbHeader) → ReadyToFill (walk_runs levels s p.next) p (length fs) (length ts) → header_at s p.next ≡ Ok h → ok_or (geometry_class_of h.kind) UnknownKind ≡ Ok class.Point → Filled (coordinates_runs h s 1 h.body) (moved p h.body) fs ts fs' ts' o → Filled (walk_runs levels s p.next) p fs ts fs' ts' o
unfolding content_runs_at
point_filled levels s p fs fs' ts ts' o h r e q f = filled_at (content_is levels s p.next p (length fs) (length ts) h class.Point r e q) p h.body fs fs' ts ts' o f

pub line_ready : (levels : ℕ) (s : List ℕ) (p : Progress) (lf lt : ℕ) (h : WkbHeader) → ReadyToFill (walk_runs levels s p.next) p lf lt → header_at s p.next ≡ Ok h → ok_or (geometry_class_of h.kind) UnknownKind ≡ Ok class.Line → ReadyToFill (line_runs h s h.body) (moved p h.body) lf lt
unfolding content_runs_at
line_ready levels s p lf lt h r e q = ready_at (content_is levels s p.next p lf lt h class.Line r e q) p h.body lf lt r

pub line_filled : (levels : ℕ) (s : List ℕ) (p : Progress) (fs fs' : List Float) (ts ts' : List ℕ) (o : Progress) (h : WkbHeader) → ReadyToFill (walk_runs levels s p.next) p (length fs) (length ts) → header_at s p.next ≡ Ok h → ok_or (geometry_class_of h.kind) UnknownKind ≡ Ok class.Line → Filled (line_runs h s h.body) (moved p h.body) fs ts fs' ts' o → Filled (walk_runs levels s p.next) p fs ts fs' ts' o
unfolding content_runs_at
line_filled levels s p fs fs' ts ts' o h r e q f = filled_at (content_is levels s p.next p (length fs) (length ts) h class.Line r e q) p h.body fs fs' ts ts' o f

pub polygon_ready : (levels : ℕ) (s : List ℕ) (p : Progress) (lf lt : ℕ) (h : WkbHeader) → ReadyToFill (walk_runs levels s p.next) p lf lt → header_at s p.next ≡ Ok h → ok_or (geometry_class_of h.kind) UnknownKind ≡ Ok class.Polygon → ReadyToFill (rings_at_runs h s h.body) (moved p h.body) lf lt
unfolding content_runs_at
polygon_ready levels s p lf lt h r e q = ready_at (content_is levels s p.next p lf lt h class.Polygon r e q) p h.body lf lt r

pub polygon_filled : (levels : ℕ) (s : List ℕ) (p : Progress) (fs fs' : List Float) (ts ts' : List ℕ) (o : Progress) (h : WkbHeader) → ReadyToFill (walk_runs levels s p.next) p (length fs) (length ts) → header_at s p.next ≡ Ok h → ok_or (geometry_class_of h.kind) UnknownKind ≡ Ok class.Polygon → Filled (rings_at_runs h s h.body) (moved p h.body) fs ts fs' ts' o → Filled (walk_runs levels s p.next) p fs ts fs' ts' o
unfolding content_runs_at
polygon_filled levels s p fs fs' ts ts' o h r e q f = filled_at (content_is levels s p.next p (length fs) (length ts) h class.Polygon r e q) p h.body fs fs' ts ts' o f

pub collection_ready : (levels : ℕ) (s : List ℕ) (p : Progress) (lf lt : ℕ) (h : WkbHeader) → ReadyToFill (walk_runs levels s p.next) p lf lt → header_at s p.next ≡ Ok h → ok_or (geometry_class_of h.kind) UnknownKind ≡ Ok class.Collection → ReadyToFill (members_at_runs (levels - 1) h.little s h.body) (moved p h.body) lf lt
unfolding content_runs_at
collection_ready levels s p lf lt h r e q = ready_at (content_is levels s p.next p lf lt h class.Collection r e q) p h.body lf lt r

pub collection_filled : (levels : ℕ) (s : List ℕ) (p : Progress) (fs fs' : List Float) (ts ts' : List ℕ) (o : Progress) (h : WkbHeader) → ReadyToFill (walk_runs levels s p.next) p (length fs) (length ts) → header_at s p.next ≡ Ok h → ok_or (geometry_class_of h.kind) UnknownKind ≡ Ok class.Collection → Filled (members_at_runs (levels - 1) h.little s h.body) (moved p h.body) fs ts fs' ts' o → Filled (walk_runs levels s p.next) p fs ts fs' ts' o
unfolding content_runs_at
collection_filled levels s p fs fs' ts ts' o h r e q f = filled_at (content_is levels s p.next p (length fs) (length ts) h class.Collection r e q) p h.body fs fs' ts ts' o f

-- what is ready to be filled, from level to level
pub ruleset fills_content = (some_level, header_read, kind_known, point_ready, line_ready, polygon_ready, collection_ready)

-- What is read lies after where it was read: 16 bytes at least for each coordinate, and a coordinate at least for each run. Assumes nothing.
use mathlib.Core.Path.{◌≡◌, refl, sym, subst}
use mathlib.Core.Bool.{Bool, true, false, cond, ◌||◌}
use mathlib.Core.List.{List, [], ◌∷◌, ◌++◌}
use Prim.Native.Nat.{ℕ, zero, suc, ◌+◌, ◌*◌, ◌≤◌}
use native.Mathlib.Omega.{arith}
use lib.Dec.{ltb}
use lib.ListN.{length}
use Rattle.fields.specs.Fields.{u32_at}
use Rattle.std.specs.Prelude.{Option, None, Some, Result, Ok, Err}
use Rattle.refusals.specs.declared.Reason.{Reason}
use Rattle.refusals.specs.declared.Reason.TheVariants.{BytesMissing}
use Rattle.coords.specs.declared.GeometryClass.{GeometryClass}
use Rattle.coords.specs.declared.GeometryClass.TheVariants as class
use Rattle.coords.specs.Walk.{ParsedHeader, Coordinate, Geometry, Parsed, ok, refused, map_parsed, and_then, stride_of, stride, times, list_at, geometry_class_of, header_at, geometry_from, walk_of}
use Rattle.coords.specs.Parts.{Run, coordinate_count, runs_of, walked_runs, run, is_point, is_face, other_count}
use Rattle.coords.specs.Inner.{ParsedRuns, coordinates_runs, line_runs, walk_runs}
use Rattle.coords.proofs.Ends.{AfterFive, header_after, walk_end_lem}
use Rattle.coords.proofs.Runs.{line_runs_lem, coordinates_runs_lem, rings_runs_lem, members_runs_lem, content_runs_at, content_runs_lem}
use Rattle.coords.specs.Counts.{run_counts}
use Rattle.coords.specs.declared.WkbHeader.{WkbHeader}
use Rattle.coords.specs.declared.Counts.{Counts}
use Rattle.coords.proofs.Laws.{one_if, counts_run}
use Rattle.coords.proofs.Loops.{after, counts_to, prepend_counts, counts_refused, counts_turn, counts_end, rings_uncounted, rings_counted, members_uncounted, members_counted}

abbrev pub Inside : ℕ → Result Counts Reason → Type 0
Inside at (Ok c) = (16 * c.coords + at ≤ c.end) × (c.runs ≤ c.coords)
Inside at (Err k) = Unit

later : (at at' : ℕ) (o : Result Counts Reason) → at ≤ at' → Inside at' o → Inside at o
later at at' (Ok c) h i = (omega (arith, i.0), i.1)
later at at' (Err k) h i = tt

inside_after : (at : ℕ) (a : Counts) (o : Result Counts Reason) → 16 * a.coords + at ≤ a.end → a.runs ≤ a.coords → Inside a.end o → Inside at (after a o)
inside_after at a (Ok c) h g i = (omega (arith, i.0), omega (arith, i.1))
inside_after at a (Err k) h g i = tt

wide_run : (z m : Bool) (n : ℕ) → 16 * n ≤ n * stride_of z m
unfolding stride_of
wide_run true true n = omega arith
wide_run true false n = omega arith
wide_run false true n = omega arith
wide_run false false n = omega arith

one_le : (n : ℕ) → one_if n ≤ n
one_le zero = omega arith
one_le (suc n) = omega arith

inside_run : (h : WkbHeader) (s : List ℕ) (n at : ℕ) → Inside at (run_counts (coordinates_runs h s n at))
unfolding run_counts
inside_run h s n at = go (ltb (length s) (at + n * stride h)) refl
  where
    go : (b : Bool) → ltb (length s) (at + n * stride h) ≡ b → Inside at (run_counts (coordinates_runs h s n at))
    go true e = subst (λ (w : ParsedRuns). Inside at (run_counts w)) (sym (coordinates_runs_lem h s n at)) (rw e tt)
    go false e = subst (λ (o : Result Counts Reason). Inside at o) (sym (counts_run h s n at e)) (omega (arith, wide_run h.z h.m n), one_le n)

-- a test before what is read at at + 4
after_count : (b : Bool) (at : ℕ) (w : ParsedRuns) → Inside (at + 4) (run_counts w) → Inside at (run_counts (cond b (refused BytesMissing) w))
unfolding run_counts
after_count true at w i = tt
after_count false at w i = later at (at + 4) (run_counts w) (omega arith) i

pub inside_line : (h : WkbHeader) (s : List ℕ) (at : ℕ) → Inside at (run_counts (line_runs h s at))
inside_line h s at =
    subst (λ (w : ParsedRuns). Inside at (run_counts w)) (sym (line_runs_lem h s at))
    (after_count (ltb (length s) (at + 4)) at (coordinates_runs h s (u32_at h.little s at) (at + 4)) (inside_run h s (u32_at h.little s at) (at + 4)))

module _ (f : ℕ → ParsedRuns) (each : (at : ℕ) → Inside at (run_counts (f at))) where
  inside_times : (n at : ℕ) → Inside at (run_counts (times ◌++◌ [] f n at))
  unfolding times run_counts coordinate_count
  inside_times zero at = (omega arith, omega arith)
  inside_times (suc n) at = go (inside_times n) (f at) (each at)
    where
      go : ((e : ℕ) → Inside e (run_counts (times ◌++◌ [] f n e))) → (w : ParsedRuns) → Inside at (run_counts w) → Inside at (run_counts (and_then ◌++◌ w (times ◌++◌ [] f n)))
      go rest (refused k) i = tt
      go rest (ok rs e) i = subst (λ (o : Result Counts Reason). Inside at o) (sym (prepend_counts rs e (times ◌++◌ [] f n e))) (inside_after at (counts_to rs e) (run_counts (times ◌++◌ [] f n e)) i.0 i.1 (rest e))

  inside_list : (little : Bool) (s : List ℕ) (at : ℕ) → Inside at (run_counts (list_at ◌++◌ [] f little s at))
  unfolding list_at
  inside_list little s at = after_count (ltb (length s) (at + 4)) at (times ◌++◌ [] f (u32_at little s at) (at + 4)) (inside_times (u32_at little s at) (at + 4))

inside_content : (c : Option GeometryClass) (levels : ℕ) (s : List ℕ) (each : (at : ℕ) → Inside at (run_counts (walk_runs levels s at))) (h : WkbHeader) → Inside h.body (run_counts (content_runs_at c levels s h))
unfolding content_runs_at run_counts
inside_content (Some class.Point) levels s each h = inside_run h s 1 h.body
inside_content (Some class.Line) levels s each h = inside_line h s h.body
inside_content (Some class.Polygon) levels s each h =
    subst (λ (w : ParsedRuns). Inside h.body (run_counts w)) (sym (rings_runs_lem h s h.body)) (inside_list (line_runs h s) (inside_line h s) h.little s h.body)
inside_content (Some class.Collection) levels s each h =
    subst (λ (w : ParsedRuns). Inside h.body (run_counts w)) (sym (members_runs_lem levels h.little s h.body)) (inside_list (walk_runs levels s) each h.little s h.body)
inside_content None levels s each h = tt

inside_from : (at levels : ℕ) (s : List ℕ) (each : (at : ℕ) → Inside at (run_counts (walk_runs levels s at))) (g : ParsedHeader) → AfterFive at g → Inside at (run_counts (map_parsed runs_of (geometry_from (walk_of levels s) s g)))
unfolding geometry_from run_counts AfterFive map_parsed
inside_from at levels s each (Err k) p = tt
inside_from at levels s each (Ok h) p =
    later at h.body (run_counts (map_parsed runs_of (geometry_from (walk_of levels s) s (Ok h)))) (omega (arith, p))
    (subst (λ (w : ParsedRuns). Inside h.body (run_counts w)) (sym (content_runs_lem (geometry_class_of h.kind) levels s h)) (inside_content (geometry_class_of h.kind) levels s each h))

pub inside_walk : (levels : ℕ) (s : List ℕ) (at : ℕ) → Inside at (run_counts (walk_runs levels s at))
unfolding walk_of run_counts map_parsed
inside_walk zero s at = tt
inside_walk (suc levels) s at = inside_from at levels s (inside_walk levels s) (header_at s at) (header_after s at)

others_few : (rs : List (Run Coordinate)) → other_count rs ≤ length rs
unfolding other_count
others_few [] = omega arith
others_few (run kind cs ∷ rs) = go (is_point kind || is_face kind) (others_few rs)
  where
    go : (b : Bool) → other_count rs ≤ length rs → cond b 1 0 + other_count rs ≤ suc (length rs)
    go true h = omega arith
    go false h = omega arith

-- 16 bytes at least for each coordinate, a coordinate at least for each run
pub record Fits (at : ℕ) (c : Counts) : Type 0 where
  pub bytes : 16 * c.coords + at ≤ c.end
  pub runs : c.runs ≤ c.coords
  pub others : c.others ≤ c.runs

few_others : (w : ParsedRuns) (c : Counts) → run_counts w ≡ Ok c → c.others ≤ c.runs
unfolding run_counts
few_others (refused k) c p = cc
few_others (ok rs end) c p = let number : length rs ≡ c.runs = cc in let other : other_count rs ≡ c.others = cc in omega (arith, others_few rs)

fits : (f : ℕ → ParsedRuns) (each : (at : ℕ) → Inside at (run_counts (f at))) (at : ℕ) (c : Counts) → run_counts (f at) ≡ Ok c → Fits at c
fits f each at c e =
    let i : (16 * c.coords + at ≤ c.end) × (c.runs ≤ c.coords) = subst (λ (o : Result Counts Reason). Inside at o) e (each at) in
    record { bytes = i.0; runs = i.1; others = few_others (f at) c e }

-- so it is of what is counted of a line, and of a geometry
pub line_fits : (h : WkbHeader) (s : List ℕ) (at : ℕ) (c : Counts) → run_counts (line_runs h s at) ≡ Ok c → Fits at c
line_fits h s at c e = fits (line_runs h s) (inside_line h s) at c e

pub walk_fits : (levels : ℕ) (s : List ℕ) (at : ℕ) (c : Counts) → run_counts (walk_runs levels s at) ≡ Ok c → Fits at c
walk_fits levels s at c e = fits (walk_runs levels s) (inside_walk levels s) at c e

-- 16 bytes at least for each coordinate, a coordinate at least for each run, all within the blob
pub record CountsFit (s : List ℕ) (at end : ℕ) (rs : List (Run Coordinate)) : Type 0 where
  pub bytes : 16 * coordinate_count rs + at ≤ end
  pub within : end ≤ length s
  pub runs : length rs ≤ coordinate_count rs

pub walk_counts : (levels : ℕ) (s : List ℕ) (at : ℕ) (g : Geometry) (end : ℕ) → walk_of levels s at ≡ ok g end → CountsFit s at end (runs_of g)
unfolding run_counts map_parsed
walk_counts levels s at g end e =
    let i : (16 * coordinate_count (runs_of g) + at ≤ end) × (length (runs_of g) ≤ coordinate_count (runs_of g)) = subst (λ (w : Parsed Geometry). Inside at (run_counts (map_parsed runs_of w))) e (inside_walk levels s at) in
    record { bytes = i.0; within = (walk_end_lem s levels at g end e).1; runs = i.1 }

-- for every walk, as a refused one has no runs
pub walked_counts : (levels : ℕ) (s : List ℕ) (at : ℕ) → (16 * coordinate_count (walked_runs (walk_of levels s at)) ≤ length s) × (length (walked_runs (walk_of levels s at)) ≤ coordinate_count (walked_runs (walk_of levels s at)))
unfolding walked_runs coordinate_count
walked_counts levels s at = go (walk_of levels s at) refl
  where
    go : (w : Parsed Geometry) → walk_of levels s at ≡ w → (16 * coordinate_count (walked_runs w) ≤ length s) × (length (walked_runs w) ≤ coordinate_count (walked_runs w))
    go (ok g end) e = let c = walk_counts levels s at g end e in (omega (arith, c.bytes, c.within), c.runs)
    go (refused k) e = (omega arith, omega arith)

-- what the loops that count rings and members need
pub ruleset counts_rings = (rings_uncounted, rings_counted, counts_refused, counts_turn, counts_end, line_fits)

pub ruleset counts_members = (members_uncounted, members_counted, counts_refused, counts_turn, counts_end, walk_fits)

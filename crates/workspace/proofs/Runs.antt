-- What the definitions of a run and of a line come to where nothing is refused. Assumes nothing.
use mathlib.Core.Path.{◌≡◌, refl, sym, ap, ◌∙◌}
use mathlib.Core.Bool.{Bool, true, false, cond}
use mathlib.Core.List.{List, [], ◌∷◌, append-nil}
use Prim.Native.Nat.{ℕ, zero, suc, ◌+◌, ◌*◌, ◌≤◌}
use native.Mathlib.Nat.{add-zero, zero-mul}
use native.Mathlib.Numerals.{add-one}
use native.Mathlib.Omega.{arith}
use lib.Dec.{ltb}
use lib.ListN.{length, set}
use lib.Seq.{sets}
use lib.Ieee.{Float}
use borrow.Author.Tests.{ltb-false}
use Rattle.fields.specs.Fields.{u32_at}
use Rattle.refusals.specs.declared.Reason.TheVariants.{BytesMissing}
use Rattle.coords.specs.Walk.{Coordinate, ok, refused, stride, coordinates_from}
use Rattle.coords.specs.Parts.{Run, run, non_empty_run, coordinate_count}
use Rattle.coords.specs.Inner.{ParsedRuns, coordinates_runs, line_runs}
use Rattle.coords.proofs.Runs.{coordinates_runs_lem, line_runs_lem}
use Rattle.coords.specs.declared.WkbHeader.{WkbHeader}
use Rattle.coords.proofs.Laws.{length_coordinates}
use Rattle.workspace.specs.declared.Progress.{Progress}
use Rattle.workspace.specs.Workspace.{floats_per_coordinate, numbers_per_run, run_numbers, coordinates_floats, floats_of, table_of}
use Rattle.workspace.specs.Inner.{floats_after, table_after, progress_after, ReadyToFill, Filled}

-- a test that refuses for missing bytes did not
pub passed : (b : Bool) (w : ParsedRuns) (p : Progress) (lf lt : ℕ) → ReadyToFill (cond b (refused BytesMissing) w) p lf lt → b ≡ false
unfolding ReadyToFill
passed true w p lf lt r = absurd r
passed false w p lf lt r = refl

run_whole : (h : WkbHeader) (s : List ℕ) (n at : ℕ) (p : Progress) (lf lt : ℕ) → ReadyToFill (coordinates_runs h s n at) p lf lt → coordinates_runs h s n at ≡ ok (non_empty_run h.kind (coordinates_from h s n at)) (at + n * stride h)
run_whole h s n at p lf lt r =
    coordinates_runs_lem h s n at ∙ rw (passed (ltb (length s) (at + n * stride h)) _ p lf lt (rw (coordinates_runs_lem h s n at) at r))

pub run_inside : (h : WkbHeader) (s : List ℕ) (n at : ℕ) (p : Progress) (lf lt : ℕ) → ReadyToFill (coordinates_runs h s n at) p lf lt → at + n * stride h ≤ length s
run_inside h s n at p lf lt r =
    ltb-false (length s) (at + n * stride h) (passed (ltb (length s) (at + n * stride h)) _ p lf lt (rw (coordinates_runs_lem h s n at) at r))

run_some : (h : WkbHeader) (s : List ℕ) (n at : ℕ) → (n ≡ 0 → ⊥) → non_empty_run h.kind (coordinates_from h s n at) ≡ run h.kind (coordinates_from h s n at) ∷ []
unfolding non_empty_run coordinates_from
run_some h s zero at f = absurd (f refl)
run_some h s (suc n) at f = refl

run_one : (h : WkbHeader) (s : List ℕ) (n at : ℕ) (p : Progress) (lf lt : ℕ) → (n ≡ 0 → ⊥) → ReadyToFill (coordinates_runs h s n at) p lf lt → coordinates_runs h s n at ≡ ok (run h.kind (coordinates_from h s n at) ∷ []) (at + n * stride h)
run_one h s n at p lf lt f r = run_whole h s n at p lf lt r ∙ ap (λ (rs : List (Run Coordinate)). ok rs (at + n * stride h)) (run_some h s n at f)

pub run_room : (h : WkbHeader) (s : List ℕ) (n at : ℕ) (p : Progress) (lf lt : ℕ) → (n ≡ 0 → ⊥) → ReadyToFill (coordinates_runs h s n at) p lf lt → (floats_per_coordinate * (p.coords + n) ≤ lf) × (numbers_per_run * (p.runs + 1) ≤ lt)
unfolding ReadyToFill coordinate_count
run_room h s n at p lf lt f r =
    let q = rw (run_one h s n at p lf lt f r) at r in
    (omega (arith, q.0, length_coordinates h s n at), q.1)

pub filled_none : (h : WkbHeader) (s : List ℕ) (n : ℕ) (p : Progress) (fs : List Float) (ts : List ℕ) → n ≡ 0 → ReadyToFill (coordinates_runs h s n p.next) p (length fs) (length ts) → Filled (coordinates_runs h s n p.next) p fs ts fs ts p
unfolding progress_after floats_after table_after coordinate_count floats_of table_of non_empty_run coordinates_from
filled_none h s n p fs ts e r =
    rw (run_whole h s n p.next p (length fs) (length ts) r, e)
    (record { progress = simp (zero-mul, add-zero); ordinates = refl; rows = refl })

pub filled_one : (h : WkbHeader) (s : List ℕ) (n at : ℕ) (p : Progress) (fs : List Float) (ts : List ℕ) → (n ≡ 0 → ⊥) → ReadyToFill (coordinates_runs h s n at) p (length fs) (length ts) → Filled (coordinates_runs h s n at) p fs ts (sets fs (floats_per_coordinate * p.coords) (coordinates_floats (coordinates_from h s n at))) (set (set ts (numbers_per_run * p.runs) h.kind) (numbers_per_run * p.runs + 1) n) (record { coords = p.coords + n; runs = p.runs + 1; next = at + n * stride h })
unfolding progress_after floats_after table_after coordinate_count floats_of table_of run_numbers
filled_one h s n at p fs ts f r =
    rw (run_one h s n at p (length fs) (length ts) f r)
    (record { progress = simp (add-zero, length_coordinates); ordinates = simp append-nil; rows = simp (length_coordinates, add-one) })

pub line_inside : (h : WkbHeader) (s : List ℕ) (at : ℕ) (p : Progress) (lf lt : ℕ) → ReadyToFill (line_runs h s at) p lf lt → at + 4 ≤ length s
line_inside h s at p lf lt r =
    ltb-false (length s) (at + 4) (passed (ltb (length s) (at + 4)) _ p lf lt (rw (line_runs_lem h s at) at r))

pub line_is : (h : WkbHeader) (s : List ℕ) (at : ℕ) (p : Progress) (lf lt : ℕ) → ReadyToFill (line_runs h s at) p lf lt → line_runs h s at ≡ coordinates_runs h s (u32_at h.little s at) (at + 4)
line_is h s at p lf lt r = line_runs_lem h s at ∙ rw (passed (ltb (length s) (at + 4)) _ p lf lt (rw (line_runs_lem h s at) at r))

-- only the coordinates and the runs of a progress matter for what is written there
abbrev pub moved : Progress → ℕ → Progress
moved p e = record { coords = p.coords; runs = p.runs; next = e }

pub ready_moved : (w : ParsedRuns) (p : Progress) (e lf lt : ℕ) → ReadyToFill w p lf lt → ReadyToFill w (moved p e) lf lt
unfolding ReadyToFill
ready_moved (ok rs e') p e lf lt r = r
ready_moved (refused k) p e lf lt r = r

pub progress_moved : (w : ParsedRuns) (p : Progress) (e : ℕ) → progress_after w p ≡ progress_after w (moved p e)
unfolding progress_after
progress_moved (ok rs e') p e = refl
progress_moved (refused k) p e = refl

pub floats_moved : (w : ParsedRuns) (p : Progress) (e : ℕ) (l : List Float) → floats_after w p l ≡ floats_after w (moved p e) l
unfolding floats_after
floats_moved (ok rs e') p e l = refl
floats_moved (refused k) p e l = refl

pub table_moved : (w : ParsedRuns) (p : Progress) (e : ℕ) (l : List ℕ) → table_after w p l ≡ table_after w (moved p e) l
unfolding table_after
table_moved (ok rs e') p e l = refl
table_moved (refused k) p e l = refl

filled_moved : (w : ParsedRuns) (p : Progress) (e : ℕ) (fs fs' : List Float) (ts ts' : List ℕ) (r : Progress) → Filled w (moved p e) fs ts fs' ts' r → Filled w p fs ts fs' ts' r
filled_moved w p e fs fs' ts ts' r f =
    record { progress = f.progress ∙ sym (progress_moved w p e); ordinates = f.ordinates ∙ sym (floats_moved w p e fs); rows = f.rows ∙ sym (table_moved w p e ts) }

-- ---- the readers of a geometry's content, each from where the content starts

module _ {w w' : ParsedRuns} (is : w ≡ w') (p : Progress) (e : ℕ) where
  pub ready_at : (lf lt : ℕ) → ReadyToFill w p lf lt → ReadyToFill w' (moved p e) lf lt
  ready_at lf lt r = ready_moved w' p e lf lt (rw is at r)

  pub filled_at : (fs fs' : List Float) (ts ts' : List ℕ) (r : Progress) → Filled w' (moved p e) fs ts fs' ts' r → Filled w p fs ts fs' ts' r
  filled_at fs fs' ts ts' r f = rw is (filled_moved w' p e fs fs' ts ts' r f)

pub line_ready : (h : WkbHeader) (s : List ℕ) (n : ℕ) (p : Progress) (lf lt : ℕ) → n ≡ u32_at h.little s p.next → ReadyToFill (line_runs h s p.next) p lf lt → ReadyToFill (coordinates_runs h s n (p.next + 4)) (moved p (p.next + 4)) lf lt
line_ready h s n p lf lt e r = rw e (ready_at (line_is h s p.next p lf lt r) p (p.next + 4) lf lt r)

pub line_filled : (h : WkbHeader) (s : List ℕ) (n : ℕ) (p : Progress) (fs fs' : List Float) (ts ts' : List ℕ) (q : Progress) → n ≡ u32_at h.little s p.next → ReadyToFill (line_runs h s p.next) p (length fs) (length ts) → Filled (coordinates_runs h s n (p.next + 4)) (moved p (p.next + 4)) fs ts fs' ts' q → Filled (line_runs h s p.next) p fs ts fs' ts' q
line_filled h s n p fs fs' ts ts' q e r f = filled_at (line_is h s p.next p (length fs) (length ts) r) p (p.next + 4) fs fs' ts ts' q (rw e at f)

pub ruleset fills_run = (run_room, run_inside, filled_none, filled_one)

pub ruleset fills_line = (line_inside, line_ready)

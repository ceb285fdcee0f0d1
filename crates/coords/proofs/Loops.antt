-- What a loop over the things of a list counts, turn by turn, for any reader f of one thing. Assumes nothing.
use mathlib.Core.Path.{◌≡◌, refl, sym, ap, ◌∙◌}
use mathlib.Core.List.{List, [], ◌∷◌, ◌++◌}
use Prim.Native.Nat.{ℕ, suc, ◌+◌, ◌-◌, ◌<◌, ◌≤◌}
use native.Mathlib.Nat.{add-zero, zero-add, add_assoc}
use native.Mathlib.Omega.{arith}
use lib.ListN.{length, length-append}
use Rattle.std.specs.Prelude.{Result, Ok, Err}
use Rattle.refusals.specs.declared.Reason.{Reason}
use Rattle.refusals.specs.declared.Reason.TheVariants.{BytesMissing}
use Rattle.fields.specs.Fields.{u32_at}
use mathlib.Core.Bool.{Bool, true, false, cond}
use lib.Dec.{ltb}
use Rattle.coords.specs.Walk.{Coordinate, ok, refused, cons_parsed, and_then, times, list_at}
use Rattle.coords.specs.Parts.{Run, run, coordinate_count, other_if, other_count}
use Rattle.coords.specs.Inner.{ParsedRuns, count_at, coordinates_runs, line_runs, rings_at_runs, members_at_runs, walk_runs}
use Rattle.coords.proofs.Runs.{line_runs_lem, rings_runs_lem, members_runs_lem}
use Rattle.coords.specs.declared.WkbHeader.{WkbHeader}
use Rattle.coords.specs.Counts.{no_counts, joined, run_counts}
use Rattle.coords.specs.declared.Counts.{Counts}

-- what is counted after what was counted before
abbrev pub after : Counts → Result Counts Reason → Result Counts Reason
after a (Ok b) = Ok (joined a b)
after a (Err k) = Err k

pub coords_append : (rs qs : List (Run Coordinate)) → coordinate_count (rs ++ qs) ≡ coordinate_count rs + coordinate_count qs
unfolding coordinate_count
coords_append [] qs = sym (zero-add _)
coords_append (run k vs ∷ rs) qs = ap (λ (n : ℕ). length vs + n) (coords_append rs qs) ∙ sym (add_assoc (length vs) (coordinate_count rs) (coordinate_count qs))

others_append : (rs qs : List (Run Coordinate)) → other_count (rs ++ qs) ≡ other_count rs + other_count qs
unfolding other_count
others_append [] qs = sym (zero-add _)
others_append (run k vs ∷ rs) qs = ap (λ (n : ℕ). other_if k + n) (others_append rs qs) ∙ sym (add_assoc (other_if k) (other_count rs) (other_count qs))

-- the counts of some runs that end somewhere
abbrev pub counts_to : List (Run Coordinate) → ℕ → Counts
counts_to rs end = record { coords = coordinate_count rs; runs = length rs; others = other_count rs; end = end }

pub prepend_counts : (rs : List (Run Coordinate)) (e : ℕ) (w : ParsedRuns) → run_counts (cons_parsed ◌++◌ rs w) ≡ after (counts_to rs e) (run_counts w)
unfolding run_counts
prepend_counts rs e (refused k) = refl
prepend_counts rs e (ok qs end) = simp (coords_append, length-append, others_append)

after_after : (a b : Counts) (o : Result Counts Reason) → after a (after b o) ≡ after (joined a b) o
after_after a b (Ok c) = simp add_assoc
after_after a b (Err k) = refl

module _ (f : ℕ → ParsedRuns) where
  -- what is counted of n things, the first i of which `all` counts
  unfoldable pub counted : ℕ → ℕ → Counts → Result Counts Reason
  counted n i all = after all (run_counts (times ◌++◌ [] f (n - i) all.end))

  pub counts_start : (n at : ℕ) → counted n 0 (no_counts at) ≡ run_counts (times ◌++◌ [] f n at)
  unfolding counted
  counts_start n at = let e : n - 0 ≡ n = omega arith in rw e (go (run_counts (times ◌++◌ [] f n at)))
    where
      go : (o : Result Counts Reason) → after (no_counts at) o ≡ o
      go (Ok c) = simp zero-add
      go (Err k) = refl

  refused_next : (left : ℕ) (all : Counts) (k : Reason) (w : ParsedRuns) → run_counts w ≡ Err k → after all (run_counts (and_then ◌++◌ w (times ◌++◌ [] f left))) ≡ Err k
  unfolding run_counts
  refused_next left all k (refused j) p = ap (after all) p
  refused_next left all k (ok rs e) p = cc

  read_next : (left : ℕ) (all next : Counts) (w : ParsedRuns) → run_counts w ≡ Ok next → after all (run_counts (and_then ◌++◌ w (times ◌++◌ [] f left))) ≡ after (joined all next) (run_counts (times ◌++◌ [] f left next.end))
  unfolding run_counts
  read_next left all next (refused j) p = cc
  read_next left all next (ok rs e) p =
      let is : counts_to rs e ≡ next = cc in
      ap (after all) (prepend_counts rs e (times ◌++◌ [] f left e))
      ∙ (after_after all (counts_to rs e) (run_counts (times ◌++◌ [] f left e))
      ∙ ap (λ (c : Counts). after (joined all c) (run_counts (times ◌++◌ [] f left c.end))) is)

  one_more_left : (n i at : ℕ) → i < n → times ◌++◌ [] f (n - i) at ≡ and_then ◌++◌ (f at) (times ◌++◌ [] f (n - (i + 1)))
  unfolding times
  one_more_left n i at h = let e : n - i ≡ suc (n - (i + 1)) = omega arith in rw e

  -- a thing that is refused ends it
  pub counts_refused : (n i : ℕ) (all : Counts) (k : Reason) → i < n → run_counts (f all.end) ≡ Err k → counted n i all ≡ Err k
  unfolding counted
  counts_refused n i all k h e = rw (one_more_left n i all.end h) (refused_next (n - (i + 1)) all k (f all.end) e)

  -- one that is read counts
  pub counts_turn : (n i : ℕ) (all next : Counts) → i < n → run_counts (f all.end) ≡ Ok next → counted n i all ≡ counted n (i + 1) (joined all next)
  unfolding counted
  counts_turn n i all next h e = rw (one_more_left n i all.end h) (read_next (n - (i + 1)) all next (f all.end) e)

  pub counts_end : (n i : ℕ) (all : Counts) → n ≤ i → counted n i all ≡ Ok all
  unfolding counted times run_counts coordinate_count other_count
  counts_end n i all h = let e : n - i ≡ 0 = omega arith in rw e (simp add-zero)

-- ---- a count, and what is read by it

-- what follows a count that is not there, and one that is
needed_missing : (little : Bool) (s : List ℕ) (at : ℕ) (f : ℕ → ParsedRuns) (k : Reason) → count_at little s at ≡ Err k → cond (ltb (length s) (at + 4)) (refused BytesMissing) (f (u32_at little s at)) ≡ refused k
needed_missing little s at f k = go (ltb (length s) (at + 4))
  where
    go : (b : Bool) → cond b (Err BytesMissing) (Ok (u32_at little s at)) ≡ Err k → cond b (refused BytesMissing) (f (u32_at little s at)) ≡ refused k
    go true e = let is : BytesMissing ≡ k = cc in ap refused is
    go false e = cc

needed_there : (little : Bool) (s : List ℕ) (at : ℕ) (f : ℕ → ParsedRuns) (n : ℕ) → count_at little s at ≡ Ok n → cond (ltb (length s) (at + 4)) (refused BytesMissing) (f (u32_at little s at)) ≡ f n
needed_there little s at f n = go (ltb (length s) (at + 4))
  where
    go : (b : Bool) → cond b (Err BytesMissing) (Ok (u32_at little s at)) ≡ Ok n → cond b (refused BytesMissing) (f (u32_at little s at)) ≡ f n
    go true e = cc
    go false e = let is : u32_at little s at ≡ n = cc in ap f is

pub line_uncounted : (h : WkbHeader) (s : List ℕ) (at : ℕ) (k : Reason) → count_at h.little s at ≡ Err k → run_counts (line_runs h s at) ≡ Err k
unfolding run_counts
line_uncounted h s at k e = ap run_counts (line_runs_lem h s at ∙ needed_missing h.little s at (λ (n : ℕ). coordinates_runs h s n (at + 4)) k e)

pub line_counted : (h : WkbHeader) (s : List ℕ) (at n : ℕ) → count_at h.little s at ≡ Ok n → run_counts (line_runs h s at) ≡ run_counts (coordinates_runs h s n (at + 4))
line_counted h s at n e = ap run_counts (line_runs_lem h s at ∙ needed_there h.little s at (λ (m : ℕ). coordinates_runs h s m (at + 4)) n e)

pub rings_uncounted : (h : WkbHeader) (s : List ℕ) (at : ℕ) (k : Reason) → count_at h.little s at ≡ Err k → run_counts (rings_at_runs h s at) ≡ Err k
unfolding run_counts list_at
rings_uncounted h s at k e = ap run_counts (rings_runs_lem h s at ∙ needed_missing h.little s at (λ (n : ℕ). times ◌++◌ [] (line_runs h s) n (at + 4)) k e)

pub rings_counted : (h : WkbHeader) (s : List ℕ) (at n : ℕ) → count_at h.little s at ≡ Ok n → run_counts (rings_at_runs h s at) ≡ counted (line_runs h s) n 0 (no_counts (at + 4))
unfolding list_at
rings_counted h s at n e =
    ap run_counts (rings_runs_lem h s at ∙ needed_there h.little s at (λ (m : ℕ). times ◌++◌ [] (line_runs h s) m (at + 4)) n e) ∙ sym (counts_start (line_runs h s) n (at + 4))

pub members_uncounted : (levels : ℕ) (little : Bool) (s : List ℕ) (at : ℕ) (k : Reason) → count_at little s at ≡ Err k → run_counts (members_at_runs levels little s at) ≡ Err k
unfolding run_counts list_at
members_uncounted levels little s at k e = ap run_counts (members_runs_lem levels little s at ∙ needed_missing little s at (λ (n : ℕ). times ◌++◌ [] (walk_runs levels s) n (at + 4)) k e)

pub members_counted : (levels : ℕ) (little : Bool) (s : List ℕ) (at n : ℕ) → count_at little s at ≡ Ok n → run_counts (members_at_runs levels little s at) ≡ counted (walk_runs levels s) n 0 (no_counts (at + 4))
unfolding list_at
members_counted levels little s at n e =
    ap run_counts (members_runs_lem levels little s at ∙ needed_there little s at (λ (m : ℕ). times ◌++◌ [] (walk_runs levels s) m (at + 4)) n e) ∙ sym (counts_start (walk_runs levels s) n (at + 4))

-- A loop that writes the things of a list, turn by turn, for any reader f of one thing. Assumes nothing.
use mathlib.Core.Path.{◌≡◌, refl, sym, ap, ◌∙◌}
use mathlib.Core.Bool.{Bool}
use mathlib.Core.List.{List, [], ◌++◌}
use Prim.Native.Nat.{ℕ, zero, suc, ◌+◌, ◌-◌, ◌*◌, ◌<◌, ◌≤◌}
use native.Mathlib.Nat.{add-zero, add_assoc}
use native.Mathlib.Numerals.{sub-one}
use native.Mathlib.Omega.{arith}
use lib.Dec.{ltb}
use lib.ListN.{length, length-append}
use lib.Seq.{sets, length-sets}
use lib.Ieee.{Float}
use borrow.Author.Tests.{ltb-false}
use Rattle.fields.proofs.Stores.{sets_append}
use Rattle.fields.specs.Fields.{u32_at}
use Rattle.coords.specs.Walk.{Coordinate, ok, refused, cons_parsed, and_then, times, list_at}
use Rattle.coords.specs.Parts.{Run, coordinate_count}
use Rattle.coords.specs.Inner.{ParsedRuns, line_runs, rings_at_runs, members_at_runs, walk_runs}
use Rattle.coords.specs.declared.WkbHeader.{WkbHeader}
use Rattle.coords.proofs.Runs.{rings_runs_lem, members_runs_lem}
use Rattle.coords.proofs.Loops.{coords_append}
use Rattle.workspace.specs.declared.Progress.{Progress}
use Rattle.workspace.specs.Workspace.{floats_per_coordinate, numbers_per_run, floats_of, table_of}
use Rattle.workspace.specs.Inner.{floats_after, table_after, progress_after, ReadyToFill, Filled}
use Rattle.workspace.proofs.Contents.{length_floats, floats_append, length_table, table_append}
use Rattle.workspace.proofs.Runs.{passed, moved, ready_moved, progress_moved, floats_moved, table_moved}

-- what is left to write after q comes to what was to be written after p
pub record Turn (all rest : ParsedRuns) (p q : Progress) (fs : List Float) (ts : List ℕ) (fs' : List Float) (ts' : List ℕ) (lf lt : ℕ) : Type 0 where
  pub ready : ReadyToFill rest q lf lt
  pub progress : progress_after all p ≡ progress_after rest q
  pub ordinates : floats_after all p fs ≡ floats_after rest q fs'
  pub rows : table_after all p ts ≡ table_after rest q ts'

floats_on : (rs qs : List (Run Coordinate)) (l : List Float) (n : ℕ) → sets l (floats_per_coordinate * n) (floats_of (rs ++ qs)) ≡ sets (sets l (floats_per_coordinate * n) (floats_of rs)) (floats_per_coordinate * (n + coordinate_count rs)) (floats_of qs)
floats_on rs qs l n =
    let e : floats_per_coordinate * n + length (floats_of rs) ≡ floats_per_coordinate * (n + coordinate_count rs) = omega (arith, length_floats rs) in
    ap (λ (x : List Float). sets l (floats_per_coordinate * n) x) (floats_append rs qs) ∙ (sets_append (floats_of rs) (floats_of qs) l (floats_per_coordinate * n) ∙ ap (λ (k : ℕ). sets (sets l (floats_per_coordinate * n) (floats_of rs)) k (floats_of qs)) e)

table_on : (rs qs : List (Run Coordinate)) (l : List ℕ) (n : ℕ) → sets l (numbers_per_run * n) (table_of (rs ++ qs)) ≡ sets (sets l (numbers_per_run * n) (table_of rs)) (numbers_per_run * (n + length rs)) (table_of qs)
table_on rs qs l n =
    let e : numbers_per_run * n + length (table_of rs) ≡ numbers_per_run * (n + length rs) = omega (arith, length_table rs) in
    ap (λ (x : List ℕ). sets l (numbers_per_run * n) x) (table_append rs qs) ∙ (sets_append (table_of rs) (table_of qs) l (numbers_per_run * n) ∙ ap (λ (k : ℕ). sets (sets l (numbers_per_run * n) (table_of rs)) k (table_of qs)) e)

-- rs is written, and w is what follows it
turn_prepend : (rs : List (Run Coordinate)) (w : ParsedRuns) (p : Progress) (e : ℕ) (fs : List Float) (ts : List ℕ) (lf lt : ℕ) → ReadyToFill (cons_parsed ◌++◌ rs w) p lf lt → Turn (cons_parsed ◌++◌ rs w) w p (record { coords = p.coords + coordinate_count rs; runs = p.runs + length rs; next = e }) fs ts (sets fs (floats_per_coordinate * p.coords) (floats_of rs)) (sets ts (numbers_per_run * p.runs) (table_of rs)) lf lt
unfolding ReadyToFill progress_after floats_after table_after
turn_prepend rs (refused k) p e fs ts lf lt r = absurd r
turn_prepend rs (ok qs e') p e fs ts lf lt r =
    record {
      ready = (omega (arith, r.0, coords_append rs qs), omega (arith, r.1, length-append rs qs));
      progress = simp (coords_append, length-append, add_assoc);
      ordinates = floats_on rs qs fs p.coords;
      rows = table_on rs qs ts p.runs;
    }

turn_then : (w : ParsedRuns) (g : ℕ → ParsedRuns) (p q : Progress) (fs fs' : List Float) (ts ts' : List ℕ) (lf lt : ℕ) → ReadyToFill (and_then ◌++◌ w g) p lf lt → Filled w p fs ts fs' ts' q → Turn (and_then ◌++◌ w g) (g q.next) p q fs ts fs' ts' lf lt
unfolding ReadyToFill progress_after floats_after table_after
turn_then (refused k) g p q fs fs' ts ts' lf lt r f = absurd r
turn_then (ok rs e) g p q fs fs' ts ts' lf lt r f =
    rw (f.progress, f.ordinates, f.rows) (turn_prepend rs (g e) p e fs ts lf lt r)

ready_then : (w : ParsedRuns) (g : ℕ → ParsedRuns) (p : Progress) (lf lt : ℕ) → ReadyToFill (and_then ◌++◌ w g) p lf lt → ReadyToFill w p lf lt
unfolding ReadyToFill
ready_then (refused k) g p lf lt r = absurd r
ready_then (ok rs e) g p lf lt r = go (g e) r
  where
    go : (w : ParsedRuns) → ReadyToFill (cons_parsed ◌++◌ rs w) p lf lt → ReadyToFill (ok rs e) p lf lt
    go (refused k) r' = absurd r'
    go (ok qs e') r' = (omega (arith, r'.0, coords_append rs qs), omega (arith, r'.1, length-append rs qs))

first_ready : (f : ℕ → ParsedRuns) (left at : ℕ) (p : Progress) (lf lt : ℕ) → 0 < left → ReadyToFill (times ◌++◌ [] f left at) p lf lt → ReadyToFill (f at) p lf lt
unfolding times
first_ready f zero at p lf lt h r = absurd (omega arith)
first_ready f (suc n) at p lf lt h r = ready_then (f at) (times ◌++◌ [] f n) p lf lt r

one_turn : (f : ℕ → ParsedRuns) (left : ℕ) (p q : Progress) (fs fs' : List Float) (ts ts' : List ℕ) (lf lt : ℕ) → 0 < left → ReadyToFill (times ◌++◌ [] f left p.next) p lf lt → Filled (f p.next) p fs ts fs' ts' q → Turn (times ◌++◌ [] f left p.next) (times ◌++◌ [] f (left - 1) q.next) p q fs ts fs' ts' lf lt
unfolding times
one_turn f zero p q fs fs' ts ts' lf lt h r d = absurd (omega arith)
one_turn f (suc n) p q fs fs' ts ts' lf lt h r d = rw sub-one (turn_then (f p.next) (times ◌++◌ [] f n) p q fs fs' ts ts' lf lt r d)

-- writing keeps the lengths
length_sets : {A : Type 0} (xs l : List A) (i : ℕ) → length (sets l i xs) ≡ length l
length_sets xs l i = length-sets l i xs

filled_lengths : (w : ParsedRuns) (p q : Progress) (fs fs' : List Float) (ts ts' : List ℕ) → Filled w p fs ts fs' ts' q → (length fs' ≡ length fs) × (length ts' ≡ length ts)
unfolding floats_after table_after
filled_lengths (ok rs e) p q fs fs' ts ts' f = (ap length f.ordinates ∙ length_sets (floats_of rs) fs (floats_per_coordinate * p.coords), ap length f.rows ∙ length_sets (table_of rs) ts (numbers_per_run * p.runs))
filled_lengths (refused k) p q fs fs' ts ts' f = (ap length f.ordinates, ap length f.rows)

module _ (f : ℕ → ParsedRuns) (n : ℕ) (all : ParsedRuns) (p : Progress) (fs : List Float) (ts : List ℕ) where
  -- the first i of n things are written, from p to q: `all` is what the n come to
  pub record Filling (i : ℕ) (q : Progress) (fs' : List Float) (ts' : List ℕ) : Type 0 where
    pub turn : Turn all (times ◌++◌ [] f (n - i) q.next) p q fs ts fs' ts' (length fs) (length ts)
    pub floats : length fs' ≡ length fs
    pub numbers : length ts' ≡ length ts

  begin : (at : ℕ) → all ≡ times ◌++◌ [] f n at → ReadyToFill all p (length fs) (length ts) → Filling 0 (moved p at) fs ts
  begin at e r =
      let none : n - 0 ≡ n = omega arith in
      record {
        turn = rw (none, ← e) (record { ready = ready_moved all p at (length fs) (length ts) r; progress = progress_moved all p at; ordinates = floats_moved all p at fs; rows = table_moved all p at ts });
        floats = refl;
        numbers = refl;
      }

  -- there is room for the next
  pub filling_ready : (i : ℕ) (q : Progress) (fs' : List Float) (ts' : List ℕ) → Filling i q fs' ts' → i < n → ReadyToFill (f q.next) q (length fs') (length ts')
  filling_ready i q fs' ts' a h = rw (a.floats, a.numbers) (first_ready f (n - i) q.next q (length fs) (length ts) (omega arith) a.turn.ready)

  pub filling_next : (i : ℕ) (q r : Progress) (fs' fs'' : List Float) (ts' ts'' : List ℕ) → Filling i q fs' ts' → i < n → Filled (f q.next) q fs' ts' fs'' ts'' r → Filling (i + 1) r fs'' ts''
  filling_next i q r fs' fs'' ts' ts'' a h d =
      let b = one_turn f (n - i) q r fs' fs'' ts' ts'' (length fs) (length ts) (omega arith) a.turn.ready d in
      let e : n - i - 1 ≡ n - (i + 1) = omega arith in
      let l = filled_lengths (f q.next) q r fs' fs'' ts' ts'' d in
      record {
        turn = rw (← e) (record { ready = b.ready; progress = a.turn.progress ∙ b.progress; ordinates = a.turn.ordinates ∙ b.ordinates; rows = a.turn.rows ∙ b.rows });
        floats = l.0 ∙ a.floats;
        numbers = l.1 ∙ a.numbers;
      }

  pub filling_end : (i : ℕ) (q : Progress) (fs' : List Float) (ts' : List ℕ) → Filling i q fs' ts' → n ≤ i → Filled all p fs ts fs' ts' q
  unfolding times progress_after floats_after table_after coordinate_count floats_of table_of
  filling_end i q fs' ts' a h =
      let e : n - i ≡ 0 = omega arith in
      let b = rw e at a.turn in
      record { progress = sym (b.progress ∙ simp add-zero); ordinates = sym b.ordinates; rows = sym b.rows }

list_inside : (f : ℕ → ParsedRuns) (little : Bool) (s : List ℕ) (at : ℕ) (p : Progress) (lf lt : ℕ) → ReadyToFill (list_at ◌++◌ [] f little s at) p lf lt → at + 4 ≤ length s
unfolding list_at
list_inside f little s at p lf lt r = ltb-false (length s) (at + 4) (passed (ltb (length s) (at + 4)) _ p lf lt r)

list_is : (f : ℕ → ParsedRuns) (little : Bool) (s : List ℕ) (at : ℕ) (p : Progress) (lf lt : ℕ) → ReadyToFill (list_at ◌++◌ [] f little s at) p lf lt → list_at ◌++◌ [] f little s at ≡ times ◌++◌ [] f (u32_at little s at) (at + 4)
unfolding list_at
list_is f little s at p lf lt r = rw (passed (ltb (length s) (at + 4)) _ p lf lt r)

pub rings_inside : (h : WkbHeader) (s : List ℕ) (at : ℕ) (p : Progress) (lf lt : ℕ) → ReadyToFill (rings_at_runs h s at) p lf lt → at + 4 ≤ length s
rings_inside h s at p lf lt r = list_inside (line_runs h s) h.little s at p lf lt (rw (rings_runs_lem h s at) at r)

rings_are : (h : WkbHeader) (s : List ℕ) (at : ℕ) (p : Progress) (lf lt : ℕ) → ReadyToFill (rings_at_runs h s at) p lf lt → rings_at_runs h s at ≡ times ◌++◌ [] (line_runs h s) (u32_at h.little s at) (at + 4)
rings_are h s at p lf lt r = rings_runs_lem h s at ∙ list_is (line_runs h s) h.little s at p lf lt (rw (rings_runs_lem h s at) at r)

pub members_inside : (levels : ℕ) (little : Bool) (s : List ℕ) (at : ℕ) (p : Progress) (lf lt : ℕ) → ReadyToFill (members_at_runs levels little s at) p lf lt → at + 4 ≤ length s
members_inside levels little s at p lf lt r = list_inside (walk_runs levels s) little s at p lf lt (rw (members_runs_lem levels little s at) at r)

members_are : (levels : ℕ) (little : Bool) (s : List ℕ) (at : ℕ) (p : Progress) (lf lt : ℕ) → ReadyToFill (members_at_runs levels little s at) p lf lt → members_at_runs levels little s at ≡ times ◌++◌ [] (walk_runs levels s) (u32_at little s at) (at + 4)
members_are levels little s at p lf lt r = members_runs_lem levels little s at ∙ list_is (walk_runs levels s) little s at p lf lt (rw (members_runs_lem levels little s at) at r)

pub rings_begin : (h : WkbHeader) (s : List ℕ) (n : ℕ) (p : Progress) (fs : List Float) (ts : List ℕ) → n ≡ u32_at h.little s p.next → ReadyToFill (rings_at_runs h s p.next) p (length fs) (length ts) → Filling (line_runs h s) n (rings_at_runs h s p.next) p fs ts 0 (moved p (p.next + 4)) fs ts
rings_begin h s n p fs ts e r =
    begin (line_runs h s) n (rings_at_runs h s p.next) p fs ts (p.next + 4) (rings_are h s p.next p (length fs) (length ts) r ∙ ap (λ (k : ℕ). times ◌++◌ [] (line_runs h s) k (p.next + 4)) (sym e)) r

pub members_begin : (levels : ℕ) (little : Bool) (s : List ℕ) (n : ℕ) (p : Progress) (fs : List Float) (ts : List ℕ) → n ≡ u32_at little s p.next → ReadyToFill (members_at_runs levels little s p.next) p (length fs) (length ts) → Filling (walk_runs levels s) n (members_at_runs levels little s p.next) p fs ts 0 (moved p (p.next + 4)) fs ts
members_begin levels little s n p fs ts e r =
    begin (walk_runs levels s) n (members_at_runs levels little s p.next) p fs ts (p.next + 4) (members_are levels little s p.next p (length fs) (length ts) r ∙ ap (λ (k : ℕ). times ◌++◌ [] (walk_runs levels s) k (p.next + 4)) (sym e)) r

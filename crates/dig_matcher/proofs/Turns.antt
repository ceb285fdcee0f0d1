-- A run from hit to hit: what a step of the tape does to what is left to do, and what a hit more does to the hits so far. Assumes nothing.
use Rattle.refusals.specs.declared.Reason.TheVariants.{BrokenTape}
use mathlib.Core.Path.{◌≡◌, refl, sym, ap, ◌∙◌}
use mathlib.Core.List.{List, [], ◌∷◌, ◌++◌}
use Prim.Native.Nat.{ℕ, ◌+◌, ◌<◌, ◌≤◌}
use native.Mathlib.Omega.{arith}
use lib.ListN.{length, take, length-append}
use lib.Ieee.{Float}
use Rattle.std.specs.Prelude.{Option, Some, None, Result, Ok, Err}
use Rattle.std.specs.Borrow.{Bor}
use Rattle.refusals.specs.declared.Refusal.{Refusal}
use Rattle.operands.specs.Operands.{Workspaces}
use Rattle.outcomes.specs.Operations.{no_side}
use Rattle.outcomes.proofs.Lengths.{SameLengths}
use Rattle.dig_matcher.specs.Tape.{load, tolerance, pair}
use Rattle.dig_matcher.specs.Job.{going, stopped, start_of_job, loaded_with, after_command, HitLists}
use Rattle.dig_matcher.specs.Inner.{Reads, loaded_in, Matched, match_of, after_match, run_from, passed_of, stored, StoredBy, placed, KeptBy, KeptOutcome, job_at, run_on, GivesNext}
use Rattle.dig_matcher.specs.declared.Hit.{Hit}
use Rattle.dig_matcher.specs.declared.Run.{Run}
use Rattle.dig_matcher.specs.declared.tape.Step.{Step}
use Rattle.dig_matcher.specs.declared.tape.Step.TheVariants as step
use Rattle.dig_matcher.proofs.Matches.{matched_is, same_match}
use Rattle.dig_matcher.proofs.Runs.{run_command, run_stopped, run_ended, run_breaks}
use Rattle.dig_matcher.proofs.JobLaws.{same_run}

-- ---- up to the next hit

-- what is left from there is what was left where the call began
pub record Turn (w : Workspaces) (begun r : Run) : Type 0 where
  pub shorter : length r.rest.now ≤ length begun.rest.now
  pub rest : (hits : List Hit) → run_on w begun hits ≡ run_on w r hits

-- a command leaves less of the tape
pub goes_on : (tape : List ℕ) (s : Step) (rest : Bor (List ℕ)) → Reads tape (Some (s, rest)) → (s ≡ step.End → ⊥) → length rest.now < length tape
unfolding Reads
goes_on tape (step.Load n blob) rest h e = h.shorter
goes_on tape (step.Tolerance d) rest h e = h.shorter
goes_on tape (step.Pair i j) rest h e = h.shorter
goes_on tape step.End rest h e = absurd (e refl)

module _ (w : Workspaces) where
  pub first_turn : (r : Run) → Turn w r r
  first_turn r = record { shorter = omega arith; rest = λ hits. refl }

  module _ (begun r : Run) (turn : Turn w begun r) (left : Bor (List ℕ)) where
    pub after_load : (n : ℕ) (blob : Bor (List ℕ)) (blobs : List (Option (Bor (List ℕ)))) → loaded_in blobs ≡ loaded_with n blob.now (loaded_in r.blobs) → Reads r.rest.now (Some (step.Load n blob, left)) → Turn w begun (record { blobs = blobs; limit = r.limit; rest = left })
    unfolding Reads after_command
    after_load n blob blobs e s = record {
      shorter = omega (arith, turn.shorter, s.shorter);
      rest = λ hits. turn.rest hits ∙ run_command w r.rest.now (load n blob.now) left.now (job_at r hits) s ∙ rw e;
    }

    pub after_tolerance : (d : Float) → Reads r.rest.now (Some (step.Tolerance d, left)) → Turn w begun (record { blobs = r.blobs; limit = d; rest = left })
    unfolding Reads after_command
    after_tolerance d s = record {
      shorter = omega (arith, turn.shorter, s.shorter);
      rest = λ hits. turn.rest hits ∙ run_command w r.rest.now (tolerance d) left.now (job_at r hits) s;
    }

    pub run_ends : Reads r.rest.now (Some (step.End, left)) → GivesNext w begun (record { blobs = r.blobs; limit = r.limit; rest = left }) (Ok None)
    unfolding Reads GivesNext
    run_ends s hits = turn.rest hits ∙ run_ended w _ r.rest.now s

    module _ (i j : ℕ) (s : Reads r.rest.now (Some (step.Pair i j, left))) (v : Workspaces) (same : SameLengths w v) (m : Matched) (is : m ≡ match_of v r.limit (loaded_in r.blobs i) (loaded_in r.blobs j)) where
      -- the run behind the pair
      abbrev behind : Run
      behind = record { blobs = r.blobs; limit = r.limit; rest = left }

      pair_left : (hits : List Hit) → run_on w begun hits ≡ run_from w (after_match (job_at r hits) i j m) left.now
      unfolding Reads after_command
      pair_left hits = turn.rest hits ∙ run_command w r.rest.now (pair i j) left.now (job_at r hits) s ∙ rw (matched_is w (job_at r hits) i j (loaded_in r.blobs i) (loaded_in r.blobs j), same_match w v same r.limit (loaded_in r.blobs i) (loaded_in r.blobs j), is)

      less : length left.now < length begun.rest.now
      unfolding Reads
      less = omega (arith, turn.shorter, s.shorter)

      pub pair_refused : (e : Refusal) → m ≡ Err e → GivesNext w begun behind (Err e)
      unfolding after_match GivesNext
      pair_refused e f hits = pair_left hits ∙ rw f (run_stopped w e left.now)

      pub no_hit : m ≡ Ok None → Turn w begun behind
      unfolding after_match
      no_hit f = record { shorter = omega (arith, less); rest = λ hits. pair_left hits ∙ rw f }

      pub a_hit : (d : Float) → m ≡ Ok (Some d) → GivesNext w begun behind (Ok (Some (record { first = i; second = j; apart = d })))
      unfolding after_match GivesNext
      a_hit d f = (less, λ hits. pair_left hits ∙ rw f)

  pub tape_breaks : (begun r : Run) → Turn w begun r → Reads r.rest.now None → GivesNext w begun r (Err (no_side BrokenTape))
  unfolding Reads GivesNext
  tape_breaks begun r turn s hits = turn.rest hits ∙ run_breaks w _ r.rest.now s

-- ---- from hit to hit

-- with these hits so far, what is left gives what the whole gives
pub record HitsSoFar (w : Workspaces) (tape : List ℕ) (r : Run) (count : ℕ) (already : List Hit) : Type 0 where
  pub counted : count ≡ length already
  pub rest : run_from w (going start_of_job) tape ≡ run_on w r already
  pub few : count + length r.rest.now ≤ length tape

-- a hit leaves less of the tape
pub next_on : (w : Workspaces) (r r' : Run) (h : Hit) → GivesNext w r r' (Ok (Some h)) → length r'.rest.now < length r.rest.now
unfolding GivesNext
next_on w r r' h g = g.0

module _ (w : Workspaces) (tape : List ℕ) where
  pub no_hits_yet : (r : Run) → job_at r [] ≡ start_of_job → r.rest.now ≡ tape → HitsSoFar w tape r 0 []
  no_hits_yet r start whole = record { counted = refl; rest = rw (start, whole); few = omega (arith, ap length whole) }

  module _ (r r' : Run) (count : ℕ) (already : List Hit) (so_far : HitsSoFar w tape r count already) (v : Workspaces) (same : SameLengths w v) where
    pub one_hit_more : (h : Hit) → GivesNext v r r' (Ok (Some h)) → HitsSoFar w tape r' (count + 1) (already ++ (h ∷ []))
    unfolding GivesNext
    one_hit_more h g =
        record {
          counted = simp length-append (omega (arith, so_far.counted));
          rest = so_far.rest ∙ same_run w v same _ _ ∙ g.1 already ∙ sym (same_run w v same _ _);
          few = omega (arith, so_far.few, g.0);
        }

    pub run_at_end : GivesNext v r r' (Ok None) → run_from w (going start_of_job) tape ≡ going (job_at r' already)
    unfolding GivesNext
    run_at_end g = so_far.rest ∙ same_run w v same _ _ ∙ g already

    pub run_refused : (e : Refusal) → GivesNext v r r' (Err e) → run_from w (going start_of_job) tape ≡ stopped e
    unfolding GivesNext
    run_refused e g = so_far.rest ∙ same_run w v same _ _ ∙ g already

-- ---- what a run comes to

module _ (w : Workspaces) (tape : List ℕ) where
  pub kept_ended : (r : Run) (before after hits : List Hit) (n : ℕ) → run_from w (going start_of_job) tape ≡ going (job_at r hits) → n ≡ length hits → after ≡ placed (take (length before) hits) before → KeptOutcome (run_from w (going start_of_job) tape) before after (Ok n)
  unfolding passed_of KeptBy
  kept_ended r before after hits n e count kept = record { answer = rw (e, count); hits = rw e kept }

  pub kept_refused : (e : Refusal) (before after : List Hit) → run_from w (going start_of_job) tape ≡ stopped e → KeptOutcome (run_from w (going start_of_job) tape) before after (Err e)
  unfolding passed_of KeptBy
  kept_refused e before after is = record { answer = rw is; hits = rw is tt }

  -- the hits are written, unless the run is refused
  pub written_ended : (r : Run) (before after : HitLists) (hits : List Hit) → run_from w (going start_of_job) tape ≡ going (job_at r hits) → after ≡ stored before hits → StoredBy (run_from w (going start_of_job) tape) before after
  unfolding StoredBy
  written_ended r before after hits e put = rw e put

  pub written_refused : (before after : HitLists) (e : Refusal) → run_from w (going start_of_job) tape ≡ stopped e → StoredBy (run_from w (going start_of_job) tape) before after
  unfolding StoredBy
  written_refused before after e is = rw is tt

  -- no hit more: the run is at its end, or refused
  pub written_all : (r r' : Run) (count : ℕ) (already : List Hit) → HitsSoFar w tape r count already → (v : Workspaces) → SameLengths w v → (o : Result (Option Hit) Refusal) → GivesNext v r r' o → ((h : Hit) → o ≡ Ok (Some h) → ⊥) → (before after : HitLists) → after ≡ stored before already → StoredBy (run_from w (going start_of_job) tape) before after
  written_all r r' count already so_far v same (Ok None) g f before after put = written_ended r' before after already (run_at_end w tape r r' count already so_far v same g) put
  written_all r r' count already so_far v same (Ok (Some h)) g f before after put = absurd (f h refl)
  written_all r r' count already so_far v same (Err e) g f before after put = written_refused before after e (run_refused w tape r r' count already so_far v same e g)

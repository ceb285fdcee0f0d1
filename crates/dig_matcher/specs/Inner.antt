-- A tape read command by command, the blobs that are loaded, and the hits that a pass stores: for inner contracts only. Definitions only.
use Rattle.refusals.specs.declared.Reason.TheVariants.{NoSuchBlob}
use Rattle.std.specs.Prelude.{ℕ, ◌<◌, ◌≡◌, true, cond, ltb, length, take, drop, get_or, set, Float}
use mathlib.Core.List.{List, [], ◌∷◌, ◌++◌, map, foldl}
use Rattle.std.specs.Prelude.{Option, Some, None, Result, Ok, Err}
use Rattle.std.specs.Borrow.{Bor}
use Rattle.std.specs.Float.Ieee.{le}
use Rattle.refusals.specs.Checks.{first_of}
use Rattle.refusals.specs.Table.{sided}
use Rattle.refusals.specs.declared.Refusal.{Refusal}
use Rattle.operands.specs.Operands.{Workspaces}
use Rattle.outcomes.specs.Answers.{number, decided, blob, nothing, Report, answering, refused}
use Rattle.outcomes.specs.Operations.{no_side, tolerance_checks, distance}
use Rattle.dig_matcher.specs.Tape.{Command, load, tolerance, pair, Reading, unfinished, ended, unknown, tape_of, commands_of, is_broken}
use Rattle.dig_matcher.specs.Job.{Job, Progress, going, stopped, stepped, at_tape_end, HitLists, hit_lists, places_in}
use Rattle.dig_matcher.specs.declared.tape.Step.{Step}
use Rattle.dig_matcher.specs.declared.tape.Step.TheVariants as step
use Rattle.dig_matcher.specs.declared.Hit.{Hit}
use Rattle.dig_matcher.specs.declared.Run.{Run}

-- ---- the tape

-- a command before what is read after it
unfoldable pub command_before : Command → Reading → Reading
command_before c (unfinished cs part) = unfinished (c ∷ cs) part
command_before c (ended cs) = ended (c ∷ cs)
command_before c (unknown cs) = unknown (c ∷ cs)

-- a tape starts with this command, and this is left after it
pub record Starts (tape : List ℕ) (c : Command) (rest : List ℕ) : Type 0 where
  pub shorter : length rest < length tape
  pub read : tape_of tape ≡ command_before c (tape_of rest)

-- what is read of a tape: its first command, and what is left; none: it breaks there
unfoldable pub Reads : List ℕ → Option (Step × Bor (List ℕ)) → Type 0
Reads tape (Some (step.Load n s, rest)) = Starts tape (load n s.now) rest.now
Reads tape (Some (step.Tolerance d, rest)) = Starts tape (tolerance d) rest.now
Reads tape (Some (step.Pair i j, rest)) = Starts tape (pair i j) rest.now
Reads tape (Some (step.End, rest)) = tape_of tape ≡ ended []
Reads tape None = (is_broken (tape_of tape) ≡ true) × (commands_of (tape_of tape) ≡ [])

-- ---- the blobs that are loaded

-- a blob's bytes
unfoldable pub blob_of : Option (Bor (List ℕ)) → Option (List ℕ)
blob_of (Some b) = Some b.now
blob_of None = None

-- by number
abbrev pub loaded_in : List (Option (Bor (List ℕ))) → ℕ → Option (List ℕ)
loaded_in blobs n = blob_of (get_or blobs n None)

-- ---- two numbers matched

-- what two numbers come to: how far apart their blobs are, if that is a hit
abbrev pub Matched : Type 0
Matched = Result (Option Float) Refusal

-- what a distance's report comes to
unfoldable pub reported_match : Float → Report → Matched
reported_match limit (refused reason side) = Err (sided side reason)
reported_match limit (answering (number d)) = cond (le d limit) (Ok (Some d)) (Ok None)
reported_match limit (answering (decided b)) = Ok None
reported_match limit (answering blob) = Ok None
reported_match limit (answering nothing) = Ok None

unfoldable pub checked_match : Option Refusal → Matched → Matched
checked_match (Some r) m = Err r
checked_match None m = m

unfoldable pub match_of : Workspaces → Float → Option (List ℕ) → Option (List ℕ) → Matched
match_of w limit (Some a) (Some b) = checked_match (first_of (tolerance_checks limit)) (reported_match limit (distance a b 1 w).report)
match_of w limit (Some a) None = Err (no_side NoSuchBlob)
match_of w limit None b = Err (no_side NoSuchBlob)

-- a job once two numbers were matched
unfoldable pub after_match : Job → ℕ → ℕ → Matched → Progress
after_match job i k (Ok (Some d)) = going (record { loaded = job.loaded; limit = job.limit; hits = job.hits ++ (record { first = i; second = k; apart = d } ∷ []) })
after_match job i k (Ok None) = going job
after_match job i k (Err r) = stopped r

-- ---- a pass over the tape

-- from a job on, to the tape's end
unfoldable pub run_from : Workspaces → Progress → List ℕ → Progress
run_from w p s = at_tape_end (is_broken (tape_of s)) (foldl (stepped w) p (commands_of (tape_of s)))

unfoldable pub passed_of : Progress → Result ℕ Refusal
passed_of (going job) = Ok (length job.hits)
passed_of (stopped r) = Err r

-- values before what stands after as many places
abbrev pub placed : {A : Type 0} → List A → List A → List A
placed xs l = xs ++ drop (length xs) l

-- the lists once hits are stored: as many of the first as they have places for
unfoldable pub stored : HitLists → List Hit → HitLists
stored l hits =
    hit_lists (placed (map (λ (h : Hit). h.first) (take (places_in l) hits)) l.firsts)
    (placed (map (λ (h : Hit). h.second) (take (places_in l) hits)) l.seconds)
    (placed (map (λ (h : Hit). h.apart) (take (places_in l) hits)) l.distances)

-- stopped: nothing is said of the lists
unfoldable pub StoredBy : Progress → HitLists → HitLists → Type 0
StoredBy (going job) before after = after ≡ stored before job.hits
StoredBy (stopped r) before after = Unit {0}

-- hits kept: as many of the first as there is room for; nothing is said of them where the run is stopped
unfoldable pub KeptBy : Progress → List Hit → List Hit → Type 0
KeptBy (going job) before after = after ≡ placed (take (length before) job.hits) before
KeptBy (stopped r) before after = Unit {0}

pub record KeptOutcome (p : Progress) (before after : List Hit) (r : Result ℕ Refusal) : Type 0 where
  pub answer : r ≡ passed_of p
  pub hits : KeptBy p before after

-- ---- a run from hit to hit

-- the job that a run has come to with these hits
abbrev pub job_at : Run → List Hit → Job
job_at r hits = record { loaded = loaded_in r.blobs; limit = r.limit; hits = hits }

-- what is left of the tape, run from there
abbrev pub run_on : Workspaces → Run → List Hit → Progress
run_on w r hits = run_from w (going (job_at r hits)) r.rest.now

-- the next hit is the next of the run's, the end is its end, and a refusal stops it
unfoldable pub GivesNext : Workspaces → Run → Run → Result (Option Hit) Refusal → Type 0
GivesNext w r r' (Ok (Some h)) = (length r'.rest.now < length r.rest.now) × ((hits : List Hit) → run_on w r hits ≡ run_on w r' (hits ++ (h ∷ [])))
GivesNext w r r' (Ok None) = (hits : List Hit) → run_on w r hits ≡ going (job_at r' hits)
GivesNext w r r' (Err e) = (hits : List Hit) → run_on w r hits ≡ stopped e

-- one hit, after k others
unfoldable pub with_hit : ℕ → Hit → HitLists → HitLists
with_hit k h l = cond (ltb k (places_in l)) (hit_lists (set l.firsts k h.first) (set l.seconds k h.second) (set l.distances k h.apart)) l

-- A job: the commands of a tape, one after the other, and the list of its hits (document 02, 5/13). Definitions only.
-- Undecided are the order of the hits in the list, and what a job leaves in the workspaces, refused or not: the request leaves both open. Not seen here is the
-- payload of a NaN that a place of the distances held and keeps, since the model of floats has one NaN; a hit's distance is never NaN.
use Rattle.refusals.specs.declared.Reason.TheVariants.{BrokenTape, ListsTooShort, NoSuchBlob}
use Rattle.std.specs.Prelude.{ℕ, min, ◌≡◌, Bool, true, false, cond, ltb, eqb, length, take, drop, Float, Option, None, Some, Result, Ok, Err}
use mathlib.Core.List.{List, [], ◌∷◌, ◌++◌, foldl, Perm}
use Rattle.std.specs.Float.Ieee.{le}
use Rattle.ieee754.specs.MinMax.{positive_zero}
use Rattle.refusals.specs.Checks.{first_of}
use Rattle.refusals.specs.Table.{sided}
use Rattle.refusals.specs.declared.Refusal.{Refusal}
use Rattle.operands.specs.Operands.{Workspaces}
use Rattle.outcomes.specs.Answers.{Value, number, decided, blob, nothing, Report, answering, refused}
use Rattle.outcomes.specs.Operations.{no_side, tolerance_checks, distance}
use Rattle.dig_matcher.specs.Tape.{Command, load, tolerance, pair, tape_of, commands_of, is_broken}
use Rattle.dig_matcher.specs.declared.Hit.{Hit}

-- ---- what a job holds

-- the blob loaded under each number, the tolerance, the hits so far
pub record Job : Type 0 where
  pub loaded : ℕ → Option (List ℕ)
  pub limit : Float
  pub hits : List Hit

-- "The tolerance starts at 0"
abbrev pub start_of_job : Job
start_of_job = record { loaded = λ n. None; limit = positive_zero; hits = [] }

-- it goes on, or a refusal has ended it
pub data Progress : Type 0 where
  going : Job → Progress
  stopped : Refusal → Progress

-- ---- one command

-- "loading a number again replaces it"
unfoldable pub loaded_with : ℕ → List ℕ → (ℕ → Option (List ℕ)) → ℕ → Option (List ℕ)
loaded_with n s loaded k = cond (eqb k n) (Some s) (loaded k)

-- a hit "if it is within tolerance": a NaN distance is not, under a NaN tolerance nothing is, and where there is no distance there is no hit
unfoldable pub hits_of : ℕ → ℕ → Float → Value → List Hit
hits_of i j limit (number d) = cond (le d limit) (record { first = i; second = j; apart = d } ∷ []) []
hits_of i j limit (decided b) = []
hits_of i j limit blob = []
hits_of i j limit nothing = []

-- "A measuring refusal ends the job with its own number and side"
unfoldable pub after_report : Job → ℕ → ℕ → Report → Progress
after_report job i j (refused reason side) = stopped (sided side reason)
after_report job i j (answering v) = going (record { loaded = job.loaded; limit = job.limit; hits = job.hits ++ hits_of i j job.limit v })

-- a check's refusal, else as it goes on
unfoldable pub after_checks : Option Refusal → Progress → Progress
after_checks (Some r) p = stopped r
after_checks None p = p

-- "21, a number not loaded"; then "a tolerance below 0 is met as 1"; then the distance of side 1, the first, from side 2, by rule 1. Of the workspaces only the
-- lengths matter
unfoldable pub matched : Workspaces → Job → ℕ → ℕ → Option (List ℕ) → Option (List ℕ) → Progress
matched w job i j (Some a) (Some b) = after_checks (first_of (tolerance_checks job.limit)) (after_report job i j (distance a b 1 w).report)
matched w job i j (Some a) None = stopped (no_side NoSuchBlob)
matched w job i j None b = stopped (no_side NoSuchBlob)

unfoldable pub after_command : Workspaces → Job → Command → Progress
after_command w job (load n s) = going (record { loaded = loaded_with n s job.loaded; limit = job.limit; hits = job.hits })
after_command w job (tolerance d) = going (record { loaded = job.loaded; limit = d; hits = job.hits })
after_command w job (pair i j) = matched w job i j (job.loaded i) (job.loaded j)

-- ---- all of them

-- a refusal ends the job
unfoldable pub stepped : Workspaces → Progress → Command → Progress
stepped w (going job) c = after_command w job c
stepped w (stopped r) c = stopped r

-- 20 where the tape breaks, after the commands before that
unfoldable pub at_tape_end : Bool → Progress → Progress
at_tape_end true (going job) = stopped (no_side BrokenTape)
at_tape_end false (going job) = going job
at_tape_end broken (stopped r) = stopped r

-- "22, more hits than the list holds", "22 after all"
unfoldable pub if_room : ℕ → Progress → Progress
if_room room (going job) = cond (ltb room (length job.hits)) (stopped (no_side ListsTooShort)) (going job)
if_room room (stopped r) = stopped r

-- a job with workspaces of these lengths, whose list has so many places
unfoldable pub job_of : List ℕ → Workspaces → ℕ → Progress
job_of tape w room = if_room room (at_tape_end (is_broken (tape_of tape)) (foldl (stepped w) (going start_of_job) (commands_of (tape_of tape))))

-- ---- the list

-- "in three lent slices"
pub record HitLists : Type 0 where
  pub firsts : List ℕ
  pub seconds : List ℕ
  pub distances : List Float

abbrev pub hit_lists : List ℕ → List ℕ → List Float → HitLists
hit_lists f s d = record { firsts = f; seconds = s; distances = d }

-- "that hold as many as the shortest"
abbrev pub places_in : HitLists → ℕ
places_in l = min (length l.firsts) (min (length l.seconds) (length l.distances))

-- the hits of three lists, as many as the shortest has
unfoldable pub hits_from : List ℕ → List ℕ → List Float → List Hit
hits_from [] seconds distances = []
hits_from (i ∷ firsts) [] distances = []
hits_from (i ∷ firsts) (j ∷ seconds) [] = []
hits_from (i ∷ firsts) (j ∷ seconds) (d ∷ distances) = record { first = i; second = j; apart = d } ∷ hits_from firsts seconds distances

-- an accepted job's list: its first places have the hits, in some order; the others keep what they held
pub record Listed (before after : HitLists) (hits : List Hit) : Type 0 where
  pub in_some_order : Perm (hits_from (take (length hits) after.firsts) (take (length hits) after.seconds) (take (length hits) after.distances)) hits
  pub other_firsts : drop (length hits) after.firsts ≡ drop (length hits) before.firsts
  pub other_seconds : drop (length hits) after.seconds ≡ drop (length hits) before.seconds
  pub other_distances : drop (length hits) after.distances ≡ drop (length hits) before.distances

-- "The hit list is changed only if the job is accepted"
unfoldable pub ListedBy : Progress → HitLists → HitLists → Type 0
ListedBy (going job) before after = Listed before after job.hits
ListedBy (stopped r) before after = after ≡ before

-- "The answer is the number of hits"
unfoldable pub answer_of_job : Progress → Result ℕ Refusal
answer_of_job (going job) = Ok (length job.hits)
answer_of_job (stopped r) = Err r

-- the answer, and the list after the call, from the one before it
pub record JobOutcome (tape : List ℕ) (w : Workspaces) (before after : HitLists) (r : Result ℕ Refusal) : Type 0 where
  pub answer : r ≡ answer_of_job (job_of tape w (places_in before))
  pub list : ListedBy (job_of tape w (places_in before)) before after

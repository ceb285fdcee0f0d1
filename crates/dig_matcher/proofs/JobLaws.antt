-- From what a pass comes to to what a job answers, and what a job depends on. Assumes nothing.
use Rattle.refusals.specs.declared.Reason.TheVariants.{ListsTooShort}
use mathlib.Core.Path.{◌≡◌, refl, ap, ◌∙◌, fun_ext}
use mathlib.Core.List.Perm
use mathlib.Core.List.{List, [], ◌∷◌, map}
use Prim.Native.Nat.{ℕ, ◌<◌, ◌≤◌}
use native.Mathlib.Omega.{arith}
use borrow.Author.Tests.{lt-ltb, le-ltb}
use lib.ListN.{length, take, drop, length-map}
use lib.Seq.{take_all, take_at, drop_at}
use Rattle.refusals.specs.Checks.{first_of}
use Rattle.refusals.specs.declared.Refusal.{Refusal}
use Rattle.operands.specs.Operands.{Workspaces}
use Rattle.outcomes.specs.Answers.{Report}
use Rattle.outcomes.specs.Operations.{no_side, tolerance_checks}
use Rattle.outcomes.proofs.Lengths.{SameLengths, same_distance}
use Rattle.dig_matcher.specs.Tape.{Command, load, tolerance, pair}
use Rattle.dig_matcher.specs.Job.{Job, Progress, going, stopped, start_of_job, after_report, after_checks, matched, after_command, stepped, if_room, job_of, HitLists, hit_lists, places_in, hits_from, Listed, ListedBy, answer_of_job, JobOutcome}
use Rattle.dig_matcher.specs.Inner.{run_from, passed_of, placed, stored, StoredBy, KeptBy, KeptOutcome}
use Rattle.std.specs.Prelude.{Option, Some, None, Ok, Err}
use Rattle.dig_matcher.specs.declared.Hit.{Hit}

-- ---- of the workspaces only the lengths matter

module _ (w v : Workspaces) (same : SameLengths w v) where
  same_matched : (job : Job) (i k : ℕ) (x y : Option (List ℕ)) → matched w job i k x y ≡ matched v job i k x y
  unfolding matched
  same_matched job i k (Some a) (Some b) = ap (λ (r : Report). after_checks (first_of (tolerance_checks job.limit)) (after_report job i k r)) (same_distance a b w v same 1)
  same_matched job i k (Some a) None = refl
  same_matched job i k None y = refl

  same_after : (job : Job) (c : Command) → after_command w job c ≡ after_command v job c
  unfolding after_command
  same_after job (load n s) = refl
  same_after job (tolerance d) = refl
  same_after job (pair i j) = same_matched job i j (job.loaded i) (job.loaded j)

  same_step : (p : Progress) (c : Command) → stepped w p c ≡ stepped v p c
  unfolding stepped
  same_step (going job) c = same_after job c
  same_step (stopped r) c = refl

  same_steps : stepped w ≡ stepped v
  same_steps = fun_ext (λ (p : Progress). fun_ext (λ (c : Command). same_step p c))

  pub same_run : (p : Progress) (s : List ℕ) → run_from w p s ≡ run_from v p s
  unfolding run_from
  same_run p s = rw same_steps

  -- End theorem: what a job comes to depends on the tape, the room and the lengths of the workspaces, never on what stands in them
  pub job_of_lengths : (tape : List ℕ) (room : ℕ) → job_of tape w room ≡ job_of tape v room
  unfolding job_of
  job_of_lengths tape room = rw same_steps

-- ---- what the answer of a pass says of the run

refused_is : (p : Progress) (r : Refusal) → Err r ≡ passed_of p → p ≡ stopped r
unfolding passed_of
refused_is (going job) r e = cc
refused_is (stopped q) r e = cc

ended_is : (p : Progress) (n : ℕ) → Ok n ≡ passed_of p → (job : Job) × (p ≡ going job) × (n ≡ length job.hits)
unfolding passed_of
ended_is (going job) n e = (job, refl, cc)
ended_is (stopped r) n e = let z : ◌≡◌ {A = ℕ} 0 1 = cc in absurd (omega arith)

-- ---- the list

hits_from_lem : (hits : List Hit) → hits_from (map (λ (h : Hit). h.first) hits) (map (λ (h : Hit). h.second) hits) (map (λ (h : Hit). h.apart) hits) ≡ hits
unfolding hits_from
hits_from_lem [] = refl
hits_from_lem (h ∷ hs) = ap {B = List Hit} (λ r. h ∷ r) (hits_from_lem hs)

module _ {B : Type 0} (f : Hit → B) (hits : List Hit) (l : List B) where
  field_taken : take (length hits) (placed (map f hits) l) ≡ map f hits
  field_taken = take_at (map f hits) _ (length hits) (length-map hits f)

  field_left : drop (length hits) (placed (map f hits) l) ≡ drop (length hits) l
  field_left = drop_at (map f hits) _ (length hits) (length-map hits f) ∙ rw (length-map hits f)

-- with room for all
pub stored_all : (l : HitLists) (hits : List Hit) → length hits ≤ places_in l → stored l hits ≡ hit_lists (placed (map (λ (h : Hit). h.first) hits) l.firsts) (placed (map (λ (h : Hit). h.second) hits) l.seconds) (placed (map (λ (h : Hit). h.apart) hits) l.distances)
unfolding stored
stored_all l hits room = rw (take_all (places_in l) hits room)

pub stored_listed : (l : HitLists) (hits : List Hit) → length hits ≤ places_in l → Listed l (stored l hits) hits
stored_listed l hits room =
    rw (stored_all l hits room) (record {
      in_some_order = rw (field_taken (λ (h : Hit). h.first) hits l.firsts, field_taken (λ (h : Hit). h.second) hits l.seconds, field_taken (λ (h : Hit). h.apart) hits l.distances, hits_from_lem hits) (Perm.refl hits);
      other_firsts = field_left (λ (h : Hit). h.first) hits l.firsts;
      other_seconds = field_left (λ (h : Hit). h.second) hits l.seconds;
      other_distances = field_left (λ (h : Hit). h.apart) hits l.distances;
    })

-- ---- a job's outcome

module _ (tape : List ℕ) (w : Workspaces) (before : HitLists) where
  job_is : (p : Progress) → run_from w (going start_of_job) tape ≡ p → job_of tape w (places_in before) ≡ if_room (places_in before) p
  unfolding job_of run_from
  job_is p e = ap (if_room (places_in before)) e

  accepted_is : (job : Job) → run_from w (going start_of_job) tape ≡ going job → length job.hits ≤ places_in before → job_of tape w (places_in before) ≡ going job
  unfolding if_room
  accepted_is job e room = job_is (going job) e ∙ rw (le-ltb (places_in before) (length job.hits) room)

  job_stops : (r : Refusal) → job_of tape w (places_in before) ≡ stopped r → JobOutcome tape w before before (Err r)
  unfolding answer_of_job ListedBy
  job_stops r e = record { answer = rw e; list = rw e refl }

  job_accepted : (job : Job) (after : HitLists) → job_of tape w (places_in before) ≡ going job → Listed before after job.hits → JobOutcome tape w before after (Ok (length job.hits))
  unfolding answer_of_job ListedBy
  job_accepted job after e listed = record { answer = rw e; list = rw e listed }

  listed_so : (n : ℕ) (job : Job) (after : HitLists) → run_from w (going start_of_job) tape ≡ going job → n ≡ length job.hits → n ≤ places_in before → after ≡ stored before job.hits → JobOutcome tape w before after (Ok n)
  listed_so n job after e counted room is =
      let fits : length job.hits ≤ places_in before = omega arith in
      rw (is, counted) (job_accepted job _ (accepted_is job e fits) (stored_listed before job.hits fits))

  module _ (kept kept' : List Hit) where
    -- the run was refused
    pub job_refused : (r : Refusal) → KeptOutcome (run_from w (going start_of_job) tape) kept kept' (Err r) → JobOutcome tape w before before (Err r)
    unfolding if_room
    job_refused r o = job_stops r (job_is (stopped r) (refused_is _ r o.answer))

    module _ (n : ℕ) (o : KeptOutcome (run_from w (going start_of_job) tape) kept kept' (Ok n)) where
      -- it ended with more hits than the list holds
      pub job_too_many : places_in before < n → JobOutcome tape w before before (Err (no_side ListsTooShort))
      unfolding if_room
      job_too_many over =
          let found = ended_is _ n o.answer in
          job_stops (no_side ListsTooShort) (job_is (going found.0) found.1 ∙ rw (lt-ltb (places_in before) (length found.0.hits) (omega (arith, found.2))))

      -- the hits kept, copied
      pub job_copied : n ≤ length kept → n ≤ places_in before → JobOutcome tape w before (stored before (take n kept')) (Ok n)
      unfolding KeptBy
      job_copied enough room = by_job (ended_is _ n o.answer)
        where
          by_job : (job : Job) × (run_from w (going start_of_job) tape ≡ going job) × (n ≡ length job.hits) → JobOutcome tape w before (stored before (take n kept')) (Ok n)
          by_job found =
              let all : take (length kept) found.0.hits ≡ found.0.hits = take_all (length kept) found.0.hits (omega (arith, found.2)) in
              let held : kept' ≡ placed found.0.hits kept = (rw found.1 at o.hits) ∙ rw all in
              let same : take n kept' ≡ found.0.hits = rw (held, found.2) (take_at found.0.hits _ (length found.0.hits) refl) in
              listed_so n found.0 _ found.1 found.2 room (rw same)

      -- a second run, which writes them where they belong
      pub job_again : (v : Workspaces) → SameLengths w v → (after : HitLists) → StoredBy (run_from v (going start_of_job) tape) before after → n ≤ places_in before → JobOutcome tape w before after (Ok n)
      unfolding StoredBy
      job_again v same after again room = by_job (ended_is _ n o.answer)
        where
          by_job : (job : Job) × (run_from w (going start_of_job) tape ≡ going job) × (n ≡ length job.hits) → JobOutcome tape w before after (Ok n)
          by_job found = listed_so n found.0 after found.1 found.2 room (rw (← (same_run w v same (going start_of_job) tape), found.1) at again)

-- Two numbers matched, and a hit put. Assumes nothing.
use Rattle.refusals.specs.declared.Reason.TheVariants.{NoSuchBlob, ToleranceBelowZero}
use mathlib.Core.Path.{◌≡◌, refl, ap, ◌∙◌}
use mathlib.Core.Bool.{Bool, true, false, cond}
use mathlib.Core.List.{List, [], ◌∷◌, ◌++◌, append-nil}
use Prim.Native.Nat.{ℕ, ◌<◌, ◌≤◌}
use lib.ListN.{set}
use lib.Ieee.{Float, lt, le}
use borrow.Author.Tests.{lt-ltb, le-ltb}
use Rattle.ieee754.specs.MinMax.{positive_zero}
use Rattle.refusals.specs.Checks.{first_of}
use Rattle.refusals.specs.declared.Refusal.{Refusal}
use Rattle.operands.specs.Operands.{Workspaces}
use Rattle.outcomes.specs.Answers.{number, decided, blob, nothing, Report, answering, refused, answer_report}
use Rattle.outcomes.specs.Operations.{Outcome, outcome, no_side, tolerance_checks, distance}
use Rattle.outcomes.specs.declared.Answer.{Answer}
use Rattle.outcomes.proofs.Lengths.{SameLengths, same_distance}
use Rattle.dig_matcher.specs.Job.{Job, Progress, going, hits_of, after_report, after_checks, matched, HitLists, hit_lists, places_in}
use Rattle.dig_matcher.specs.Inner.{blob_of, Matched, reported_match, checked_match, match_of, after_match, with_hit}
use Rattle.std.specs.Prelude.{Option, Some, None, Ok, Err}
use Rattle.std.specs.Borrow.{Bor}
use Rattle.dig_matcher.specs.declared.Hit.{Hit}

-- ---- a match and the definition of a job

module _ (job : Job) (i k : ℕ) where
  with_hits : List Hit → Progress
  with_hits hits = going (record { loaded = job.loaded; limit = job.limit; hits = hits })

  none_more : with_hits (job.hits ++ []) ≡ going job
  unfolding with_hits
  none_more = ap with_hits (append-nil job.hits)

  hit_or_none : (d : Float) (within : Bool) → with_hits (job.hits ++ cond within (record { first = i; second = k; apart = d } ∷ []) []) ≡ after_match job i k (cond within (Ok (Some d)) (Ok None))
  unfolding with_hits after_match
  hit_or_none d true = refl
  hit_or_none d false = none_more

  reported_is : (r : Report) → after_report job i k r ≡ after_match job i k (reported_match job.limit r)
  unfolding with_hits after_report hits_of reported_match after_match
  reported_is (refused n side) = refl
  reported_is (answering (number d)) = hit_or_none d (le d job.limit)
  reported_is (answering (decided b)) = none_more
  reported_is (answering blob) = none_more
  reported_is (answering nothing) = none_more

  checked_is : (o : Option Refusal) (r : Report) → after_checks o (after_report job i k r) ≡ after_match job i k (checked_match o (reported_match job.limit r))
  unfolding after_checks checked_match after_match
  checked_is (Some x) r = refl
  checked_is None r = reported_is r

-- a job's step, by what the match comes to
pub matched_is : (w : Workspaces) (job : Job) (i k : ℕ) (x y : Option (List ℕ)) → matched w job i k x y ≡ after_match job i k (match_of w job.limit x y)
unfolding matched match_of after_match
matched_is w job i k (Some a) (Some b) = checked_is job i k (first_of (tolerance_checks job.limit)) (distance a b 1 w).report
matched_is w job i k (Some a) None = refl
matched_is w job i k None y = refl

-- a distance is a hit exactly where it is at most the limit
pub within_limit : (d limit : Float) → le d limit ≡ true → Ok (Some d) ≡ reported_match limit (answering (number d))
unfolding reported_match
within_limit d limit e = rw e

pub beyond_limit : (d limit : Float) → le d limit ≡ false → Ok None ≡ reported_match limit (answering (number d))
unfolding reported_match
beyond_limit d limit e = rw e

-- of the workspaces only the lengths matter
pub same_match : (w v : Workspaces) → SameLengths w v → (limit : Float) (x y : Option (List ℕ)) → match_of w limit x y ≡ match_of v limit x y
unfolding match_of
same_match w v same limit (Some a) (Some b) = ap (λ (r : Report). checked_match (first_of (tolerance_checks limit)) (reported_match limit r)) (same_distance a b w v same 1)
same_match w v same limit (Some a) None = refl
same_match w v same limit None y = refl

-- what is not some is none
pub none_left : {A : Type 0} (o : Option A) → ((x : A) → o ≡ Some x → ⊥) → o ≡ None
none_left None f = refl
none_left (Some x) f = absurd (f x refl)

-- one is not loaded
pub first_missing : (w : Workspaces) (limit : Float) (first second : Option (Bor (List ℕ))) → first ≡ None → Err (no_side NoSuchBlob) ≡ match_of w limit (blob_of first) (blob_of second)
unfolding match_of blob_of
first_missing w limit first second e = rw e

pub second_missing : (w : Workspaces) (limit : Float) (first second : Option (Bor (List ℕ))) → second ≡ None → Err (no_side NoSuchBlob) ≡ match_of w limit (blob_of first) (blob_of second)
unfolding match_of blob_of
second_missing w limit None second e = refl
second_missing w limit (Some a) second e = rw e

-- both are loaded
module _ (w : Workspaces) (limit : Float) (a b : List ℕ) where
  tolerance_is : (below : Bool) → lt limit positive_zero ≡ below → first_of (tolerance_checks limit) ≡ cond below (Some (no_side ToleranceBelowZero)) None
  unfolding first_of tolerance_checks
  tolerance_is below e = ap (λ (t : Bool). cond t (Some (no_side ToleranceBelowZero)) None) e

  pub below_zero : lt limit positive_zero ≡ true → match_of w limit (Some a) (Some b) ≡ Err (no_side ToleranceBelowZero)
  unfolding match_of checked_match
  below_zero e = rw (tolerance_is true e)

  -- by the call's outcome
  pub by_answer : lt limit positive_zero ≡ false → (after : Workspaces) (answer : Answer) (m : Matched) → outcome (answer_report answer) after [] ≡ distance a b 1 w → m ≡ reported_match limit (answer_report answer) → m ≡ match_of w limit (Some a) (Some b)
  unfolding match_of checked_match
  by_answer e after answer m is told = told ∙ ap (λ (o : Outcome). reported_match limit o.report) is ∙ rw (tolerance_is false e)

-- ---- the hits

-- a hit has its place, or none
pub hit_put : (k : ℕ) (h : Hit) (l : HitLists) → k < places_in l → with_hit k h l ≡ hit_lists (set l.firsts k h.first) (set l.seconds k h.second) (set l.distances k h.apart)
unfolding with_hit
hit_put k h l u = rw (lt-ltb k (places_in l) u)

pub hit_left : (k : ℕ) (h : Hit) (l : HitLists) → places_in l ≤ k → with_hit k h l ≡ l
unfolding with_hit
hit_left k h l u = rw (le-ltb k (places_in l) u)

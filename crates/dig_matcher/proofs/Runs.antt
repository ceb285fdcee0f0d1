-- A run through what is left of a tape: what one command, the end and a break do to it. Assumes nothing.
use Rattle.refusals.specs.declared.Reason.TheVariants.{BrokenTape}
use mathlib.Core.Path.{◌≡◌, refl, fun_ext}
use mathlib.Core.Bool.{Bool, true, false, cond}
use mathlib.Core.List.{List, [], ◌∷◌, foldl}
use Rattle.std.specs.Prelude.{Option, None, Some}
use Rattle.std.specs.Borrow.{Bor}
use Prim.Native.Nat.{ℕ, zero, suc, ◌<◌}
use borrow.Author.Tests.{eqb-true, eqb-false}
use lib.Dec.{eqb}
use lib.ListN.{length, set, replicate}
use lib.Seq.{get_or-set_same, get_or-set_other}
use Rattle.refusals.specs.declared.Refusal.{Refusal}
use Rattle.operands.specs.Operands.{Workspaces}
use Rattle.outcomes.specs.Operations.{no_side}
use Rattle.dig_matcher.specs.Tape.{Command, ended, tape_of, commands_of}
use Rattle.dig_matcher.specs.Job.{Job, going, stopped, after_command, stepped, at_tape_end, loaded_with}
use Rattle.dig_matcher.specs.Inner.{Starts, blob_of, loaded_in, run_from}
use Rattle.dig_matcher.proofs.TapeLaws.{Breaks, run_step, run_end, run_broken}

-- ---- a command, a refusal, the end, a break

-- the run goes on after a command
pub run_command : (w : Workspaces) (tape : List ℕ) (c : Command) (rest : List ℕ) (job : Job) → Starts tape c rest → run_from w (going job) tape ≡ run_from w (after_command w job c) rest
unfolding stepped
run_command w tape c rest job h = run_step w (going job) tape c rest h

pub stays_stopped : (w : Workspaces) (r : Refusal) (cs : List Command) → foldl (stepped w) (stopped r) cs ≡ stopped r
unfolding stepped
stays_stopped w r [] = refl
stays_stopped w r (c ∷ cs) = stays_stopped w r cs

end_stopped : (broken : Bool) (r : Refusal) → at_tape_end broken (stopped r) ≡ stopped r
unfolding at_tape_end
end_stopped true r = refl
end_stopped false r = refl

-- a refusal ends the run
pub run_stopped : (w : Workspaces) (r : Refusal) (s : List ℕ) → run_from w (stopped r) s ≡ stopped r
unfolding run_from
run_stopped w r s = rw (stays_stopped w r (commands_of (tape_of s)), end_stopped)

-- 04: the job is as it is
pub run_ended : (w : Workspaces) (job : Job) (s : List ℕ) → tape_of s ≡ ended [] → run_from w (going job) s ≡ going job
unfolding at_tape_end
run_ended w job s e = run_end w (going job) s e

-- 20
pub run_breaks : (w : Workspaces) (job : Job) (s : List ℕ) → Breaks s → run_from w (going job) s ≡ stopped (no_side BrokenTape)
unfolding at_tape_end
run_breaks w job s b = run_broken w (going job) s b

-- ---- the blobs that are loaded

-- a blob stored is a blob loaded
pub blob_stored : (blobs : List (Option (Bor (List ℕ)))) (n : ℕ) (b : Bor (List ℕ)) → n < length blobs → loaded_in (set blobs n (Some b)) ≡ loaded_with n b.now (loaded_in blobs)
unfolding loaded_with blob_of
blob_stored blobs n b h = fun_ext (λ (k : ℕ). at_number k (eqb k n) refl)
  where
    at_number : (k : ℕ) (same : Bool) → eqb k n ≡ same → loaded_in (set blobs n (Some b)) k ≡ cond (eqb k n) (Some b.now) (loaded_in blobs k)
    at_number k true e = let z : k ≡ n = eqb-true k n e in rw (e, z, get_or-set_same blobs n (Some b) None h)
    at_number k false e = rw (e, get_or-set_other blobs n k (Some b) None (eqb-false k n e))

-- none is loaded
pub none_loaded : (m : ℕ) → loaded_in (replicate m None) ≡ (λ (n : ℕ). None)
unfolding blob_of
none_loaded m = fun_ext (λ (n : ℕ). at_number m n)
  where
    at_number : (m n : ℕ) → loaded_in (replicate m None) n ≡ None
    at_number zero n = refl
    at_number (suc m) zero = refl
    at_number (suc m) (suc n) = at_number m n

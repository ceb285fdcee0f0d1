-- What is written is what is promised of it. Assumes nothing.
use mathlib.Core.Path.{◌≡◌, refl, sym, ap, subst, ◌∙◌}
use mathlib.Core.List.{List, ◌++◌}
use Prim.Native.Nat.{ℕ, ◌<◌}
use lib.ListN.{length, take, drop, get_or}
use lib.Seq.{take_at}
use Rattle.std.specs.Prelude.{Option, None, Some, Result, Ok, Err}
use Rattle.refusals.specs.Checks.{first_of}
use Rattle.refusals.specs.declared.Refusal.{Refusal}
use Rattle.blob.specs.Written.{output_by, WrittenOutcome}
use Rattle.joining.specs.Joined.{joined_blob, join_checks}
use Rattle.joining.specs.Promises.{ReadsAsBoth, MaxDistanceOfBoth, JoinReads, JoinMaxDistance}
use Rattle.joining.proofs.Size.{joined_size}
use Rattle.joining.proofs.ReadBack.{joined_reads}
use Rattle.joining.proofs.MaxDistance.{joined_max_distance}

-- ---- the outcome

pub refused_outcome : {x : Option Refusal} (blob output : List ℕ) {r : Refusal} → x ≡ Some r → WrittenOutcome x blob output output (Err r)
unfolding output_by
refused_outcome blob output e = record { answer = rw e; left = rw e }

pub written_outcome : {x : Option Refusal} (blob output : List ℕ) {output' : List ℕ} {n : ℕ} → x ≡ None → n ≡ length blob → output' ≡ blob ++ drop (length blob) output → WrittenOutcome x blob output output' (Ok n)
unfolding output_by
written_outcome blob output e size left = record { answer = rw (e, size); left = rw (e, left) }

-- ---- what it promises

-- nothing was refused, the size that a call tells is the blob's, and so are the bytes
written_is : (x : Option Refusal) (blob output output' : List ℕ) (r : Result ℕ Refusal) → WrittenOutcome x blob output output' r → (n : ℕ) → r ≡ Ok n → (x ≡ None) × (n ≡ length blob) × (take n output' ≡ blob)
unfolding output_by
written_is (Some t) blob output output' r w n q = let e : ◌≡◌ {A = Result ℕ Refusal} (Err t) (Ok n) = sym w.answer ∙ q in cc
written_is None blob output output' r w n q =
    let e : ◌≡◌ {A = Result ℕ Refusal} (Ok (length blob)) (Ok n) = sym w.answer ∙ q in
    let size : length blob ≡ n = cc in
    (refl, sym size, ap (take n) w.left ∙ take_at blob (drop (length blob) output) n size)

module _ (x : Option Refusal) (a b output output' : List ℕ) (r : Result ℕ Refusal) (w : WrittenOutcome x (joined_blob a b) output output' r) where
  pub join_reads : (x ≡ None → ReadsAsBoth a b (joined_blob a b)) → JoinReads Ok a b r output'
  join_reads h =
      record {
        answered = λ n q. let i = written_is x (joined_blob a b) output output' r w n q in i.1 ∙ joined_size a b;
        reads = λ n q. let i = written_is x (joined_blob a b) output output' r w n q in subst (ReadsAsBoth a b) (sym i.2) (h i.0);
      }

  pub join_max_distance : (x ≡ None → MaxDistanceOfBoth a b (joined_blob a b)) → JoinMaxDistance Ok a b r output'
  join_max_distance h = record { max_distance = λ n q. let i = written_is x (joined_blob a b) output output' r w n q in subst (MaxDistanceOfBoth a b) (sym i.2) (h i.0) }

-- ---- all three, of a join whose blobs are bytes

pub record Promised (a b output output' : List ℕ) (r : Result ℕ Refusal) : Type 0 where
  pub outcome : WrittenOutcome (first_of (join_checks a b (length output))) (joined_blob a b) output output' r
  pub reads : JoinReads Ok a b r output'
  pub max_distance : JoinMaxDistance Ok a b r output'

pub promised : (a b output output' : List ℕ) (r : Result ℕ Refusal) → ((i : ℕ) → get_or a i 0 < 256) → ((i : ℕ) → get_or b i 0 < 256) → WrittenOutcome (first_of (join_checks a b (length output))) (joined_blob a b) output output' r → Promised a b output output' r
promised a b output output' r bytes1 bytes2 w =
    let x = first_of (join_checks a b (length output)) in
    record {
      outcome = w;
      reads = join_reads x a b output output' r w (joined_reads a b (length output) bytes1 bytes2);
      max_distance = join_max_distance x a b output output' r w (λ e. joined_max_distance a b (joined_blob a b) (joined_reads a b (length output) bytes1 bytes2 e));
    }

-- The outcome that a swept pair makes, whichever pair it is: what is reported and written of it. Assumes nothing.
use mathlib.Core.Path.{◌≡◌, refl, sym, ◌∙◌}
use mathlib.Core.List.{List, []}
use Prim.Native.Nat.{ℕ}
use lib.Ieee.{Float, le, eq}
use Rattle.std.specs.Prelude.{Option, None, Some, Result, Ok, Err}
use Rattle.ieee754.specs.MinMax.{positive_zero}
use Rattle.refusals.specs.Checks.{refused_or}
use Rattle.refusals.specs.declared.Refusal.{Refusal}
use Rattle.refusals.proofs.Checks.{refused_is, accepted_is}
use Rattle.gpb.specs.Header.{srid_of}
use Rattle.primitives.specs.declared.Witness.{Witness}
use Rattle.operands.specs.Operands.{Workspaces, filled}
use Rattle.outcomes.specs.Answers.{Value, Report, answering, refusing, answer_report}
use Rattle.outcomes.specs.Operations.{Outcome, outcome, unless, distance_value, within_value, touching_value, blob_value}
use Rattle.outcomes.specs.Inner.{memory_by, swept_of, pair_of, found_in, PairSwept, answer_of_swept, decided_report, swept_report, swept_output, HasRoom}
use Rattle.outcomes.specs.declared.Swept.{Swept}

-- the pair's distance, and what is decided of it, as the operations' values have it
pub swept_measured : (r : Result (Option Swept) Refusal) → answer_report (answer_of_swept r) ≡ swept_report distance_value r
swept_measured (Err t) = refl
swept_measured (Ok None) = refl
swept_measured (Ok (Some s)) = refl

pub swept_within : (d : Float) (r : Result (Option Swept) Refusal) → decided_report (λ m. le m d) (answer_of_swept r) ≡ swept_report (within_value d) r
swept_within d (Err t) = refl
swept_within d (Ok None) = refl
swept_within d (Ok (Some s)) = refl

pub swept_touching : (r : Result (Option Swept) Refusal) → decided_report (λ m. eq m positive_zero) (answer_of_swept r) ≡ swept_report touching_value r
swept_touching (Err t) = refl
swept_touching (Ok None) = refl
swept_touching (Ok (Some s)) = refl

-- a refusal asks no room
pub room_of_found : {needed lent : ℕ} (r : Result (Option Swept) Refusal) → ((s : Option Swept) → r ≡ Ok s → HasRoom needed lent s) → HasRoom needed lent (found_in r)
room_of_found (Ok s) enough = enough s refl
room_of_found (Err t) enough = tt

-- ---- the outcome

pair_again : (srid : ℕ) (p : Option Witness) → pair_of (swept_of srid p) ≡ p
pair_again srid None = refl
pair_again srid (Some x) = refl

module _ {first : Option Refusal} {p : Option Witness} {a b : List ℕ} {w w' : Workspaces} {r : Result (Option Swept) Refusal} (pair : PairSwept first p a b w w' r) where
  -- refused: the refusal is reported, and nothing is written
  pub refused : {e : Refusal} → r ≡ Err e → (accepted : Outcome) (lent : List ℕ) → outcome (refusing e) w' lent ≡ unless first accepted w lent
  refused {e} q accepted lent = rw (pair.memory, refused_is first _ e (sym pair.answer ∙ q))

  -- no output is written
  pub told : (value : Option Witness → Value) {report : Report} → report ≡ swept_report value r → outcome report w' [] ≡ unless first (outcome (answering (value p)) (filled a b w) []) w []
  told value e = rw (e, pair.answer, pair.memory) (go first)
    where
      go : (x : Option Refusal) → outcome (swept_report value (refused_or x (swept_of (srid_of a) p))) (memory_by x a b w) [] ≡ unless x (outcome (answering (value p)) (filled a b w) []) w []
      go (Some t) = refl
      go None = rw (pair_again (srid_of a) p)

  -- the pair is written, if there is one
  pub written : (after : ℕ → Option Witness → List ℕ → List ℕ) → ((srid : ℕ) (l : List ℕ) → after srid None l ≡ l) → {report : Report} → report ≡ swept_report blob_value r → (lent : List ℕ) {output : List ℕ} → output ≡ swept_output after (found_in r) lent
      → outcome report w' output ≡ unless first (outcome (answering (blob_value p)) (filled a b w) (after (srid_of a) p lent)) w lent
  written after kept says lent e = rw (says, e) (by_answer r refl)
    where
      by_pair : (p : Option Witness) → outcome (answering (blob_value (pair_of (swept_of (srid_of a) p)))) (filled a b w) (swept_output after (swept_of (srid_of a) p) lent) ≡ outcome (answering (blob_value p)) (filled a b w) (after (srid_of a) p lent)
      by_pair None = rw (kept (srid_of a) lent)
      by_pair (Some x) = refl

      by_answer : (x : Result (Option Swept) Refusal) → r ≡ x → outcome (swept_report blob_value x) w' (swept_output after (found_in x) lent) ≡ unless first (outcome (answering (blob_value p)) (filled a b w) (after (srid_of a) p lent)) w lent
      by_answer (Err t) q = refused q _ lent
      by_answer (Ok s) q =
          let n = accepted_is first (swept_of (srid_of a) p) s (sym pair.answer ∙ q) in
          rw (pair.memory, n.0, ← n.1) (by_pair p)

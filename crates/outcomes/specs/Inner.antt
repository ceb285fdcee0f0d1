-- An operation's answer by the pair that it swept for: for inner contracts only. Definitions only.
use Rattle.std.specs.Prelude.{ℕ, ◌≤◌, ◌≡◌, Bool, false, List, Float, Option, Some, None, Result, Ok, Err, option_map}
use Rattle.refusals.specs.Checks.{refused_or}
use Rattle.refusals.specs.declared.Refusal.{Refusal}
use Rattle.gpb.specs.Header.{srid_of}
use Rattle.primitives.specs.declared.Witness.{Witness}
use Rattle.operands.specs.Operands.{Workspaces, filled}
use Rattle.outcomes.specs.Answers.{Value, decided, Report, answering, refusing}
use Rattle.outcomes.specs.declared.Answer.{Answer}
use Rattle.outcomes.specs.declared.Answer.TheVariants as answer-case
use Rattle.outcomes.specs.declared.Swept.{Swept}

-- the memory lent: refused, unchanged; else both blobs are read into it
abbrev pub memory_by : Option Refusal → List ℕ → List ℕ → Workspaces → Workspaces
memory_by (Some r) a b w = w
memory_by None a b w = filled a b w

-- what a sweep found, with an SRID
abbrev pub swept_of : ℕ → Option Witness → Option Swept
swept_of srid pair = option_map (λ x. record { witness = x; srid = srid }) pair

-- and without it
abbrev pub pair_of : Option Swept → Option Witness
pair_of found = option_map (λ s. s.witness) found

-- what a sweep found; a refused one found nothing
abbrev pub found_in : Result (Option Swept) Refusal → Option Swept
found_in (Ok found) = found
found_in (Err r) = None

-- a sweep of both blobs, where nothing is refused
pub record PairSwept (first : Option Refusal) (pair : Option Witness) (a b : List ℕ) (w w' : Workspaces) (r : Result (Option Swept) Refusal) : Type 0 where
  pub answer : r ≡ refused_or first (swept_of (srid_of a) pair)
  pub memory : w' ≡ memory_by first a b w

-- the distance of the pair as an answer
abbrev pub answer_of_swept : Result (Option Swept) Refusal → Answer
answer_of_swept (Ok (Some s)) = answer-case.Measured s.witness.d
answer_of_swept (Ok None) = answer-case.Nothing
answer_of_swept (Err r) = answer-case.Refused r

-- yes or no by a test of an answered distance; none gives no
abbrev pub decided_report : (Float → Bool) → Answer → Report
decided_report test (answer-case.Refused r) = refusing r
decided_report test answer-case.Nothing = answering (decided false)
decided_report test (answer-case.Measured d) = answering (decided (test d))

-- what is reported of a sweep, by the value of its pair
abbrev pub swept_report : (Option Witness → Value) → Result (Option Swept) Refusal → Report
swept_report value (Ok s) = answering (value (pair_of s))
swept_report value (Err r) = refusing r

-- what is left in the output, by what is written of a pair
abbrev pub swept_output : (ℕ → Option Witness → List ℕ → List ℕ) → Option Swept → List ℕ → List ℕ
swept_output after None output = output
swept_output after (Some s) output = after s.srid (Some s.witness) output

-- so many bytes are there for the pair, if there is one
abbrev pub HasRoom : ℕ → ℕ → Option Swept → Type 0
HasRoom needed lent None = Unit {0}
HasRoom needed lent (Some s) = needed ≤ lent

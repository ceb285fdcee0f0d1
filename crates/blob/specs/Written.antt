-- A blob that is written into lent output: what is answered, and what is left there (document 02, 4/13: "The size, which is answered"). Definitions only.
use Rattle.std.specs.Prelude.{ℕ, ◌≡◌, List, ◌++◌, length, drop, Option, None, Some, Result}
use Rattle.refusals.specs.Checks.{refused_or}
use Rattle.refusals.specs.declared.Refusal.{Refusal}

-- by the first check that holds: unchanged where it refuses; else the blob, and what stood after its bytes
unfoldable pub output_by : Option Refusal → List ℕ → List ℕ → List ℕ
output_by (Some r) blob output = output
output_by None blob output = blob ++ drop (length blob) output

-- the answer, a refusal or the blob's size, and the output after the call, from the one before it
pub record WrittenOutcome (first : Option Refusal) (blob output output' : List ℕ) (r : Result ℕ Refusal) : Type 0 where
  pub answer : r ≡ refused_or first (length blob)
  pub left : output' ≡ output_by first blob output

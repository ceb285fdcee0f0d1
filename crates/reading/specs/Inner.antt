-- Both blobs read into lent memory: for inner contracts only. Definitions only.
use Rattle.std.specs.Prelude.{ℕ, ◌≡◌, Bool, false, List, [], ◌∷◌, ◌++◌, ltb, Option, Result}
use Rattle.std.specs.Float.Ieee.{lt}
use Rattle.ieee754.specs.MinMax.{positive_zero}
use Rattle.refusals.specs.Checks.{Check, check, first_of, refused_or}
use Rattle.refusals.specs.declared.Reason.TheVariants.{OutputTooShort}
use Rattle.refusals.specs.declared.Refusal.{Refusal}
use Rattle.gpb.specs.Header.{srid_of}
use Rattle.workspace.specs.Workspace.{numbers_needed}
use Rattle.blob.specs.Blob.{runs_of_blob}
use Rattle.operands.specs.Operands.{Workspaces, lent_checks}
use Rattle.outcomes.specs.Operations.{no_side, tolerance_checks, rule_checks}
use Rattle.outcomes.specs.Inner.{memory_by}
use Rattle.reading.specs.declared.Asked.{Asked}
use Rattle.reading.specs.declared.Asked.TheVariants as asked
use Rattle.reading.specs.declared.Question.{Question}
use Rattle.reading.specs.declared.BothRead.{BothRead}

-- the checks of an operation, by those of its operands: 1 before them, 16 after them
abbrev pub asked_checks : Asked → List (Check Refusal) → List (Check Refusal)
asked_checks asked.Distance operands = operands
asked_checks (asked.Within d) operands = tolerance_checks d ++ operands
asked_checks (asked.Bytes lent needed) operands = operands ++ (check (no_side OutputTooShort) (ltb lent needed) ∷ [])

-- 1 and 16 by themselves
abbrev pub below_zero : Asked → Bool
below_zero asked.Distance = false
below_zero (asked.Within d) = lt d positive_zero
below_zero (asked.Bytes lent needed) = false

abbrev pub too_short : Asked → Bool
too_short asked.Distance = false
too_short (asked.Within d) = false
too_short (asked.Bytes lent needed) = ltb lent needed

-- the first of them that holds, of the memory lent
abbrev pub first_asked : Asked → List ℕ → List ℕ → Workspaces → Option Refusal
first_asked q a b w = first_of (asked_checks q (lent_checks a b w))

-- the same where there is a rule: 17 after 1, before the operands' checks
abbrev pub first_by_rule : Question → List ℕ → List ℕ → Workspaces → Option Refusal
first_by_rule q a b w = first_of (asked_checks q.asked (rule_checks q.rule ++ lent_checks a b w))

-- how many numbers of each table are written, and side 1's SRID
abbrev pub both_read : List ℕ → List ℕ → BothRead
both_read a b = record { numbers1 = numbers_needed (runs_of_blob a); numbers2 = numbers_needed (runs_of_blob b); srid = srid_of a }

pub record ReadBoth (first : Option Refusal) (a b : List ℕ) (w w' : Workspaces) (r : Result BothRead Refusal) : Type 0 where
  pub answer : r ≡ refused_or first (both_read a b)
  pub memory : w' ≡ memory_by first a b w

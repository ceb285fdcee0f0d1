-- Both blobs of a join once their bytes are in order: for inner contracts only. Definitions only.
use Rattle.std.specs.Prelude.{◌≡◌, List, ℕ, None}
use Rattle.refusals.specs.Checks.{first_of}
use Rattle.operands.specs.Operands.{both_checks}
use Rattle.operands.specs.Inner.{operands_of}
use Rattle.operands.specs.declared.Operands.{Operands}

-- headers and walks refuse nothing, and the operands are the blobs'
pub record BothRead (a b : List ℕ) (o : Operands) : Type 0 where
  pub in_order : first_of (both_checks a b) ≡ None
  pub own : o ≡ operands_of a b

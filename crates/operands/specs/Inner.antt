-- What the checks of both operands answer: for inner contracts only. Definitions only.
use Rattle.std.specs.Prelude.{ℕ, List}
use Rattle.gpb.specs.Header.{srid_of}
use Rattle.blob.specs.Blob.{walk_of_blob}
use Rattle.blob.specs.Inner.{operand_of}
use Rattle.blob.specs.declared.Lent.{Lent}
use Rattle.workspace.specs.Workspace.{Room}
use Rattle.operands.specs.declared.Operands.{Operands}

abbrev pub operands_of : List ℕ → List ℕ → Operands
operands_of a b = record { first = operand_of a; second = operand_of b; srid = srid_of a }

-- both walks refuse nothing, and both workspaces have room
pub record Ready (a b : List ℕ) (l m : Lent) : Type 0 where
  pub first : Room (walk_of_blob a) l.floats l.numbers
  pub second : Room (walk_of_blob b) m.floats m.numbers

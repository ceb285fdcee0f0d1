-- The memory lent to a call: what stood there at entry, and what is left there at exit (document 01, Parts). Definitions only.
use Rattle.std.specs.Prelude.{ℕ, List, [], Float}
use denote.Triple.Both.{Both}
use Rattle.std.specs.Borrow.{MutBor}
use Rattle.operands.specs.Operands.{Workspaces, workspaces}

-- a slice that a call may write, as a contract names it: at entry and at exit
abbrev pub Slice : Type 0 → Type 0
Slice A = Both (MutBor (List A)) (MutBor (List A))

-- the workspaces at entry
abbrev pub lent : Slice Float → Slice ℕ → Slice Float → Slice ℕ → Workspaces
lent f t g u = workspaces f.entry.now t.entry.now g.entry.now u.entry.now

-- the workspaces at exit
abbrev pub left : Slice Float → Slice ℕ → Slice Float → Slice ℕ → Workspaces
left f t g u = workspaces f.exit.now t.exit.now g.exit.now u.exit.now

-- the same of a call with one blob: side 2 has none
abbrev pub lent_one : Slice Float → Slice ℕ → Workspaces
lent_one f t = workspaces f.entry.now t.entry.now [] []

abbrev pub left_one : Slice Float → Slice ℕ → Workspaces
left_one f t = workspaces f.exit.now t.exit.now [] []

-- A list of checks, tried in order (document 01, "Order"). Definitions only.
use Rattle.std.specs.Prelude.{ℕ, ◌<◌, ◌≡◌, Bool, true, false, cond, List, [], ◌∷◌, Option, None, Some, Result, Ok, Err}
use Rattle.std.proofs.Math.Option.{some}
use Rattle.std.proofs.Math.ListN.{get_elem?}
use Rattle.refusals.specs.Table.{sided}
use Rattle.refusals.specs.declared.Reason.{Reason}
use Rattle.refusals.specs.declared.Side.{Side}
use Rattle.refusals.specs.declared.Refusal.{Refusal}

-- a condition of the table, and what is given where it holds
pub record Check (A : Type 0) : Type 0 where
  pub holds : Bool
  pub gives : A

abbrev pub check : {A : Type 0} → A → Bool → Check A
check a condition = record { holds = condition; gives = a }

-- what the first check that holds gives; none where none holds
unfoldable pub first_of : {A : Type 0} → List (Check A) → Option A
first_of [] = None
first_of (c ∷ cs) = cond c.holds (Some c.gives) (first_of cs)

-- a refusal where there is one, else the answer
abbrev pub refused_or : {A E : Type 0} → Option E → A → Result A E
refused_or (Some e) a = Err e
refused_or None a = Ok a

-- the check at position i holds, gives a, and no earlier check holds
pub record FirstCheckAt {A : Type 0} (checks : List (Check A)) (a : A) (i : ℕ) (c : Check A) : Type 0 where
  pub there : get_elem? checks i ≡ some c
  pub condition : c.holds ≡ true
  pub given : c.gives ≡ a
  pub earlier : (j : ℕ) (d : Check A) → j < i → get_elem? checks j ≡ some d → d.holds ≡ false

-- the same conditions, given with a side
unfoldable pub on_side : Side → List (Check Reason) → List (Check Refusal)
on_side side [] = []
on_side side (c ∷ cs) = check (sided side c.gives) c.holds ∷ on_side side cs

-- Both blobs read: the order of the checks, what is handed to a sweep, and what its pair makes, whichever pair it is. Assumes nothing.
use mathlib.Core.Path.{◌≡◌, refl, sym, ap, ◌∙◌}
use mathlib.Core.Bool.{Bool, true, false, cond, not, ◌||◌}
use mathlib.Core.List.{List, [], ◌∷◌, ◌++◌}
use Prim.Native.Nat.{ℕ, ◌≤◌}
use lib.Dec.{ltb, eqb}
use lib.Ieee.{lt}
use borrow.Author.Tests.{ltb-false}
use Rattle.std.specs.Prelude.{Option, None, Some, Result, Ok, Err}
use Rattle.std.specs.Option.{option_or}
use Rattle.ieee754.specs.MinMax.{positive_zero}
use Rattle.refusals.specs.Checks.{Check, check, first_of, refused_or}
use Rattle.refusals.specs.declared.Reason.TheVariants.{ToleranceBelowZero, OutputTooShort}
use Rattle.refusals.specs.declared.Refusal.{Refusal}
use Rattle.refusals.proofs.Checks.{refused_is, accepted_is}
use Rattle.refusals.proofs.Sides.{first_of_two, first_of_one, none_of_both}
use Rattle.primitives.specs.declared.Witness.{Witness}
use Rattle.blob.specs.declared.Lent.{Lent}
use Rattle.operands.specs.Operands.{Workspaces, operand_checks, filled}
use Rattle.operands.specs.Inner.{operands_of, Ready}
use Rattle.operands.specs.declared.Operands.{Operands}
use Rattle.operands.proofs.Meaning.{none_is_ready}
use Rattle.outcomes.specs.Operations.{no_side, tolerance_checks, rule_checks}
use Rattle.outcomes.specs.Inner.{memory_by, swept_of, PairSwept, HasRoom}
use Rattle.outcomes.specs.declared.Swept.{Swept}
use Rattle.outcomes.proofs.Handed.{Side, side}
use Rattle.outcomes.proofs.Rules.{rule_before}
use Rattle.reading.specs.Inner.{asked_checks, below_zero, too_short, both_read, ReadBoth}
use Rattle.reading.specs.declared.Asked.{Asked}
use Rattle.reading.specs.declared.Asked.TheVariants as asked
use Rattle.reading.specs.declared.BothRead.{BothRead}

-- ---- the checks

or_none : (x : Option Refusal) → x ≡ option_or x None
or_none None = refl
or_none (Some r) = refl

-- 1, then the operands', then 16
pub asked_first : (q : Asked) (cs : List (Check Refusal)) → first_of (asked_checks q cs) ≡ option_or (cond (below_zero q) (Some (no_side ToleranceBelowZero)) None) (option_or (first_of cs) (cond (too_short q) (Some (no_side OutputTooShort)) None))
unfolding tolerance_checks
asked_first asked.Distance cs = or_none (first_of cs)
asked_first (asked.Within d) cs = first_of_two (tolerance_checks d) cs ∙ rw (first_of_one (no_side ToleranceBelowZero) (lt d positive_zero), ← or_none (first_of cs))
asked_first (asked.Bytes lent needed) cs = first_of_two cs (check (no_side OutputTooShort) (ltb lent needed) ∷ []) ∙ rw (first_of_one (no_side OutputTooShort) (ltb lent needed))

-- 1 or 2 refuses nothing
pub first_by_rule_lem : (rule : ℕ) (cs : List (Check Refusal)) (q : Asked) → not (eqb rule 1 || eqb rule 2) ≡ false → first_of (asked_checks q (rule_checks rule ++ cs)) ≡ first_of (asked_checks q cs)
first_by_rule_lem rule cs q e = rw (asked_first q (rule_checks rule ++ cs), rule_before rule cs, e, asked_first q cs)

-- none of them: none of the operands'
none_asked : (q : Asked) (cs : List (Check Refusal)) → first_of (asked_checks q cs) ≡ None → first_of cs ≡ None
none_asked q cs e = (none_of_both _ _ (none_of_both _ _ (sym (asked_first q cs) ∙ e)).1).0

-- ---- both blobs accepted: there is room for them

module _ (a b : List ℕ) {l m l' m' : Lent} (same1 : l ≡ l') (same2 : m ≡ m') {r : Result Operands Refusal} where
  pub ready : (q : Asked) → r ≡ refused_or (first_of (asked_checks q (operand_checks a b l m))) (operands_of a b) → {o : Operands} → r ≡ Ok o → Ready a b l' m'
  ready q e {o} f = rw (← same1, ← same2) (none_is_ready a b l m (none_asked q _ (accepted_is _ (operands_of a b) o (sym e ∙ f)).0))

  pub ready_by_rule : (q : Asked) (rule : ℕ) → r ≡ refused_or (first_of (asked_checks q (rule_checks rule ++ operand_checks a b l m))) (operands_of a b) → {o : Operands} → r ≡ Ok o → Ready a b l' m'
  ready_by_rule q rule e {o} f =
      rw (← same1, ← same2) (none_is_ready a b l m (none_of_both _ _ (sym (first_of_two (rule_checks rule) (operand_checks a b l m)) ∙ none_asked q _ (accepted_is _ (operands_of a b) o (sym e ∙ f)).0)).1)

-- ---- the sweep

module _ {first : Option Refusal} {a b : List ℕ} {w w' : Workspaces} {r : Result BothRead Refusal} (read : ReadBoth first a b w w' r) where
  -- refused before the sweep
  pub swept_refused : (p : Option Witness) {t : Refusal} → r ≡ Err t → PairSwept first p a b w w' (Err t)
  swept_refused p {t} e =
      let is = refused_is first (both_read a b) t (sym read.answer ∙ e) in
      record { answer = rw is; memory = read.memory }

  module _ {v : BothRead} (e : r ≡ Ok v) where
    accepted : (first ≡ None) × (both_read a b ≡ v)
    accepted = accepted_is first (both_read a b) v (sym read.answer ∙ e)

    full : w' ≡ filled a b w
    full = read.memory ∙ ap (λ (x : Option Refusal). memory_by x a b w) accepted.0

    -- what the sweep is handed of both sides
    pub sides : Side a v.numbers1 w'.floats1 w'.table1 × Side b v.numbers2 w'.floats2 w'.table2
    unfolding filled
    sides = rw (full, ← accepted.1) (side a w.floats1 w.table1, side b w.floats2 w.table2)

    -- and what its pair makes
    pub swept_found : (p : Option Witness) {s : Option Swept} → s ≡ swept_of v.srid p → PairSwept first p a b w w' (Ok s)
    swept_found p g = record { answer = rw (g, accepted.0, ← accepted.1); memory = read.memory }

-- an output that is not refused has room for the pair
pub room : (lent needed : ℕ) (cs : List (Check Refusal)) (p : Option Witness) (srid : ℕ) {r : Result (Option Swept) Refusal} {s : Option Swept}
    → r ≡ refused_or (first_of (asked_checks (asked.Bytes lent needed) cs)) (swept_of srid p) → r ≡ Ok s → HasRoom needed lent s
room lent needed cs p srid {r} {s} e f =
    let none = (accepted_is (first_of (asked_checks (asked.Bytes lent needed) cs)) (swept_of srid p) s (sym e ∙ f)).0 in
    there s (enough (ltb lent needed) refl (sym (first_of_one (no_side OutputTooShort) (ltb lent needed)) ∙ (none_of_both (first_of cs) _ (sym (first_of_two cs (check (no_side OutputTooShort) (ltb lent needed) ∷ [])) ∙ none)).1))
  where
    enough : (short : Bool) → ltb lent needed ≡ short → cond short (Some (no_side OutputTooShort)) None ≡ None → needed ≤ lent
    enough true e f = cc
    enough false e f = ltb-false lent needed e

    there : (s : Option Swept) → needed ≤ lent → HasRoom needed lent s
    there None h = tt
    there (Some x) h = h

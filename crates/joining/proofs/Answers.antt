-- The answers of the checks, by what the headers, the walks and the tests of the join say. Assumes nothing.
use mathlib.Core.Path.{◌≡◌, sym, ◌∙◌}
use mathlib.Core.Bool.{not}
use mathlib.Core.List.{List}
use Prim.Native.Nat.{ℕ, ◌+◌, ◌-◌, ◌≤◌}
use lib.Dec.{eqb}
use lib.ListN.{length}
use borrow.Author.Tests.{ltb-false}
use Rattle.std.specs.Prelude.{None, Some, Result, Ok, Err}
use Rattle.refusals.specs.Checks.{first_of, refused_or}
use Rattle.refusals.specs.declared.Refusal.{Refusal}
use Rattle.refusals.proofs.Checks.{refused_is, accepted_is}
use Rattle.gpb.specs.Header.{geometry_start}
use Rattle.coords.specs.Refusals.{walk_checks}
use Rattle.operands.specs.Operands.{both_checks}
use Rattle.operands.specs.Inner.{operands_of}
use Rattle.operands.specs.declared.Operands.{Operands}
use Rattle.operands.proofs.Order.{none_of_bytes}
use Rattle.joining.specs.Joined.{own_bytes, joined_blob, srids_differ, together_checks, join_checks}
use Rattle.joining.specs.Inner.{BothRead}
use Rattle.joining.proofs.Size.{joined_size}
use Rattle.joining.proofs.Order.{of_the_blobs, of_the_join, fits_where_none}
use Rattle.joining.proofs.Own.{lies}

-- ---- both blobs are in order: where their geometries lie, then 18, 19 and 16

pub record BothLie (a b : List ℕ) (o : Operands) : Type 0 where
  pub walk1 : first_of (walk_checks a (geometry_start a)) ≡ None
  pub walk2 : first_of (walk_checks b (geometry_start b)) ≡ None
  pub start1 : o.first.at ≡ geometry_start a
  pub start2 : o.second.at ≡ geometry_start b
  pub forward1 : o.first.at ≤ o.first.end
  pub forward2 : o.second.at ≤ o.second.end
  pub within1 : o.first.end ≤ length a
  pub within2 : o.second.end ≤ length b
  pub size1 : length (own_bytes a) ≡ o.first.end - o.first.at
  pub size2 : length (own_bytes b) ≡ o.second.end - o.second.at
  pub size : length (joined_blob a b) ≡ 17 + ((o.first.end - o.first.at) + (o.second.end - o.second.at))

pub both_lie : (a b : List ℕ) (o : Operands) → BothRead a b o → BothLie a b o
both_lie a b o r =
    let n = none_of_bytes a b r.in_order in
    let l1 = lies a n.walk1 in
    let l2 = lies b n.walk2 in
    record {
      walk1 = n.walk1;
      walk2 = n.walk2;
      start1 = rw r.own;
      start2 = rw r.own;
      forward1 = rw r.own l1.forward;
      forward2 = rw r.own l2.forward;
      within1 = rw r.own l1.within;
      within2 = rw r.own l2.within;
      size1 = rw r.own l1.size;
      size2 = rw r.own l2.size;
      size = rw r.own (joined_size a b ∙ rw (l1.size, l2.size));
    }

-- 18 is tested on the operands' SRIDs
pub srids_tested : (a b : List ℕ) (o : Operands) → BothRead a b o → not (eqb o.first.srid o.second.srid) ≡ srids_differ a b
unfolding srids_differ
srids_tested a b o r = rw r.own

-- ---- all checks

module _ (a b : List ℕ) {o : Result Operands Refusal} (p : o ≡ refused_or (first_of (both_checks a b)) (operands_of a b)) (lent : ℕ) where
  pub blobs_refused : {r : Refusal} → o ≡ Err r → first_of (join_checks a b lent) ≡ Some r
  blobs_refused {r} q = of_the_blobs a b lent (refused_is (first_of (both_checks a b)) (operands_of a b) r (sym p ∙ q))

  module _ {v : Operands} (q : o ≡ Ok v) where
    pub both_read : BothRead a b v
    both_read = let n = accepted_is (first_of (both_checks a b)) (operands_of a b) v (sym p ∙ q) in record { in_order = n.0; own = sym n.1 }

    module _ {t : Result Unit Refusal} (says : t ≡ refused_or (first_of (together_checks a b lent)) tt) where
      pub join_refused : {r : Refusal} → t ≡ Err r → first_of (join_checks a b lent) ≡ Some r
      join_refused {r} e = of_the_join a b lent both_read.in_order ∙ refused_is (first_of (together_checks a b lent)) tt r (sym says ∙ e)

      -- nothing is refused: the output has room
      pub none_joined : {u : Unit} → t ≡ Ok u → first_of (together_checks a b lent) ≡ None
      none_joined {u} e = (accepted_is (first_of (together_checks a b lent)) tt u (sym says ∙ e)).0

      pub join_none : {u : Unit} → t ≡ Ok u → first_of (join_checks a b lent) ≡ None
      join_none e = of_the_join a b lent both_read.in_order ∙ none_joined e

      pub join_room : {u : Unit} → t ≡ Ok u → length (joined_blob a b) ≤ lent
      join_room e = ltb-false lent (length (joined_blob a b)) (fits_where_none a b lent (none_joined e)).1

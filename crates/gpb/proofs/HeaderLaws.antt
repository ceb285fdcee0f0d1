-- What the header's definitions say of a blob. Assumes nothing.
use Prim.Native.Nat.{ℕ, zero, suc, ◌+◌, ◌*◌, ◌<◌, ◌≤◌}
use mathlib.Core.Path.{◌≡◌, refl, sym, ap, ◌∙◌}
use mathlib.Core.Logic.{◌↔◌}
use mathlib.Core.Bool.{Bool, true, false, cond, not, ◌&&◌}
use mathlib.Core.List.{List, [], ◌∷◌}
use mathlib.Core.Option.{some, none-ne-some, some-injective}
use native.Mathlib.Omega.{arith}
use lib.Dec.{eqb, lit≤}
use lib.ListN.{length, get_or, get_elem?, get_or-eq_default}
use borrow.Author.Tests.{ltb-false}
use Rattle.std.specs.Prelude.{None, Some, Result, Ok, Err}
use Rattle.std.proofs.lemmas.Option.{none-some}
use Rattle.refusals.specs.Checks.{Check, check, first_of, refused_or, FirstCheckAt}
use Rattle.refusals.proofs.Checks.{given_exactly, refused_is, accepted_is, refused_first, refused_second}
use Rattle.refusals.specs.declared.Reason.{Reason}
use Rattle.refusals.specs.declared.Reason.TheVariants.{NoZ}
use Rattle.gpb.specs.Header.{is_gp, doubles_of, envelope_indicator, geometry_start, byte_order_of, top_type, srid_of, has_z, lacks_z, top_header_cut, byte_order_above_one, gp_checks, top_checks, header_checks, header_checks_3d, found_header, header_of, header_of_3d}
use Rattle.gpb.specs.declared.Header.{Header}

-- ---- where a geometry starts

and_false : (a b : Bool) → b ≡ false → (a && b) ≡ false
and_false true b e = e
and_false false b e = refl

-- "GP" takes two bytes
pub short_not_gp : (s : List ℕ) → length s < 2 → is_gp s ≡ false
unfolding is_gp
short_not_gp s h = and_false (eqb (get_or s 0 0) 0x47) (eqb (get_or s 1 0) 0x50) (rw (get_or-eq_default s 0 {n = 1} (omega arith)))

pub no_doubles : (i : ℕ) → (i ≡ 1 → ⊥) → (i ≡ 2 → ⊥) → (i ≡ 3 → ⊥) → (i ≡ 4 → ⊥) → doubles_of i ≡ 0
unfolding doubles_of
no_doubles zero a b c d = refl
no_doubles (suc zero) a b c d = absurd (a refl)
no_doubles (suc (suc zero)) a b c d = absurd (b refl)
no_doubles (suc (suc (suc zero))) a b c d = absurd (c refl)
no_doubles (suc (suc (suc (suc zero)))) a b c d = absurd (d refl)
no_doubles (suc (suc (suc (suc (suc i))))) a b c d = refl

pub few_doubles : (i : ℕ) → doubles_of i ≤ 8
unfolding doubles_of
few_doubles zero = lit≤ tt
few_doubles (suc zero) = lit≤ tt
few_doubles (suc (suc zero)) = lit≤ tt
few_doubles (suc (suc (suc zero))) = lit≤ tt
few_doubles (suc (suc (suc (suc zero)))) = lit≤ tt
few_doubles (suc (suc (suc (suc (suc i))))) = lit≤ tt

pub bare_start : (s : List ℕ) → is_gp s ≡ false → geometry_start s ≡ 0
unfolding geometry_start
bare_start s e = rw e

pub gp_start : (s : List ℕ) → is_gp s ≡ true → geometry_start s ≡ 8 + 8 * doubles_of (envelope_indicator s)
unfolding geometry_start
gp_start s e = rw e

-- ---- a refusal is the first check's that holds

-- End theorem: the header refuses with k exactly when a check gives k whose condition holds, and no earlier one holds
pub refused_exactly : (s : List ℕ) (k : Reason) → (header_of s ≡ Err k) ↔ ((i : ℕ) × (c : Check Reason) × FirstCheckAt (header_checks s) k i c)
unfolding header_of
refused_exactly s k =
    (λ h. (given_exactly (header_checks s) k).0 (refused_is (first_of (header_checks s)) (found_header s) k h), λ f. rw ((given_exactly (header_checks s) k).1 f))

-- End theorem: so does the header of a blob that is to have Z
pub refused_exactly_3d : (s : List ℕ) (k : Reason) → (header_of_3d s ≡ Err k) ↔ ((i : ℕ) × (c : Check Reason) × FirstCheckAt (header_checks_3d s) k i c)
unfolding header_of_3d
refused_exactly_3d s k =
    (λ h. (given_exactly (header_checks_3d s) k).0 (refused_is (first_of (header_checks_3d s)) (found_header s) k h), λ f. rw ((given_exactly (header_checks_3d s) k).1 f))

-- ---- the Z test comes last

pub refused_3d : (s : List ℕ) (k : Reason) → header_of s ≡ Err k → header_of_3d s ≡ Err k
unfolding header_of header_of_3d header_checks_3d
refused_3d s k h = refused_first (header_checks s) (check NoZ (lacks_z s) ∷ []) (found_header s) (found_header s) k h

z_last : (s : List ℕ) → refused_or (first_of (check NoZ (lacks_z s) ∷ [])) (found_header s) ≡ cond (has_z (top_type s)) (Ok (found_header s)) (Err NoZ)
unfolding first_of lacks_z
z_last s = go (has_z (top_type s))
  where
    go : (b : Bool) → refused_or (cond (not b) (Some NoZ) None) (found_header s) ≡ cond b (Ok (found_header s)) (Err NoZ)
    go true = refl
    go false = refl

found_3d : (s : List ℕ) (h : Header) → header_of s ≡ Ok h → header_of_3d s ≡ cond (has_z h.code) (Ok h) (Err NoZ)
unfolding header_of header_of_3d header_checks_3d
found_3d s h e =
    let f = accepted_is (first_of (header_checks s)) (found_header s) h e in
    rw (refused_second (header_checks s) (check NoZ (lacks_z s) ∷ []) (found_header s) h (found_header s) e, ← f.1) (z_last s)

pub found_with_z : (s : List ℕ) (h : Header) → header_of s ≡ Ok h → has_z h.code ≡ true → header_of_3d s ≡ Ok h
found_with_z s h e z = found_3d s h e ∙ ap (λ (b : Bool). cond b (Ok h) (Err NoZ)) z

pub found_without_z : (s : List ℕ) (h : Header) → header_of s ≡ Ok h → has_z h.code ≡ false → header_of_3d s ≡ Err NoZ
found_without_z s h e z = found_3d s h e ∙ ap (λ (b : Bool). cond b (Ok h) (Err NoZ)) z

-- ---- what an accepted header says

none_holds : (cs : List (Check Reason)) → first_of cs ≡ None → (i : ℕ) (c : Check Reason) → get_elem? cs i ≡ some c → c.holds ≡ false
unfolding first_of
none_holds [] h i c e = absurd (none-ne-some c e)
none_holds (d ∷ cs) h i c e = go (none_holds cs) d.holds refl h i e
  where
    go : (first_of cs ≡ None → (j : ℕ) (x : Check Reason) → get_elem? cs j ≡ some x → x.holds ≡ false) → (b : Bool) → d.holds ≡ b → cond b (Some d.gives) (first_of cs) ≡ None → (j : ℕ) → get_elem? (d ∷ cs) j ≡ some c → c.holds ≡ false
    go rest true p g j q = absurd (none-some d.gives (sym g))
    go rest false p g zero q = ap (λ (z : Check Reason). z.holds) (sym (some-injective d c q)) ∙ p
    go rest false p g (suc j) q = rest g j c q

-- the start, type and SRID are the blob's, its first five bytes are there, and their byte order is 0 or 1
pub record Accepted (s : List ℕ) (h : Header) : Type 0 where
  pub start : h.at ≡ geometry_start s
  pub type : h.code ≡ top_type s
  pub own : h.srid ≡ srid_of s
  pub within : h.at + 5 ≤ length s
  pub ordered : byte_order_of s ≤ 1

pub accepted : (s : List ℕ) (h : Header) → header_of s ≡ Ok h → Accepted s h
unfolding header_of header_checks gp_checks top_checks top_header_cut byte_order_above_one
accepted s h e =
    let f = accepted_is (first_of (header_checks s)) (found_header s) h e in
    let cut = ltb-false (length s) (geometry_start s + 5) (none_holds (header_checks s) f.0 6 _ refl) in
    let order = ltb-false 1 (byte_order_of s) (none_holds (header_checks s) f.0 7 _ refl) in
    let start : h.at ≡ geometry_start s = ap (λ (x : Header). x.at) (sym f.1) in
    record { start = start; type = ap (λ (x : Header). x.code) (sym f.1); own = ap (λ (x : Header). x.srid) (sym f.1); within = rw start cut; ordered = order }

-- what the header with the Z test accepts, the header accepts, and the type has Z
pub accepted_3d : (s : List ℕ) (h : Header) → header_of_3d s ≡ Ok h → (header_of s ≡ Ok h) × (has_z h.code ≡ true)
accepted_3d s h e = go (header_of s) refl
  where
    tested : (b : Bool) (x : Header) → has_z x.code ≡ b → header_of s ≡ Ok x → cond b (Ok x) (Err NoZ) ≡ Ok h → (header_of s ≡ Ok h) × (has_z h.code ≡ true)
    tested true x p q r = let same : x ≡ h = cc in (q ∙ ap Ok same, ap (λ (y : Header). has_z y.code) (sym same) ∙ p)
    tested false x p q r = cc

    go : (o : Result Header Reason) → header_of s ≡ o → (header_of s ≡ Ok h) × (has_z h.code ≡ true)
    go (Err k) p = let q = refused_3d s k p in cc
    go (Ok x) p = tested (has_z x.code) x refl p (sym (found_3d s x p) ∙ e)

pub ruleset starts = (few_doubles, gp_start, bare_start)

pub ruleset tests_z = (refused_3d, found_with_z, found_without_z)

-- What is given is what the first check that holds gives, and nothing else is: both directions. Assumes nothing.
use Prim.Native.Nat.{ℕ, zero, suc, ◌<◌}
use mathlib.Core.Path.{◌≡◌, refl, sym, ap, ◌∙◌}
use mathlib.Core.Logic.{◌↔◌}
use mathlib.Core.Bool.{Bool, true, false, cond}
use mathlib.Core.List.{List, [], ◌∷◌, ◌++◌}
use mathlib.Core.Option.{some, none-ne-some, some-injective}
use native.Mathlib.Omega.{arith}
use lib.ListN.{get_elem?}
use Rattle.std.specs.Prelude.{Option, None, Some, Ok, Err}
use Rattle.std.proofs.lemmas.Option.{none-some, same_Some}
use Rattle.refusals.specs.Checks.{Check, first_of, refused_or, FirstCheckAt}

module _ {A : Type 0} where
  given_is_first : (cs : List (Check A)) (a : A) → first_of cs ≡ Some a → (i : ℕ) × (c : Check A) × FirstCheckAt cs a i c
  unfolding first_of
  given_is_first [] a h = absurd (none-some a h)
  given_is_first (c ∷ cs) a h = go (given_is_first cs a) c.holds refl h
    where
      go : (first_of cs ≡ Some a → (i : ℕ) × (d : Check A) × FirstCheckAt cs a i d) → (b : Bool) → c.holds ≡ b → cond b (Some c.gives) (first_of cs) ≡ Some a → (i : ℕ) × (d : Check A) × FirstCheckAt (c ∷ cs) a i d
      go rest true e g = (0, c, record { there = refl; condition = e; given = same_Some c.gives a g; earlier = λ j d l. absurd (omega (arith, l)) })
      go rest false e g =
          let r = rest g in
          (suc r.0, r.1, record { there = r.2.there; condition = r.2.condition; given = r.2.given; earlier = λ j d l at. before r.2 j d l at })
        where
          before : {i : ℕ} {x : Check A} → FirstCheckAt cs a i x → (j : ℕ) (d : Check A) → j < suc i → get_elem? (c ∷ cs) j ≡ some d → d.holds ≡ false
          before f zero d l at = ap (λ (z : Check A). z.holds) (sym (some-injective c d at)) ∙ e
          before f (suc j) d l at = f.earlier j d (omega (arith, l)) at

  first_is_given : (cs : List (Check A)) (a : A) (i : ℕ) (c : Check A) → FirstCheckAt cs a i c → first_of cs ≡ Some a
  unfolding first_of
  first_is_given [] a i c f = absurd (none-ne-some c f.there)
  first_is_given (d ∷ cs) a zero c f =
      let e : d ≡ c = some-injective d c f.there in
      ap (λ (z : Check A). cond z.holds (Some z.gives) (first_of cs)) e ∙ ap (λ (b : Bool). cond b (Some c.gives) (first_of cs)) f.condition ∙ ap Some f.given
  first_is_given (d ∷ cs) a (suc i) c f =
      ap (λ (b : Bool). cond b (Some d.gives) (first_of cs)) (f.earlier 0 d (omega arith) refl)
      ∙ first_is_given cs a i c (record { there = f.there; condition = f.condition; given = f.given; earlier = λ j x l at. f.earlier (suc j) x (omega (arith, l)) at })

  -- a refusal is given exactly when a check gives it whose condition holds, and no earlier check refuses
  pub given_exactly : (cs : List (Check A)) (a : A) → (first_of cs ≡ Some a) ↔ ((i : ℕ) × (c : Check A) × FirstCheckAt cs a i c)
  given_exactly cs a = (given_is_first cs a, λ h. first_is_given cs a h.0 h.1 h.2)

  -- checks that refuse nothing may stand before others
  pub first_append : (cs ds : List (Check A)) → first_of cs ≡ None → first_of (cs ++ ds) ≡ first_of ds
  unfolding first_of
  first_append [] ds h = refl
  first_append (c ∷ cs) ds h = go (first_append cs ds) c.holds refl h
    where
      go : (first_of cs ≡ None → first_of (cs ++ ds) ≡ first_of ds) → (b : Bool) → c.holds ≡ b → cond b (Some c.gives) (first_of cs) ≡ None → first_of ((c ∷ cs) ++ ds) ≡ first_of ds
      go rest true e g = absurd (none-some c.gives (sym g))
      go rest false e g = ap (λ (b : Bool). cond b (Some c.gives) (first_of (cs ++ ds))) e ∙ rest g

  -- a refusal of the first list stays
  pub first_keeps : (cs ds : List (Check A)) (a : A) → first_of cs ≡ Some a → first_of (cs ++ ds) ≡ Some a
  unfolding first_of
  first_keeps [] ds a h = absurd (none-some a h)
  first_keeps (c ∷ cs) ds a h = go (first_keeps cs ds a) c.holds refl h
    where
      go : (first_of cs ≡ Some a → first_of (cs ++ ds) ≡ Some a) → (b : Bool) → c.holds ≡ b → cond b (Some c.gives) (first_of cs) ≡ Some a → first_of ((c ∷ cs) ++ ds) ≡ Some a
      go rest true e g = ap (λ (b : Bool). cond b (Some c.gives) (first_of (cs ++ ds))) e ∙ g
      go rest false e g = ap (λ (b : Bool). cond b (Some c.gives) (first_of (cs ++ ds))) e ∙ rest g

-- ---- an answer, or the refusal

module _ {A E : Type 0} where
  pub refused_is : (o : Option E) (a : A) (e : E) → refused_or o a ≡ Err e → o ≡ Some e
  refused_is (Some d) a e h = let same : d ≡ e = cc in ap Some same
  refused_is None a e h = cc

  pub accepted_is : (o : Option E) (a b : A) → refused_or o a ≡ Ok b → (o ≡ None) × (a ≡ b)
  accepted_is (Some d) a b h = cc
  accepted_is None a b h = (refl, cc)

-- two lists of checks one behind the other, as a `?` between them tells them apart
module _ {A B E : Type 0} where
  -- a refusal of the first list refuses
  pub refused_first : (cs ds : List (Check E)) (a : A) (b : B) (e : E) → refused_or (first_of cs) a ≡ Err e → refused_or (first_of (cs ++ ds)) b ≡ Err e
  refused_first cs ds a b e h = rw (first_keeps cs ds e (refused_is (first_of cs) a e h))

  -- checks that refuse nothing leave the answer to the others
  pub refused_second : (cs ds : List (Check E)) (a x : A) (b : B) → refused_or (first_of cs) a ≡ Ok x → refused_or (first_of (cs ++ ds)) b ≡ refused_or (first_of ds) b
  refused_second cs ds a x b h = rw (first_append cs ds (accepted_is (first_of cs) a x h).0)

-- what a `?` between two readers needs, whose checks stand one behind the other
pub ruleset in_order = (refused_first, refused_second, accepted_is)

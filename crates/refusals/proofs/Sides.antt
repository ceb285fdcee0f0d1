-- What lists in a row and lists of a side give, from what each list gives. Assumes nothing.
use mathlib.Core.Path.{◌≡◌, refl, sym, ap, ◌∙◌}
use mathlib.Core.Bool.{Bool, true, false, cond}
use mathlib.Core.List.{List, [], ◌∷◌, ◌++◌}
use Rattle.std.specs.Prelude.{Option, None, Some, Ok, Err}
use Rattle.std.specs.Option.{option_or, option_map}
use Rattle.std.specs.Result.{result_map_both}
use Rattle.std.proofs.lemmas.Option.{none-some}
use Rattle.refusals.specs.Table.{sided}
use Rattle.refusals.specs.Checks.{Check, check, first_of, refused_or, on_side}
use Rattle.refusals.proofs.Checks.{refused_is, accepted_is, refused_first, refused_second}
use Rattle.refusals.specs.declared.Reason.{Reason}
use Rattle.refusals.specs.declared.Side.{Side}
use Rattle.refusals.specs.declared.Refusal.{Refusal}

-- what a list gives is given with the side
pub first_on_side : (side : Side) (cs : List (Check Reason)) → first_of (on_side side cs) ≡ option_map (sided side) (first_of cs)
unfolding first_of on_side
first_on_side side [] = refl
first_on_side side (c ∷ cs) = go (first_on_side side cs) c.holds
  where
    go : first_of (on_side side cs) ≡ option_map (sided side) (first_of cs) → (b : Bool) → cond b (Some (sided side c.gives)) (first_of (on_side side cs)) ≡ option_map (sided side) (cond b (Some c.gives) (first_of cs))
    go rest true = refl
    go rest false = rest

module _ {A : Type 0} where
  -- what the second of two lists gives counts where the first gives nothing
  pub first_of_two : (cs ds : List (Check A)) → first_of (cs ++ ds) ≡ option_or (first_of cs) (first_of ds)
  unfolding first_of
  first_of_two [] ds = refl
  first_of_two (c ∷ cs) ds = go (first_of_two cs ds) c.holds
    where
      go : first_of (cs ++ ds) ≡ option_or (first_of cs) (first_of ds) → (b : Bool) → cond b (Some c.gives) (first_of (cs ++ ds)) ≡ option_or (cond b (Some c.gives) (first_of cs)) (first_of ds)
      go rest true = refl
      go rest false = rest

  pub first_of_one : (a : A) (b : Bool) → first_of (check a b ∷ []) ≡ cond b (Some a) None
  unfolding first_of
  first_of_one a b = refl

  -- two lists in a row give nothing: neither of them does
  pub none_of_both : (x y : Option A) → option_or x y ≡ None → (x ≡ None) × (y ≡ None)
  none_of_both None y h = (refl, h)
  none_of_both (Some a) y h = absurd (none-some a (sym h))

-- ---- answers, or refusals of a side

on_side_append : (side : Side) (cs ds : List (Check Reason)) → on_side side (cs ++ ds) ≡ on_side side cs ++ on_side side ds
unfolding on_side
on_side_append side [] ds = refl
on_side_append side (c ∷ cs) ds = ap (λ (l : List (Check Refusal)). check (sided side c.gives) c.holds ∷ l) (on_side_append side cs ds)

module _ {A B : Type 0} (side : Side) (cs : List (Check Reason)) (a : A) (b : B) where
  -- what refuses is told of the side
  pub side_refused : (k : Reason) → refused_or (first_of cs) a ≡ Err k → refused_or (first_of (on_side side cs)) b ≡ Err (sided side k)
  side_refused k h = ap (λ o. refused_or o b) (first_on_side side cs ∙ ap (option_map (sided side)) (refused_is (first_of cs) a k h))

  pub side_accepted : (x : A) → refused_or (first_of cs) a ≡ Ok x → refused_or (first_of (on_side side cs)) b ≡ Ok b
  side_accepted x h = ap (λ o. refused_or o b) (first_on_side side cs ∙ ap (option_map (sided side)) (accepted_is (first_of cs) a x h).0)

  -- of two lists of a side the first refuses, or leaves the answer to the second
  pub side_first : (ds : List (Check Reason)) (r : Refusal) → refused_or (first_of (on_side side cs)) a ≡ Err r → refused_or (first_of (on_side side (cs ++ ds))) b ≡ Err r
  side_first ds r h = ap (λ l. refused_or (first_of l) b) (on_side_append side cs ds) ∙ refused_first (on_side side cs) (on_side side ds) a b r h

  pub side_second : (ds : List (Check Reason)) (x : A) → refused_or (first_of (on_side side cs)) a ≡ Ok x → refused_or (first_of (on_side side (cs ++ ds))) b ≡ refused_or (first_of (on_side side ds)) b
  side_second ds x h = ap (λ l. refused_or (first_of l) b) (on_side_append side cs ds) ∙ refused_second (on_side side cs) (on_side side ds) a x b h

-- what is made of an answer, and of its refusal of a side
pub map_side : {A B : Type 0} (f : A → B) (side : Side) (cs : List (Check Reason)) (a : A) → result_map_both f (sided side) (refused_or (first_of cs) a) ≡ refused_or (first_of (on_side side cs)) (f a)
map_side f side cs a = go (first_of cs) ∙ ap (λ o. refused_or o (f a)) (sym (first_on_side side cs))
  where
    go : (o : Option Reason) → result_map_both f (sided side) (refused_or o a) ≡ refused_or (option_map (sided side) o) (f a)
    go None = refl
    go (Some k) = refl

-- and between two readers of a side
pub ruleset of_side = (side_refused, side_accepted, side_first, side_second, accepted_is)

-- Folds that skip: a skip that hides nothing changes nothing. Assumes nothing.
use mathlib.Core.Path.{◌≡◌, refl, sym, ap, ◌∙◌}
use mathlib.Core.Bool.{Bool, true, false, cond}
use mathlib.Core.List.{List, [], ◌∷◌, foldl, map}
use Rattle.extremes.specs.Sweeps.{skipping}
use Rattle.extremes.proofs.Lists.{Each}

-- `Good` holds of each state, `Safe` of each element
module _ {S X : Type 0} (step : S → X → S) (Good : S → Type 0) (Safe : X → Type 0) (keeps : (s : S) (x : X) → Good s → Safe x → Good (step s x)) where
  -- a fold that skips only what would leave its state is the fold that skips nothing
  module _ (skip : S → X → Bool) (hides : (s : S) (x : X) → Good s → Safe x → skip s x ≡ true → step s x ≡ s) where
    one_step : (s : S) (x : X) → Good s → Safe x → (c : Bool) → skip s x ≡ c → cond c s (step s x) ≡ step s x
    one_step s x g f true e = sym (hides s x g f e)
    one_step s x g f false e = refl

    pub skips_hide_nothing : (s : S) (l : List X) → Good s → Each Safe l → skipping skip step s l ≡ foldl step s l
    unfolding skipping
    skips_hide_nothing s [] g e = refl
    skips_hide_nothing s (x ∷ l) g e = ap (λ (t : S). skipping skip step t l) (one_step s x g e.0 (skip s x) refl) ∙ skips_hide_nothing (step s x) l (keeps s x g e.0) e.1

  -- a step that agrees with this one on good states and safe elements gives the same fold
  pub folds_agree : (step' : S → X → S) → ((s : S) (x : X) → Good s → Safe x → step' s x ≡ step s x) → (s : S) (l : List X) → Good s → Each Safe l → foldl step' s l ≡ foldl step s l
  folds_agree step' agree s [] g e = refl
  folds_agree step' agree s (x ∷ l) g e = ap (λ (t : S). foldl step' t l) (agree s x g e.0) ∙ folds_agree step' agree (step s x) l (keeps s x g e.0) e.1

-- two folds that skip alike, whose steps agree on each element, are the same
pub skipping_agree : {S X : Type 0} (skip : S → X → Bool) (step step' : S → X → S) (s : S) (l : List X) → Each (λ (x : X). (t : S) → step' t x ≡ step t x) l → skipping skip step' s l ≡ skipping skip step s l
unfolding skipping
skipping_agree skip step step' s [] agree = refl
skipping_agree {S} skip step step' s (x ∷ l) agree = ap (λ (t : S). skipping skip step' (cond (skip s x) s t) l) (agree.0 s) ∙ skipping_agree skip step step' (cond (skip s x) s (step s x)) l agree.1

push : {S R : Type 0} (f : S → R) (c : Bool) (s t : S) → cond c (f s) (f t) ≡ f (cond c s t)
push f true s t = refl
push f false s t = refl

-- two folds that skip, over a list and its mapped list, with states that correspond
module _ {S R X Y : Type 0} (f : S → R) (g : X → Y) (skip : S → X → Bool) (step : S → X → S) (skip' : R → Y → Bool) (step' : R → Y → R)
    (same-skip : (s : S) (x : X) → skip' (f s) (g x) ≡ skip s x) (same_step : (s : S) (x : X) → step' (f s) (g x) ≡ f (step s x)) where
  pub skipping_mapped : (s : S) (l : List X) → skipping skip' step' (f s) (map g l) ≡ f (skipping skip step s l)
  unfolding skipping
  skipping_mapped s [] = refl
  skipping_mapped s (x ∷ l) =
      ap (λ (r : R). skipping skip' step' r (map g l)) (ap (λ (c : Bool). cond c (f s) (step' (f s) (g x))) (same-skip s x) ∙ ap (λ (r : R). cond (skip s x) (f s) r) (same_step s x) ∙ push f (skip s x) s (step s x))
      ∙ skipping_mapped (cond (skip s x) s (step s x)) l

-- a state that no step changes is the state at the end, skipped or not
pub skipping_stays : {S X : Type 0} (skip : S → X → Bool) (step : S → X → S) (s : S) → ((x : X) → step s x ≡ s) → (l : List X) → skipping skip step s l ≡ s
unfolding skipping
skipping_stays skip step s stays [] = refl
skipping_stays {S} skip step s stays (x ∷ l) = ap (λ (t : S). skipping skip step t l) (go (skip s x)) ∙ skipping_stays skip step s stays l
  where
    go : (c : Bool) → cond c s (step s x) ≡ s
    go true = refl
    go false = stays x

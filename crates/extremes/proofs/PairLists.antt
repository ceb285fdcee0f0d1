-- The list of all pairs: of mapped vertices, of an empty side, and by fold. Assumes nothing.
use mathlib.Core.Path.{◌≡◌, refl, sym, ap, ◌∙◌}
use mathlib.Core.List.{List, [], ◌∷◌, ◌++◌, map, map-append, foldl, foldl-append}
use Rattle.extremes.specs.Pairs.{Pair, pairs_with, pairs_of}
use Rattle.extremes.proofs.Lists.{Each, each_append}

module _ {A B : Type 0} (f : A → B) where
  abbrev pub map_pair : Pair A → Pair B
  map_pair p = record { left = f p.left; right = f p.right }

  pub pairs_with_mapped : (a : A) (rs : List A) → pairs_with (f a) (map f rs) ≡ map map_pair (pairs_with a rs)
  unfolding pairs_with
  pairs_with_mapped a [] = refl
  pairs_with_mapped a (b ∷ rs) = ap (λ (l : List (Pair B)). record { left = f a; right = f b } ∷ l) (pairs_with_mapped a rs)

  pub pairs_mapped : (ls rs : List A) → pairs_of (map f ls) (map f rs) ≡ map map_pair (pairs_of ls rs)
  unfolding pairs_of
  pairs_mapped [] rs = refl
  pairs_mapped (a ∷ ls) rs =
      ap (λ (l : List (Pair B)). l ++ pairs_of (map f ls) (map f rs)) (pairs_with_mapped a rs)
      ∙ ap (λ (l : List (Pair B)). map map_pair (pairs_with a rs) ++ l) (pairs_mapped ls rs)
      ∙ sym (map-append map_pair (pairs_with a rs) (pairs_of ls rs))

module _ {A : Type 0} where
  pub no_pairs : (ls : List A) → pairs_of ls [] ≡ []
  unfolding pairs_of pairs_with
  no_pairs [] = refl
  no_pairs (a ∷ ls) = no_pairs ls

  -- vertex by vertex is pair by pair
  pub fold_with : {S : Type 0} (step : S → Pair A → S) (s : S) (a : A) (rs : List A) → foldl (λ t b. step t (record { left = a; right = b })) s rs ≡ foldl step s (pairs_with a rs)
  unfolding pairs_with
  fold_with step s a [] = refl
  fold_with step s a (b ∷ rs) = fold_with step (step s (record { left = a; right = b })) a rs

  pub fold_pairs : {S : Type 0} (step : S → Pair A → S) (rs : List A) (s : S) (ls : List A) → foldl (λ t a. foldl (λ u b. step u (record { left = a; right = b })) t rs) s ls ≡ foldl step s (pairs_of ls rs)
  unfolding pairs_of
  fold_pairs step rs s [] = refl
  fold_pairs {S} step rs s (a ∷ ls) =
      ap (λ (t : S). foldl (λ t a. foldl (λ u b. step u (record { left = a; right = b })) t rs) t ls) (fold_with step s a rs)
      ∙ fold_pairs step rs (foldl step s (pairs_with a rs)) ls
      ∙ sym (foldl-append step s (pairs_with a rs) (pairs_of ls rs))

  -- both vertices of each pair are vertices of the lists
  abbrev pub Sides : (A → Type 0) → Pair A → Type 0
  Sides F p = F p.left × F p.right

  pub each_with : (F : Pair A → Type 0) (a : A) (rs : List A) → Each (λ (b : A). F (record { left = a; right = b })) rs → Each F (pairs_with a rs)
  unfolding pairs_with
  each_with F a [] e = tt
  each_with F a (b ∷ rs) e = (e.0, each_with F a rs e.1)

  sides_with : (F : A → Type 0) (a : A) (rs : List A) → F a → Each F rs → Each (Sides F) (pairs_with a rs)
  unfolding pairs_with
  sides_with F a [] h e = tt
  sides_with F a (b ∷ rs) h e = ((h, e.0), sides_with F a rs h e.1)

  pub pairs_sides : (F : A → Type 0) (ls rs : List A) → Each F ls → Each F rs → Each (Sides F) (pairs_of ls rs)
  unfolding pairs_of
  pairs_sides F [] rs d e = tt
  pairs_sides F (a ∷ ls) rs d e = each_append (Sides F) (pairs_with a rs) (pairs_of ls rs) (sides_with F a rs d.0 e) (pairs_sides F ls rs d.1 e)

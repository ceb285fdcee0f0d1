-- All pairs of a vertex of side 1 and a vertex of side 2, in order (document 01, Words of the third property). Definitions only.
use Rattle.std.specs.Prelude.{List, [], ◌∷◌, ◌++◌}

-- a vertex of side 1 with one of side 2
pub record Pair (A : Type 0) : Type 0 where
  pub left : A
  pub right : A

-- one vertex of side 1 with each of side 2 in order
unfoldable pub pairs_with : {A : Type 0} → A → List A → List (Pair A)
pairs_with a [] = []
pairs_with a (b ∷ rs) = record { left = a; right = b } ∷ pairs_with a rs

-- side 1's first vertex with each of side 2 in order, then its second, and so on
unfoldable pub pairs_of : {A : Type 0} → List A → List A → List (Pair A)
pairs_of [] rs = []
pairs_of (a ∷ ls) rs = pairs_with a rs ++ pairs_of ls rs

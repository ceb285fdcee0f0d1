-- The first pair whose distance is extreme (mission, third property; document 01, Words of the third property). Definitions only.
use Rattle.std.specs.Prelude.{◌≡◌, ◌↔◌, ◌⊎◌, Bool, not, List, [], ℕ, ◌<◌, T, Float}
use Rattle.std.proofs.Math.Option.{some}
use Rattle.std.proofs.Math.ListN.{get_elem?}
use Rattle.std.specs.Float.Ieee.{is_nan, le}
use Rattle.primitives.specs.declared.Point.{Point}
use Rattle.primitives.specs.declared.Witness.{Witness}
use Rattle.primitives.specs.Witnesses.{between_of}
use Rattle.extremes.specs.Pairs.{Pair, pairs_of}

-- a pair's witness (document 01, Witness), `point` being the point of a vertex
abbrev pub measured : {A : Type 0} → (A → Point) → Pair A → Witness
measured point p = between_of (point p.left) (point p.right)

-- a pair's computed distance (document 01, Words of the third property): that of its witness
abbrev pub distance_of : {A : Type 0} → (A → Point) → Pair A → Float
distance_of point p = (measured point p).d

-- IEEE 754: at most
abbrev pub at_most : Float → Float → Bool
at_most x y = le x y

-- IEEE 754: at least
abbrev pub at_least : Float → Float → Bool
at_least x y = le y x

-- the pair's distance is no NaN
abbrev pub HasDistance : {A : Type 0} → (Pair A → Float) → Pair A → Type 0
HasDistance distance p = T (not (is_nan (distance p)))

-- p counts, and each pair of the list that counts stands in the order to it
pub record Extreme {A : Type 0} (distance : Pair A → Float) (order : Float → Float → Bool) (pairs : List (Pair A)) (p : Pair A) : Type 0 where
  pub counts : HasDistance distance p
  pub each : (j : ℕ) (q : Pair A) → get_elem? pairs j ≡ some q → HasDistance distance q → T (order (distance q) (distance p))

-- p stands at position k and is extreme, and no earlier position has a pair that is extreme
pub record FirstAt {A : Type 0} (distance : Pair A → Float) (order : Float → Float → Bool) (pairs : List (Pair A)) (k : ℕ) (p : Pair A) : Type 0 where
  pub there : get_elem? pairs k ≡ some p
  pub extreme : Extreme distance order pairs p
  pub earliest : (j : ℕ) (q : Pair A) → j < k → get_elem? pairs j ≡ some q → Extreme distance order pairs q → ⊥

-- the answer is the first extreme pair, `IsPair p` saying that it is p
pub record IsFirst {A : Type 0} (distance : Pair A → Float) (order : Float → Float → Bool) (pairs : List (Pair A)) (IsPair : Pair A → Type 0) : Type 0 where
  pub k : ℕ
  pub pair : Pair A
  pub first : FirstAt distance order pairs k pair
  pub given : IsPair pair

-- the third property of an answer, `IsNone` saying that it is none, `IsPair p` that it is p:
-- none exactly when a side has no vertex; if there is a first pair and it counts, the first extreme pair
pub record Holds {A : Type 0} (distance : Pair A → Float) (order : Float → Float → Bool) (ls rs : List A) (IsNone : Type 0) (IsPair : Pair A → Type 0) : Type 0 where
  pub none_exactly : IsNone ↔ ((ls ≡ []) ⊎ (rs ≡ []))
  pub first_extreme : (p : Pair A) → get_elem? (pairs_of ls rs) 0 ≡ some p → HasDistance distance p → IsFirst distance order (pairs_of ls rs) IsPair

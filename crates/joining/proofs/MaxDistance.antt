-- End theorem: the max distance from a join to a third blob is the larger of the two separate ones, or the only one there is, else none. Assumes nothing.
use mathlib.Core.Path.{◌≡◌, refl}
use mathlib.Core.Logic.{inl, inr}
use mathlib.Core.List.{List, [], ◌∷◌, map}
use Rattle.std.specs.Prelude.{Option, None, Some}
use Prim.Native.Nat.{ℕ}
use Rattle.refusals.specs.Checks.{first_of}
use Rattle.refusals.specs.declared.Refusal.{Refusal}
use Rattle.primitives.specs.declared.Witness.{Witness}
use Rattle.coords.specs.Walk.{Coordinate}
use Rattle.parts.specs.Points.{point_of}
use Rattle.extremes.specs.Pairs.{Pair, pairs_with, pairs_of}
use Rattle.extremes.specs.Extreme.{measured, distance_of, at_most, IsFirst}
use Rattle.extremes.specs.Farthest.{farthest_of}
use Rattle.extremes.proofs.Lists.{Each, each_at, at_each}
use Rattle.extremes.proofs.PairLists.{no_pairs}
use Rattle.farthest.proofs.LongestLine.{longest_line_of}
use Rattle.operands.specs.Operands.{Workspaces, lent_checks, filled}
use Rattle.outcomes.specs.Answers.{Value, answering}
use Rattle.outcomes.specs.Operations.{outcome, unless, vertices_of_blob, farthest_pair, distance_value, max_distance}
use Rattle.outcomes.proofs.FirstExtremeLine.{point_binary64}
use Rattle.joining.specs.Promises.{ReadsAsBoth, NoNanBetween, larger, MaxDistanceOfBoth}
use Rattle.joining.proofs.JoinedVertices.{Together, joined_vertices, pairs_to, pairs_from}
use Rattle.joining.proofs.GreatestDistance.{Counts, Under, Never, Greatest, no_pair, pair_at, larger_of}

-- ---- the sweep finds the greatest distance

abbrev farthest_among : List Coordinate → List Coordinate → Option Witness
farthest_among ls rs = farthest_of (map point_of ls) (map point_of rs)

greatest_none : (ls rs : List Coordinate) → Each Never (pairs_of ls rs) → farthest_among ls rs ≡ None → Greatest (pairs_of ls rs) (distance_value (farthest_among ls rs))
greatest_none ls rs e is = rw is (no_pair e)

greatest_first : (ls rs : List Coordinate) → Each Counts (pairs_of ls rs) → IsFirst (distance_of point_of) at_most (pairs_of ls rs) (λ p. farthest_among ls rs ≡ Some (measured point_of p))
    → Greatest (pairs_of ls rs) (distance_value (farthest_among ls rs))
greatest_first ls rs e i =
    rw i.given
    (pair_at i.k i.pair i.first.there i.first.extreme.counts
    (at_each (Under i.pair) (pairs_of ls rs) (λ j q at. i.first.extreme.each j q at (each_at Counts (pairs_of ls rs) e j q at))))

sweep_greatest : (ls rs : List Coordinate) → Each Counts (pairs_of ls rs) → Greatest (pairs_of ls rs) (distance_value (farthest_among ls rs))
sweep_greatest [] rs e = greatest_none [] rs (unfold pairs_of in tt) ((longest_line_of point_of point_binary64 [] rs).none_exactly.1 (inl refl))
sweep_greatest (a ∷ ls) [] e = greatest_none (a ∷ ls) [] (rw (no_pairs (a ∷ ls)) tt) ((longest_line_of point_of point_binary64 (a ∷ ls) []).none_exactly.1 (inr refl))
sweep_greatest (a ∷ ls) (b ∷ rs) e =
    greatest_first (a ∷ ls) (b ∷ rs) e
    ((longest_line_of point_of point_binary64 (a ∷ ls) (b ∷ rs)).first_extreme (record { left = a; right = b }) (unfold pairs_of pairs_with in refl) (unfold pairs_of pairs_with in e.0))

-- ---- what an accepted call answers

answered : (s c : List ℕ) (w : Workspaces) (v : Value) → (max_distance s c w).report ≡ answering v → v ≡ distance_value (farthest_pair s c)
unfolding max_distance
answered s c w v = go (first_of (lent_checks s c w))
  where
    go : (x : Option Refusal) → (unless x (outcome (answering (distance_value (farthest_pair s c))) (filled s c w) []) w []).report ≡ answering v → v ≡ distance_value (farthest_pair s c)
    go None h = cc
    go (Some r) h = cc

-- the pairs of two blobs
abbrev pairs_between : List ℕ → List ℕ → List (Pair Coordinate)
pairs_between s c = pairs_of (vertices_of_blob s) (vertices_of_blob c)

answered_greatest : (s c : List ℕ) → Each Counts (pairs_between s c) → (w : Workspaces) (v : Value) → (max_distance s c w).report ≡ answering v → Greatest (pairs_between s c) v
answered_greatest s c e w v h = rw (answered s c w v h) (sweep_greatest (vertices_of_blob s) (vertices_of_blob c) e)

-- of three calls, where the pairs of the first are those of the other two
larger_answered : (s t s1 t1 s2 t2 : List ℕ) → Together (pairs_between s1 t1) (pairs_between s2 t2) (pairs_between s t) → NoNanBetween s1 t1 → NoNanBetween s2 t2
    → (w w1 w2 : Workspaces) (v v1 v2 : Value)
    → (max_distance s t w).report ≡ answering v → (max_distance s1 t1 w1).report ≡ answering v1 → (max_distance s2 t2 w2).report ≡ answering v2 → v ≡ larger v1 v2
larger_answered s t s1 t1 s2 t2 both n1 n2 w w1 w2 v v1 v2 h h1 h2 =
    let e1 = at_each Counts (pairs_between s1 t1) n1 in
    let e2 = at_each Counts (pairs_between s2 t2) n2 in
    larger_of both v v1 v2 (answered_greatest s t (both.again Counts e1 e2) w v h) (answered_greatest s1 t1 e1 w1 v1 h1) (answered_greatest s2 t2 e2 w2 v2 h2)

-- c second, and c first
pub joined_max_distance : (a b j : List ℕ) → ReadsAsBoth a b j → MaxDistanceOfBoth a b j
joined_max_distance a b j r =
    let both = joined_vertices a b j r in
    record {
      to_third = λ c. larger_answered j c a c b c (pairs_to (vertices_of_blob c) both);
      from_third = λ c. larger_answered c j c a c b (pairs_from (vertices_of_blob c) both);
    }

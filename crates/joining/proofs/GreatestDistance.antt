-- The greatest distance of a list of pairs, in whatever order they come: of one list that has the pairs of two it is the larger of theirs. Assumes nothing.
use mathlib.Core.Path.{◌≡◌, refl, sym, ap, ◌∙◌}
use mathlib.Core.Bool.{Bool, true, false, cond}
use mathlib.Core.List.{List}
use mathlib.Core.Option.{some}
use Prim.Native.Nat.{ℕ, ◌*◌}
use native.Mathlib.Nat.{le_antisymm}
use lib.Dec.{T}
use lib.ListN.{get_elem?}
use lib.Ieee.{Float, nan, inf, fin, binary64, mul, round, lt, le, fits}
use Rattle.ieee754.specs.Root.{units_of, root_of}
use Rattle.ieee754.proofs.SignClear.{sign_clear, le→units}
use Rattle.ieee754.proofs.SquaredRoot.{D}
use Rattle.ieee754.proofs.SumsAndSquares.{product_of_units}
use Rattle.ieee754.proofs.FloatOrder.{le_transitive, lt→le, not_lt→le}
use Rattle.ieee754.proofs.RootLaws.{root_sign_clear, root_fits, root_of_square}
use Rattle.primitives.specs.Vectors.{squared_distance}
use Rattle.coords.specs.Walk.{Coordinate}
use Rattle.parts.specs.Points.{point_of}
use Rattle.extremes.specs.Pairs.{Pair}
use Rattle.extremes.specs.Extreme.{distance_of, HasDistance}
use Rattle.extremes.proofs.Lists.{Each, each_at, each_weaken}
use Rattle.extremes.proofs.Distances.{squares_fit, distance_is_root, distance_fits, squares_sign_clear}
use Rattle.outcomes.specs.Answers.{Value, number, nothing}
use Rattle.joining.specs.Promises.{larger}
use Rattle.joining.proofs.JoinedVertices.{Together}

-- ---- distances that are at most one another are one float: none is -0

same_square : (x y : Float) → T (sign_clear x) → T (sign_clear y) → T (fits binary64 x) → T (fits binary64 y) → T (le x y) → T (le y x) → mul binary64 x x ≡ mul binary64 y y
same_square (inf false) (inf false) c d f g h k = refl
same_square (inf false) (fin false n e) c d f g h k = absurd (unfold le in h)
same_square (fin false m e) (inf false) c d f g h k = absurd (unfold le in k)
same_square (fin false m e) (fin false n d) b c f g h k =
    let x = fin false m e in
    let y = fin false n d in
    let same : units_of x ≡ units_of y = le_antisymm (le→units x y b c f g h) (le→units y x c b g f k) in
    product_of_units m e m e f f ∙ ap (λ (u : ℕ). round binary64 false (u * u) (D * D)) same ∙ sym (product_of_units n d n d g g)
same_square nan y c d f g h k = elim c [ ]
same_square (inf false) nan c d f g h k = elim d [ ]
same_square (inf false) (inf true) c d f g h k = elim d [ ]
same_square (inf false) (fin true n e) c d f g h k = elim d [ ]
same_square (inf true) y c d f g h k = elim c [ ]
same_square (fin false m e) nan c d f g h k = elim d [ ]
same_square (fin false m e) (inf true) c d f g h k = elim d [ ]
same_square (fin false m e) (fin true n d) b c f g h k = elim c [ ]
same_square (fin true m e) y c d f g h k = elim c [ ]

-- a root is the root of its square
same_root : (s t : Float) → T (sign_clear s) → T (sign_clear t) → T (fits binary64 s) → T (fits binary64 t) → T (le (root_of s) (root_of t)) → T (le (root_of t) (root_of s)) → root_of s ≡ root_of t
same_root s t c d f g h k =
    sym (root_of_square s c f)
    ∙ ap root_of (same_square (root_of s) (root_of t) (root_sign_clear s c f) (root_sign_clear t d g) (root_fits s f) (root_fits t g) h k)
    ∙ root_of_square t d g

abbrev pub distance : Pair Coordinate → Float
distance p = distance_of point_of p

abbrev pub Counts : Pair Coordinate → Type 0
Counts p = HasDistance (distance_of point_of) p

-- q is no farther than p
abbrev pub Under : Pair Coordinate → Pair Coordinate → Type 0
Under p q = T (le (distance q) (distance p))

same_distance : (p q : Pair Coordinate) → Counts p → Counts q → Under q p → Under p q → distance p ≡ distance q
same_distance p q c d h k =
    let a = point_of p.left in
    let b = point_of p.right in
    let a' = point_of q.left in
    let b' = point_of q.right in
    distance_is_root a b
    ∙ same_root (squared_distance a b) (squared_distance a' b') (squares_sign_clear a b c) (squares_sign_clear a' b' d) (squares_fit a b) (squares_fit a' b')
    (rw (distance_is_root a b, distance_is_root a' b') at h) (rw (distance_is_root a b, distance_is_root a' b') at k)
    ∙ sym (distance_is_root a' b')

fit : (p : Pair Coordinate) → T (fits binary64 (distance p))
fit p = distance_fits (point_of p.left) (point_of p.right)

-- what is under p is under what p is under
raised : (p q : Pair Coordinate) → Under q p → (l : List (Pair Coordinate)) → Each (Under p) l → Each (Under q) l
raised p q h l e = each_weaken (Under p) (Under q) (λ x k. le_transitive (distance x) (distance p) (distance q) (fit x) (fit p) (fit q) k h) l e

-- ---- the greatest distance, or none

abbrev pub Never : Pair Coordinate → Type 0
Never p = ⊥

pub data Greatest (l : List (Pair Coordinate)) : Value → Type 0 where
  no_pair : Each Never l → Greatest l nothing
  pair_at : (k : ℕ) (p : Pair Coordinate) → get_elem? l k ≡ some p → Counts p → Each (Under p) l → Greatest l (number (distance p))

none_under : (p : Pair Coordinate) (l : List (Pair Coordinate)) → Each Never l → Each (Under p) l
none_under p l e = each_weaken Never (Under p) (λ q b. absurd b) l e

-- ---- of one list that has the pairs of two
module _ {l m n : List (Pair Coordinate)} (t : Together l m n) where
  -- r, a pair of the one list, is not under p; no pair of either is over p
  reaches : (k : ℕ) (r p : Pair Coordinate) → get_elem? n k ≡ some r → Counts r → Counts p → Under r p → Each (Under p) l → Each (Under p) m → number (distance r) ≡ number (distance p)
  reaches k r p at c d h u v = ap number (same_distance r p c d (each_at (Under p) n (t.again (Under p) u v) k r at) h)

  -- by the test of `larger`
  of_two : (k : ℕ) (r p q : Pair Coordinate) → get_elem? n k ≡ some r → Counts r → Counts p → Counts q → Under r p → Under r q → Each (Under p) l → Each (Under q) m
      → (b : Bool) → lt (distance p) (distance q) ≡ b → number (distance r) ≡ number (cond b (distance q) (distance p))
  of_two k r p q at c d e h i u v true s = reaches k r q at c e i (raised p q (lt→le (distance p) (distance q) d e (fit p) (fit q) s) l u) v
  of_two k r p q at c d e h i u v false s = reaches k r p at c d h u (raised q p (not_lt→le (distance p) (distance q) d e (fit p) (fit q) s) m v)

  pub larger_of : (v v1 v2 : Value) → Greatest n v → Greatest l v1 → Greatest m v2 → v ≡ larger v1 v2
  unfolding larger
  larger_of v v1 v2 (no_pair e) (no_pair f) (no_pair g) = refl
  larger_of v v1 v2 (no_pair e) (no_pair f) (pair_at i q there d w) = absurd (each_at Never m (t.apart Never e).1 i q there)
  larger_of v v1 v2 (no_pair e) (pair_at i p there d w) y = absurd (each_at Never l (t.apart Never e).0 i p there)
  larger_of v v1 v2 (pair_at k r at c u) (no_pair f) (no_pair g) = absurd (each_at Never n (t.again Never f g) k r at)
  larger_of v v1 v2 (pair_at k r at c u) (no_pair f) (pair_at i q there d w) = reaches k r q at c d (each_at (Under r) m (t.apart (Under r) u).1 i q there) (none_under q l f) w
  larger_of v v1 v2 (pair_at k r at c u) (pair_at i p there d w) (no_pair g) = reaches k r p at c d (each_at (Under r) l (t.apart (Under r) u).0 i p there) w (none_under p m g)
  larger_of v v1 v2 (pair_at k r at c u) (pair_at i p there d w) (pair_at i' q there' d' w') =
      let over = t.apart (Under r) u in
      of_two k r p q at c d d' (each_at (Under r) l over.0 i p there) (each_at (Under r) m over.1 i' q there') w w' (lt (distance p) (distance q)) refl

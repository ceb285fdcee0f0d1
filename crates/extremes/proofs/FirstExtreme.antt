-- The fold over all pairs that skips none gives the first extreme pair. One law for longest and shortest. Assumes nothing.
use mathlib.Core.Path.{◌≡◌, refl, sym, ap, ◌∙◌, subst}
use mathlib.Core.Logic.Iff
use mathlib.Core.Logic.{◌↔◌, ◌⊎◌, inl, inr}
use mathlib.Core.Bool.{Bool, true, false, cond}
use mathlib.Core.List.{List, [], ◌∷◌, ◌++◌, foldl, foldl-map, map}
use Rattle.std.specs.declared.option.Option.{Option}
use Rattle.std.specs.Prelude.{Some, None}
use Rattle.std.proofs.lemmas.Option.{none-some}
use mathlib.Core.Option.{some, none-ne-some, some-injective}
use Prim.Native.Nat.{ℕ, zero, suc, ◌<◌}
use native.Mathlib.Decide.{dec_lt}
use native.Mathlib.Omega.{arith}
use lib.ListN.{get_elem?}
use lib.Dec.{T}
use lib.Ieee.{Float}
use Rattle.primitives.specs.declared.Point.{Point}
use Rattle.primitives.specs.declared.Witness.{Witness}
use Rattle.extremes.specs.Pairs.{Pair, pairs_with, pairs_of}
use Rattle.extremes.specs.Extreme.{measured, distance_of, HasDistance, FirstAt, IsFirst, Holds}
use Rattle.primitives.specs.Witnesses.{better_of}
use Rattle.extremes.specs.Sweeps.{taking}
use Rattle.extremes.proofs.Lists.{Each, Before, each_at, before_at}
use Rattle.extremes.proofs.PairLists.{no_pairs, map_pair, pairs_mapped}
use Rattle.extremes.proofs.Senses.{Number, Sense, order_self, beats_up, beats_down}
use Rattle.extremes.proofs.Distances.{distance_fits}

-- the best of a list of pairs, after a best so far: nothing is skipped
abbrev pub best_of : {A : Type 0} → (A → Point) → (Float → Float → Bool) → Option Witness → List (Pair A) → Option Witness
best_of point beats s l = foldl (λ best p. taking beats best (measured point p)) s l

-- the best of all pairs of mapped vertices
pub best_mapped : {A : Type 0} (point : A → Point) (beats : Float → Float → Bool) (ls rs : List A) → best_of (λ v. v) beats None (pairs_of (map point ls) (map point rs)) ≡ best_of point beats None (pairs_of ls rs)
best_mapped point beats ls rs = ap (best_of (λ v. v) beats None) (pairs_mapped point ls rs) ∙ foldl-map (map_pair point) (λ best p. taking beats best (measured (λ v. v) p)) (pairs_of ls rs) None

-- End theorem: there is one first position only.
pub first_unique : {A : Type 0} (distance : Pair A → Float) (order : Float → Float → Bool) (l : List (Pair A)) (k k' : ℕ) (p p' : Pair A) → FirstAt distance order l k p → FirstAt distance order l k' p' → k ≡ k'
first_unique distance order l k k' p p' f g = go (dec_lt k k') (dec_lt k' k)
  where
    go : Dec (k < k') → Dec (k' < k) → k ≡ k'
    go (yes m) d = absurd (g.earliest k p m f.there f.extreme)
    go (no m) (yes n) = absurd (f.earliest k' p' n g.there g.extreme)
    go (no m) (no n) = omega arith

-- the third property, with other words for "none" and for "the pair", which need agree only on pairs of the list that count
pub holds_restated : {A : Type 0} {distance : Pair A → Float} {order : Float → Float → Bool} {ls rs : List A} {IsNone IsNone' : Type 0} {IsPair IsPair' : Pair A → Type 0} → (IsNone' ↔ IsNone)
    → ((k : ℕ) (p : Pair A) → get_elem? (pairs_of ls rs) k ≡ some p → HasDistance distance p → IsPair p → IsPair' p) → Holds distance order ls rs IsNone IsPair → Holds distance order ls rs IsNone' IsPair'
holds_restated same carry h =
    record {
      none_exactly = Iff.trans same h.none_exactly;
      first_extreme = λ p at c. let a = h.first_extreme p at c in record { k = a.k; pair = a.pair; first = a.first; given = carry a.k a.pair a.first.there a.first.extreme.counts a.given };
    }

module _ {A : Type 0} (point : A → Point) where
  abbrev distance : Pair A → Float
  distance p = distance_of point p

  pub number : (p : Pair A) → HasDistance (distance_of point) p → Number (distance_of point p)
  number p c = record { fit = distance_fits (point p.left) (point p.right); real = c }

  module _ {order beats : Float → Float → Bool} (σ : Sense order beats) where
    -- v stands in the order to q; v is beaten by q
    abbrev Under : Pair A → Pair A → Type 0
    Under q v = HasDistance distance v → T (order (distance v) (distance q))

    abbrev Beaten : Pair A → Pair A → Type 0
    Beaten q v = HasDistance distance v → beats (distance v) (distance q) ≡ true

    -- the result r is the first extreme pair of l, position by position
    record Won (l : List (Pair A)) (r : Option Witness) : Type 0 where
      k : ℕ
      pair : Pair A
      there : get_elem? l k ≡ some pair
      given : r ≡ Some (measured point pair)
      counts : HasDistance distance pair
      each : Each (Under pair) l
      before : Before (Beaten pair) k l

    -- the best is replaced by x, and the rest goes on from x
    replaced : (p x : Pair A) (l : List (Pair A)) (r : Option Witness) → HasDistance distance p → beats (distance p) (distance x) ≡ true → Won (x ∷ l) r → Won (p ∷ x ∷ l) r
    replaced p x l r c h w =
        let n = σ.winner (distance p) (distance x) h in
        let u = w.each.0 n in
        record {
          k = suc w.k;
          pair = w.pair;
          there = w.there;
          given = w.given;
          counts = w.counts;
          each = (λ _. σ.chain (distance p) (distance x) (distance w.pair) (number p c) (number x n) (number w.pair w.counts) (σ.gain (distance p) (distance x) (number p c) (number x n) h) u, w.each);
          before = (λ _. beats_up σ (distance p) (distance x) (distance w.pair) (number p c) (number x n) (number w.pair w.counts) h u, w.before);
        }

    -- the best stays p, and the rest goes on from p
    stayed : (p x : Pair A) (l : List (Pair A)) (r : Option Witness) → HasDistance distance p → beats (distance p) (distance x) ≡ false → Won (p ∷ l) r → Won (p ∷ x ∷ l) r
    stayed p x l r c h w = go w.k w.there w.before
      where
        -- x is no better than p
        low : HasDistance distance x → T (order (distance x) (distance p))
        low n = σ.stay (distance p) (distance x) (number p c) (number x n) h

        each' : Each (Under w.pair) (p ∷ x ∷ l)
        each' = (w.each.0, (λ n. σ.chain (distance x) (distance p) (distance w.pair) (number x n) (number p c) (number w.pair w.counts) (low n) (w.each.0 c), w.each.1))

        go : (k : ℕ) → get_elem? (p ∷ l) k ≡ some w.pair → Before (Beaten w.pair) k (p ∷ l) → Won (p ∷ x ∷ l) r
        go zero t b = record { k = zero; pair = w.pair; there = t; given = w.given; counts = w.counts; each = each'; before = tt }
        go (suc k) t b = record { k = suc (suc k); pair = w.pair; there = t; given = w.given; counts = w.counts; each = each'; before = (b.0, (λ n. beats_down σ (distance x) (distance p) (distance w.pair) (number x n) (number p c) (number w.pair w.counts) (low n) (b.0 c), b.1)) }

    won : (p : Pair A) (l : List (Pair A)) → HasDistance distance p → Won (p ∷ l) (best_of point beats (Some (measured point p)) l)
    unfolding taking
    won p [] c = record { k = zero; pair = p; there = refl; given = refl; counts = c; each = (λ _. order_self σ (distance p) (number p c), tt); before = tt }
    won p (x ∷ l) c = go (beats (distance p) (distance x)) refl (λ n. won x l n) (won p l c)
      where
        go : (t : Bool) → beats (distance p) (distance x) ≡ t → (HasDistance distance x → Won (x ∷ l) (best_of point beats (Some (measured point x)) l)) → Won (p ∷ l) (best_of point beats (Some (measured point p)) l)
            → Won (p ∷ x ∷ l) (best_of point beats (Some (cond t (measured point x) (measured point p))) l)
        go true h v w = replaced p x l _ c h (v (σ.winner (distance p) (distance x) h))
        go false h v w = stayed p x l _ c h w

    -- the same with quantifiers
    first_at : (l : List (Pair A)) (r : Option Witness) (w : Won l r) → FirstAt distance order l w.k w.pair
    first_at l r w =
        record {
          there = w.there;
          extreme = record { counts = w.counts; each = each_at (Under w.pair) l w.each };
          earliest = λ j q m h e. σ.strict (distance q) (distance w.pair) (number q e.counts) (number w.pair w.counts) (before_at (Beaten w.pair) w.k l w.before j q m h e.counts) (e.each w.k w.pair w.there w.counts);
        }

    -- ---- none, and not none
    -- a best, once there, stays there, NaN or not
    some_stays : (w : Witness) (l : List (Pair A)) → best_of point beats (Some w) l ≡ None → ⊥
    unfolding taking
    some_stays w [] h = none-some w (sym h)
    some_stays w (p ∷ l) h = some_stays (better_of beats w (measured point p)) l h

    none_empty : (ls rs : List A) → best_of point beats None (pairs_of ls rs) ≡ None → (ls ≡ []) ⊎ (rs ≡ [])
    unfolding taking pairs_of pairs_with
    none_empty [] rs h = inl refl
    none_empty (a ∷ ls) [] h = inr refl
    none_empty (a ∷ ls) (b ∷ rs) h = absurd (some_stays (measured point (record { left = a; right = b })) (pairs_with a rs ++ pairs_of ls (b ∷ rs)) h)

    empty_none : (ls rs : List A) → (ls ≡ []) ⊎ (rs ≡ []) → best_of point beats None (pairs_of ls rs) ≡ None
    unfolding pairs_of
    empty_none ls rs (inl e) = ap (λ (l : List A). best_of point beats None (pairs_of l rs)) e
    empty_none ls rs (inr e) = ap (λ (l : List A). best_of point beats None (pairs_of ls l)) e ∙ ap (best_of point beats None) (no_pairs ls)

    answered : (l : List (Pair A)) (p : Pair A) → get_elem? l 0 ≡ some p → HasDistance distance p → IsFirst distance order l (λ q. best_of point beats None l ≡ Some (measured point q))
    unfolding taking
    answered [] p h c = absurd (none-ne-some p h)
    answered (q ∷ l) p h c =
        let w = won q l (subst (HasDistance distance) (sym (some-injective q p h)) c) in
        record { k = w.k; pair = w.pair; first = first_at (q ∷ l) (best_of point beats (Some (measured point q)) l) w; given = w.given }

    -- an answer that is the best of all pairs has the third property
    pub best_holds : (ls rs : List A) (answer : Option Witness) → answer ≡ best_of point beats None (pairs_of ls rs) → Holds (distance_of point) order ls rs (answer ≡ None) (λ p. answer ≡ Some (measured point p))
    best_holds ls rs answer e =
        record {
          none_exactly = (λ h. none_empty ls rs (sym e ∙ h), λ h. e ∙ empty_none ls rs h);
          first_extreme = λ p h c. let a = answered (pairs_of ls rs) p h c in record { k = a.k; pair = a.pair; first = a.first; given = e ∙ a.given };
        }

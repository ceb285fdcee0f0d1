-- What stays settled from listed item to listed item; an item that follows the one before it. Assumes nothing.
use mathlib.Core.Path.{◌≡◌, refl, sym, ◌∙◌}
use mathlib.Core.Bool.{Bool, true, false, cond, false≢true}
use mathlib.Core.List.{List, [], ◌∷◌}
use Rattle.std.specs.Prelude.{None, Some}
use Rattle.std.specs.declared.option.Option.{Option}
use Prim.Native.Nat.{ℕ, zero, suc, ◌+◌, ◌<◌, ◌≤◌}
use native.Mathlib.Omega.{arith}
use borrow.Author.Count.{below_more}
use lib.ListN.{length, get_or, set, replicate}
use lib.Seq.{get_or-set_other}
use Rattle.std.proofs.lemmas.List.{get_or_default}
use Rattle.primitives.specs.declared.Witness.{Witness}
use Rattle.extremes.specs.Sweeps.{shorter}
use Rattle.extremes.proofs.Lists.{Each}
use Rattle.extremes.proofs.Taking.{BestFits, Unbeaten, unbeaten_stays}
use Rattle.items.specs.declared.Item.{Item}
use Rattle.items.specs.declared.Item.TheVariants.{Point as point, Segment as segment, Triangle as triangle}
use Rattle.items.specs.Candidates.{candidates_of}
use Rattle.measures.specs.InnerOffers.{AllSettled}
use Rattle.items.specs.InnerRepeats.{first_after, first_before}
use Rattle.measures.proofs.NotBelowZero.{Distant}
use Rattle.measures.proofs.Settled.{settled_stays}
use Rattle.items.proofs.NotBelowZero.{candidates_not_below}
use Rattle.items.proofs.Repeats.{measured_first, measured_second, first_distant}
use Rattle.items.specs.declared.boxed.Boxed.{Boxed}
use Rattle.items.specs.Items.{box_of_item}
use Rattle.primitives.specs.Boxes.{least_squared_gap}
use Rattle.extremes.specs.ClosestSweep.{no_closer}
use Rattle.items.specs.Closest.{with_item}
use Rattle.extremes.specs.BestSoFar.{at_zero}
use Rattle.against.specs.Known.{met, Known}

-- ---- a best of distance 0 settles all
unbeaten_zero : (s : Option Witness) → at_zero s ≡ true → (w : Witness) → Distant w → Unbeaten shorter s w
unfolding at_zero
unbeaten_zero None z w d = absurd (false≢true z)
unbeaten_zero (Some best) z w d = d.distance best.d z

zero_settled : (s : Option Witness) → at_zero s ≡ true → (ws : List Witness) → Each Distant ws → AllSettled s ws
unfolding AllSettled
zero_settled s z [] d = tt
zero_settled s z (w ∷ ws) d = (unbeaten_stays shorter s w (unbeaten_zero s z w d.0), zero_settled s z ws d.1)

-- ---- none is below 0
-- an item that has, with the item before it, what o has with the item after it
onward : Item → Item
onward (point p) = point p
onward (segment s e) = segment e e
onward (triangle t) = triangle (record { a = t.a; b = t.c; c = t.c })

after_before : (o i : Item) → first_after o i ≡ first_before (onward o) i
unfolding first_after first_before onward
after_before (point p) i = refl
after_before (segment s e) (point q) = refl
after_before (segment s e) (segment u v) = refl
after_before (segment s e) (triangle u) = refl
after_before (triangle t) (point q) = refl
after_before (triangle t) (segment s e) = refl
after_before (triangle t) (triangle u) = refl

after_distant : (o i : Item) → Each Distant (first_after o i)
after_distant o i = rw (after_before o i) (first_distant (onward o) i)

-- ---- an item of A with an item of B, unless it is too far
module _ (a b : Item) (s t : Option Witness) (fits : BestFits s) (turn : t ≡ met a s b) where
  pub stays : (ws : List Witness) → Each Distant ws → AllSettled s ws → AllSettled t ws
  unfolding with_item
  stays ws d k = rw turn (go (no_closer s (least_squared_gap (box_of_item a) (box_of_item b))))
    where
      go : (far : Bool) → AllSettled (cond far s (with_item a s b)) ws
      go true = k
      go false = settled_stays s ws (candidates_of a b) fits d (candidates_not_below a b) k

-- ---- from listed item to listed item
stored_true : (l : List Bool) (k : ℕ) (m : Bool) → get_or (set l k m) k false ≡ true → m ≡ true
stored_true [] k m e = absurd (false≢true e)
stored_true (x ∷ l) zero m e = e
stored_true (x ∷ l) (suc k) m e = stored_true l k m e

module _ (a : Item) (rows : List Boxed) where
  -- before the k-th row: what is known of those before it with a, and of the others with the item before a
  pub record Walked (best : Option Witness) (known : List Bool) (k : ℕ) : Type 0 where
    pub done : (i : ℕ) (d : Boxed) → i < k → get_or known i false ≡ true → AllSettled best (first_after a (get_or rows i d).item)
    pub ahead : (i : ℕ) (d : Boxed) → k ≤ i → i < length rows → get_or known i false ≡ true → AllSettled best (first_before a (get_or rows i d).item)

  pub walked_start : (best : Option Witness) (known : List Bool) → Known (first_before a) best known rows → Walked best known 0
  walked_start best known h = record { done = λ i d l. absurd (omega arith); ahead = λ i d l g. h i d g }

  -- the k-th row; m is whether it is measured
  pub walked_next : (row : Boxed) (m : Bool) (s t : Option Witness) (known : List Bool) (k : ℕ) → BestFits s → k < length rows → row ≡ get_or rows k row
      → t ≡ met a s row.item → (m ≡ true → AllSettled t (first_after a row.item)) → Walked s known k → Walked t (set known k m) (k + 1)
  walked_next row m s t known k fits h here turn measured w =
      record {
        done = λ i d l e. below_more (λ j. (d : Boxed) → get_or (set known k m) j false ≡ true → AllSettled t (first_after a (get_or rows j d).item)) k
            (λ j g d e. keeps (first_after a (get_or rows j d).item) (after_distant a _) (w.done j d g (sym (get_or-set_other known k j m false (λ z. absurd (omega arith))) ∙ e)))
            (λ d e. rw (get_or_default rows k d row h, ← here) (measured (stored_true known k m e)))
            i l d e;
        ahead = λ i d l g e. keeps (first_before a (get_or rows i d).item) (first_distant a _) (w.ahead i d (omega arith) g (sym (get_or-set_other known k i m false (λ z. absurd (omega arith))) ∙ e));
      }
    where
      keeps : (ws : List Witness) → Each Distant ws → AllSettled s ws → AllSettled t ws
      keeps = stays a row.item s t fits turn

  pub walked_end : (best : Option Witness) (known : List Bool) (k : ℕ) → length rows ≤ k → Walked best known k → Known (first_after a) best known rows
  walked_end best known k h w i d g e = w.done i d (omega arith) e

  pub known_zero : (best : Option Witness) (known : List Bool) → at_zero best ≡ true → Known (first_after a) best known rows
  known_zero best known z i d g e = zero_settled best z (first_after a (get_or rows i d).item) (after_distant a _)

-- ---- nothing is known
none_known : (n k : ℕ) → get_or (replicate n false) k false ≡ false
none_known zero k = refl
none_known (suc n) zero = refl
none_known (suc n) (suc k) = none_known n k

pub nothing_known : (f : Item → List Witness) (best : Option Witness) (n : ℕ) (rows : List Boxed) → Known f best (replicate n false) rows
nothing_known f best n rows k d g e = absurd (false≢true (sym (none_known n k) ∙ e))

-- an item that follows the one before it: what that one left is what it repeats
pub handed_on : (a next : Item) (best : Option Witness) (known : List Bool) (rows : List Boxed) → ((b : Item) → first_after a b ≡ first_before next b)
    → Known (first_after a) best known rows → Known (first_before next) best known rows
handed_on a next best known rows f h k d g e = rw (← f _) (h k d g e)

-- ---- what is measured, and what a walk over the rows takes at each turn

pub ruleset measured = (measured_first, measured_second)

pub ruleset walk = (walked_start, walked_next, walked_end, known_zero)

-- Where scanning ends, one patch after the other, for any reader f of one thing. Assumes nothing.
use Rattle.std.specs.Prelude.{Ok, Err}
use Rattle.refusals.specs.declared.Reason.{Reason}
use mathlib.Core.Path.{◌≡◌, refl, ap, ◌∙◌}
use mathlib.Core.List.{List, [], ◌∷◌}
use Prim.Native.Nat.{ℕ, suc, ◌+◌, ◌-◌, ◌<◌, ◌≤◌}
use native.Mathlib.Omega.{arith}
use Rattle.coords.specs.Walk.{Coordinate, Parsed, ok, refused, map_parsed, cons_parsed, and_then, times}
use Rattle.coords.specs.Parts.{Run}
use Rattle.coords.specs.Counts.{run_counts}
use Rattle.coords.specs.declared.Counts.{Counts}
use Rattle.surface.specs.Patches.{range_from}
use Rattle.surface.specs.Inner.{scan_end}

module _ {A : Type 0} (f : A → List (Run Coordinate)) where
  -- what was counted of a patch ends where the patch does
  pub counted_refused : (at : ℕ) (k : Reason) (w : Parsed A) → run_counts (map_parsed f w) ≡ Err k → scan_end (range_from at w) ≡ Err k
  unfolding run_counts map_parsed range_from scan_end
  counted_refused at k (refused j) q = cc
  counted_refused at k (ok a end) q = cc

  pub counted_ends : (at : ℕ) (c : Counts) (w : Parsed A) → run_counts (map_parsed f w) ≡ Ok c → scan_end (range_from at w) ≡ Ok c.end
  unfolding run_counts map_parsed range_from scan_end
  counted_ends at c (refused j) q = cc
  counted_ends at c (ok x end) q = cc

module _ {A : Type 0} where
  cons_end : (a : A) (w : Parsed (List A)) → scan_end (cons_parsed ◌∷◌ a w) ≡ scan_end w
  unfolding scan_end
  cons_end a (ok b end) = refl
  cons_end a (refused k) = refl

  then_ends : (w : Parsed A) (g : ℕ → Parsed (List A)) (e : ℕ) → scan_end w ≡ Ok e → scan_end (and_then ◌∷◌ w g) ≡ scan_end (g e)
  unfolding scan_end
  then_ends (refused k) g e p = cc
  then_ends (ok a next) g e p = let y : next ≡ e = cc in cons_end a (g next) ∙ ap (λ (n : ℕ). scan_end (g n)) y

  then_refused : (w : Parsed A) (g : ℕ → Parsed (List A)) (k : Reason) → scan_end w ≡ Err k → scan_end (and_then ◌∷◌ w g) ≡ Err k
  unfolding scan_end
  then_refused (refused j) g k p = p
  then_refused (ok a next) g k p = cc

  -- a turn of the loop, counted from the first: after a thing that was read, and after one that was refused
  pub turn_ends : (f : ℕ → Parsed A) (turns count at next e : ℕ) → turns < count → scan_end (times ◌∷◌ [] f count at) ≡ scan_end (times ◌∷◌ [] f (count - turns) next) → scan_end (f next) ≡ Ok e
      → scan_end (times ◌∷◌ [] f count at) ≡ scan_end (times ◌∷◌ [] f (count - (turns + 1)) e)
  unfolding times
  turn_ends f turns count at next e h i p =
      let more : count - turns ≡ suc (count - (turns + 1)) = omega arith in
      i ∙ rw more (then_ends (f next) (times ◌∷◌ [] f (count - (turns + 1))) e p)

  pub turn_refused : (f : ℕ → Parsed A) (turns count at next : ℕ) (k : Reason) → turns < count → scan_end (times ◌∷◌ [] f count at) ≡ scan_end (times ◌∷◌ [] f (count - turns) next) → scan_end (f next) ≡ Err k
      → scan_end (times ◌∷◌ [] f count at) ≡ Err k
  unfolding times
  turn_refused f turns count at next k h i p =
      let more : count - turns ≡ suc (count - (turns + 1)) = omega arith in
      i ∙ rw more (then_refused (f next) (times ◌∷◌ [] f (count - (turns + 1))) k p)

  pub turns_end : (f : ℕ → Parsed A) (turns count at next : ℕ) → count ≤ turns → scan_end (times ◌∷◌ [] f count at) ≡ scan_end (times ◌∷◌ [] f (count - turns) next) → scan_end (times ◌∷◌ [] f count at) ≡ Ok next
  unfolding times scan_end
  turns_end f turns count at next h i =
      let none : count - turns ≡ 0 = omega arith in
      i ∙ rw none

-- what the scans of one patch and of many need
pub ruleset counts = (counted_refused, counted_ends)

pub ruleset scans = (turn_ends, turn_refused, turns_end)

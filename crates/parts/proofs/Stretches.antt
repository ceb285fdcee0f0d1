-- Runs taken at once: how the points, and the runs that are left, go on with each run. Assumes nothing.
use mathlib.Core.Path.{◌≡◌, refl, sym, ap, ◌∙◌}
use mathlib.Core.Bool.{Bool, true, false, ◌&&◌}
use mathlib.Core.List.{List, [], ◌∷◌, ◌++◌}
use Rattle.std.proofs.lemmas.List.{append_assoc, length-take, length-drop, drop-drop, append-nil}
use Prim.Native.Nat.{ℕ, ◌+◌, ◌-◌, ◌*◌, ◌<◌, ◌≤◌}
use native.Mathlib.Omega.{arith}
use lib.Dec.{leb}
use borrow.Author.Tests.{le-leb, lt-leb}
use lib.ListN.{length, take, drop, get_or}
use lib.Seq.{take-add}
use lib.Ieee.{Float}
use Rattle.workspace.specs.Workspace.{floats_per_coordinate, numbers_per_run}
use Rattle.coords.specs.Parts.{Run, run}
use Rattle.primitives.specs.declared.Point.{Point}
use Rattle.parts.specs.Stored.{stored_runs, Laid}
use Rattle.parts.specs.Slices.{points_in}
use Rattle.parts.specs.declared.Class.{Class}
use Rattle.parts.specs.Classes.{is_of}
use Rattle.parts.specs.Stretches.{is_with, points_while, runs_after}
use Rattle.parts.proofs.Slices.{length_points_in, runs_short, runs_more, run_fits, laid_more}

-- the points of the first floats, and of those that follow them
points_in_append : (n : ℕ) (floats : List Float) (others : List Float) → floats_per_coordinate * n ≡ length floats → points_in (floats ++ others) ≡ points_in floats ++ points_in others
unfolding points_in
points_in_append n [] others e = refl
points_in_append n (x ∷ []) others e = absurd (omega (arith, e))
points_in_append n (x ∷ y ∷ []) others e = absurd (omega (arith, e))
points_in_append n (x ∷ y ∷ z ∷ []) others e = absurd (omega (arith, e))
points_in_append n (x ∷ y ∷ z ∷ m ∷ floats) others e = ap (λ ps. record { x = x; y = y; z = z } ∷ ps) (points_in_append (n - 1) floats others (omega (arith, e)))

points_in_more : (m n : ℕ) (floats : List Float) → floats_per_coordinate * m ≤ length floats
    → points_in (take (floats_per_coordinate * (m + n)) floats) ≡ points_in (take (floats_per_coordinate * m) floats) ++ points_in (take (floats_per_coordinate * n) (drop (floats_per_coordinate * m) floats))
points_in_more m n floats h =
    ap (λ k. points_in (take k floats)) (omega arith)
    ∙ ap points_in (take-add (floats_per_coordinate * m) (floats_per_coordinate * n) floats)
    ∙ points_in_append m (take (floats_per_coordinate * m) floats) (take (floats_per_coordinate * n) (drop (floats_per_coordinate * m) floats)) (omega (arith, h, length-take (floats_per_coordinate * m) floats))

length_points : (n : ℕ) (floats : List Float) → floats_per_coordinate * n ≤ length floats → length (points_in (take (floats_per_coordinate * n) floats)) ≡ n
length_points n floats h = omega (arith, h, length_points_in (take (floats_per_coordinate * n) floats), length-take (floats_per_coordinate * n) floats)

module _ (test : ℕ → ℕ → Bool) (table : List ℕ) (floats : List Float) (left : List ℕ) (count : ℕ) where
  -- with so many points taken, what is left of the table goes on
  pub record Taken : Type 0 where
    pub fits : floats_per_coordinate * count ≤ length floats
    pub laid : Laid left (drop (floats_per_coordinate * count) floats)
    pub points : points_while test (stored_runs table floats) ≡ points_in (take (floats_per_coordinate * count) floats) ++ points_while test (stored_runs left (drop (floats_per_coordinate * count) floats))
    pub runs : runs_after test (stored_runs table floats) ≡ runs_after test (stored_runs left (drop (floats_per_coordinate * count) floats))

  -- and ends where no run is left, or where the test doesn't hold
  pub record Ended : Type 0 where
    pub fits : floats_per_coordinate * count ≤ length floats
    pub laid : Laid left (drop (floats_per_coordinate * count) floats)
    pub points : points_while test (stored_runs table floats) ≡ points_in (take (floats_per_coordinate * count) floats)
    pub runs : runs_after test (stored_runs table floats) ≡ stored_runs left (drop (floats_per_coordinate * count) floats)

module _ (test : ℕ → ℕ → Bool) where
  while_taken : {A : Type 0} (kind n : ℕ) (ps : List A) (rs : List (Run A)) → length ps ≡ n → test kind n ≡ true
      → (points_while test (run kind ps ∷ rs) ≡ ps ++ points_while test rs) × (runs_after test (run kind ps ∷ rs) ≡ runs_after test rs)
  unfolding points_while runs_after
  while_taken kind n ps rs e t = let f : test kind (length ps) ≡ true = rw e t in (rw f, rw f)

  while_ended : {A : Type 0} (kind n : ℕ) (ps : List A) (rs : List (Run A)) → length ps ≡ n → test kind n ≡ false
      → (points_while test (run kind ps ∷ rs) ≡ []) × (runs_after test (run kind ps ∷ rs) ≡ run kind ps ∷ rs)
  unfolding points_while runs_after
  while_ended kind n ps rs e t = let f : test kind (length ps) ≡ false = rw e t in (rw f, rw f)

module _ (test : ℕ → ℕ → Bool) (table : List ℕ) (floats : List Float) where
  pub nothing : Laid table floats → Taken test table floats table 0
  unfolding points_in
  nothing l = record { fits = omega arith; laid = l; points = refl; runs = refl }

  module _ (left : List ℕ) (count : ℕ) where
    pub one_fits : Taken test table floats left count → numbers_per_run ≤ length left → floats_per_coordinate * (count + get_or left 1 0) ≤ length floats
    one_fits t h = omega (arith, t.fits, run_fits left (drop (floats_per_coordinate * count) floats) t.laid h, length-drop (floats_per_coordinate * count) floats)

    one_taken : Taken test table floats left count → numbers_per_run ≤ length left → test (get_or left 0 0) (get_or left 1 0) ≡ true
        → Taken test table floats (take (length left - numbers_per_run) (drop numbers_per_run left)) (count + get_or left 1 0)
    one_taken t h e =
        let k = get_or left 0 0 in let n = get_or left 1 0 in
        let others = take (length left - numbers_per_run) (drop numbers_per_run left) in
        let rest = drop (floats_per_coordinate * count) floats in let rest' = drop (floats_per_coordinate * (count + n)) floats in
        let taken = points_in (take (floats_per_coordinate * count) floats) in let ps = points_in (take (floats_per_coordinate * n) rest) in
        let fits : floats_per_coordinate * n ≤ length rest = run_fits left rest t.laid h in
        let follow : drop (floats_per_coordinate * n) rest ≡ rest' = drop-drop (floats_per_coordinate * n) (floats_per_coordinate * count) floats ∙ ap (λ i. drop i floats) (omega arith) in
        let runs : stored_runs left rest ≡ run k ps ∷ stored_runs others rest' = runs_more left rest h ∙ ap (λ fl. run k ps ∷ stored_runs others fl) follow in
        let w = while_taken test k n ps (stored_runs others rest') (length_points n rest fits) e in
        record {
          fits = one_fits t h;
          laid = laid_more left rest rest' t.laid h (omega (arith, t.fits, one_fits t h, length-drop (floats_per_coordinate * count) floats, length-drop (floats_per_coordinate * (count + n)) floats));
          points = t.points ∙ ap (λ rs. taken ++ points_while test rs) runs ∙ ap (λ l. taken ++ l) w.0 ∙ sym (append_assoc taken ps (points_while test (stored_runs others rest')))
              ∙ ap (λ l. l ++ points_while test (stored_runs others rest')) (sym (points_in_more count n floats t.fits));
          runs = t.runs ∙ ap (runs_after test) runs ∙ w.1;
        }

    ended_by : Taken test table floats left count → (runs : List (Run Point)) → stored_runs left (drop (floats_per_coordinate * count) floats) ≡ runs
        → (points_while test runs ≡ []) × (runs_after test runs ≡ runs) → Ended test table floats left count
    ended_by t runs e w =
        record {
          fits = t.fits;
          laid = t.laid;
          points = t.points ∙ ap (λ l. points_in (take (floats_per_coordinate * count) floats) ++ l) (ap (points_while test) e ∙ w.0) ∙ append-nil _;
          runs = t.runs ∙ ap (runs_after test) e ∙ w.1 ∙ sym e;
        }

    pub ended_short : Taken test table floats left count → length left < numbers_per_run → Ended test table floats left count
    unfolding points_while runs_after
    ended_short t h = ended_by t [] (runs_short left (drop (floats_per_coordinate * count) floats) h) (refl, refl)

    ended_at : Taken test table floats left count → numbers_per_run ≤ length left → test (get_or left 0 0) (get_or left 1 0) ≡ false → Ended test table floats left count
    ended_at t h e =
        let rest = drop (floats_per_coordinate * count) floats in let n = get_or left 1 0 in
        ended_by t _ (runs_more left rest h) (while_ended test (get_or left 0 0) n _ _ (length_points n rest (run_fits left rest t.laid h)) e)

-- ---- by the test that the code makes

module _ (class : Class) (least : ℕ) where
  is_class : (kind n : ℕ) → is_of class kind ≡ true → least ≤ n → is_with class least kind n ≡ true
  unfolding is_with
  is_class kind n e h = rw (e, le-leb least n h)

  other_class : (kind n : ℕ) → is_of class kind ≡ false → is_with class least kind n ≡ false
  unfolding is_with
  other_class kind n e = rw e

  too_few : (kind n : ℕ) → n < least → is_with class least kind n ≡ false
  unfolding is_with
  too_few kind n h = go (is_of class kind)
    where
      go : (b : Bool) → (b && leb least n) ≡ false
      go true = lt-leb least n h
      go false = refl

  module _ (table : List ℕ) (floats : List Float) (left : List ℕ) (count : ℕ) (t : Taken (is_with class least) table floats left count) (h : numbers_per_run ≤ length left) where
    pub run_taken : is_of class (get_or left 0 0) ≡ true → least ≤ get_or left 1 0
        → Taken (is_with class least) table floats (take (length left - numbers_per_run) (drop numbers_per_run left)) (count + get_or left 1 0)
    run_taken e f = one_taken _ table floats left count t h (is_class _ _ e f)

    pub run_of_other_class : is_of class (get_or left 0 0) ≡ false → Ended (is_with class least) table floats left count
    run_of_other_class e = ended_at _ table floats left count t h (other_class _ _ e)

    pub run_of_too_few : get_or left 1 0 < least → Ended (is_with class least) table floats left count
    run_of_too_few f = ended_at _ table floats left count t h (too_few _ _ f)

pub ruleset stretch_turns = (nothing, one_fits, run_taken, ended_short, run_of_other_class, run_of_too_few)

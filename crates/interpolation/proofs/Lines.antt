-- How many segments runs have, and what 14 says of counts (document 01, Parts and the table). Assumes nothing.
use mathlib.Core.Path.{◌≡◌, refl, sym, ap}
use mathlib.Core.Logic.{⊎_elim}
use mathlib.Core.Bool.{Bool, true, false, cond, ◌||◌, true≢false}
use mathlib.Core.List.{List, [], ◌∷◌, ◌++◌, map}
use Prim.Native.Nat.{ℕ, suc, ◌+◌, ◌<◌, ◌≤◌}
use native.Mathlib.Omega.{arith}
use lib.Dec.{ltb, eqb}
use lib.ListN.{length, length-append}
use borrow.Author.Tests.{ne_eqb, eqb-true, eqb-false, ltb-false}
use Rattle.gpb.specs.Header.{geometry_start}
use Rattle.coords.specs.Walk.{Coordinate, Geometry, Parsed, ok, refused, all_levels}
use Rattle.coords.specs.Parts.{Run, run, map_runs, walked_runs, coordinate_count, other_count, is_point, is_line, is_face, segments_by, of_kind}
use Rattle.coords.proofs.Each.{Each}
use Rattle.coords.proofs.EachRun.{RunKind}
use Rattle.coords.proofs.RunFacts.{HasRunKind, walk_kinds, HasSome, walk_runs_non_empty}
use Rattle.interpolation.specs.Interpolation.{segments_of_line, segments_of}
use Rattle.interpolation.specs.Operation.{is_no_line}
use Rattle.blob.specs.Blob.{walk_of_blob, runs_of_blob}
use Rattle.blob.specs.Inner.{operand_of}
use Rattle.blob.specs.declared.Operand.{Operand}
use Rattle.interpolation.specs.Inner.{no_line_by}

-- ---- how many

-- a line of n gives n - 1
line_length : {A : Type 0} (cs : List A) → 0 < length cs → length (segments_of_line cs) + 1 ≡ length cs
unfolding segments_by
line_length [] h = absurd (omega arith)
line_length (a ∷ []) h = refl
line_length (a ∷ b ∷ cs) h = omega (arith, line_length (b ∷ cs) (omega arith))

-- at most one for each coordinate beside a run's first
at_most : (rs : List (Run Coordinate)) → Each HasSome rs → length (segments_of rs) + length rs ≤ coordinate_count rs
unfolding of_kind coordinate_count
at_most [] e = omega arith
at_most (run k cs ∷ rs) e = go (is_line k) (at_most rs e.1)
  where
    go : (b : Bool) → length (segments_of rs) + length rs ≤ coordinate_count rs → length (cond b (segments_of_line cs) [] ++ segments_of rs) + suc (length rs) ≤ length cs + coordinate_count rs
    go true i = omega (arith, i, e.0, line_length cs e.0, length-append (segments_of_line cs) (segments_of rs))
    go false i = omega (arith, i, e.0)

-- a run that is neither point nor face is a line
is_line_lem : (k : ℕ) → RunKind k → (is_point k || is_face k) ≡ false → k ≡ 2
is_line_lem k r e =
    ⊎_elim (λ p. absurd (true≢false (rw p at e)))
    (⊎_elim (λ p. p)
    (⊎_elim (λ p. absurd (true≢false (rw p at e)))
    (λ p. absurd (true≢false (rw p at e))))) r

-- exactly so many, where every run is a line
exactly : (rs : List (Run Coordinate)) → Each HasSome rs → Each HasRunKind rs → other_count rs ≡ 0 → length (segments_of rs) + length rs ≡ coordinate_count rs
unfolding of_kind coordinate_count other_count
exactly [] e k h = refl
exactly (run j cs ∷ rs) e k h = go (is_point j || is_face j) refl h (exactly rs e.1 k.1)
  where
    go : (b : Bool) → (is_point j || is_face j) ≡ b → cond b 1 0 + other_count rs ≡ 0 → (other_count rs ≡ 0 → length (segments_of rs) + length rs ≡ coordinate_count rs) → length (cond (is_line j) (segments_of_line cs) [] ++ segments_of rs) + suc (length rs) ≡ length cs + coordinate_count rs
    go true f g rest = absurd (omega arith)
    go false f g rest = rw (is_line_lem j k.0 f) (omega (arith, rest (omega arith), line_length cs e.0, length-append (segments_of_line cs) (segments_of rs)))

-- ---- coordinates that are mapped

line_map : {A B : Type 0} (f : A → B) (cs : List A) → length (segments_of_line (map f cs)) ≡ length (segments_of_line cs)
unfolding segments_by
line_map f [] = refl
line_map f (a ∷ []) = refl
line_map f (a ∷ b ∷ cs) = ap suc (line_map f (b ∷ cs))

pub segments_map : {A B : Type 0} (f : A → B) (rs : List (Run A)) → length (segments_of (map_runs f rs)) ≡ length (segments_of rs)
unfolding of_kind map_runs
segments_map f [] = refl
segments_map f (run k cs ∷ rs) = go (is_line k) (segments_map f rs)
  where
    go : (b : Bool) → length (segments_of (map_runs f rs)) ≡ length (segments_of rs) → length (cond b (segments_of_line (map f cs)) [] ++ segments_of (map_runs f rs)) ≡ length (cond b (segments_of_line cs) [] ++ segments_of rs)
    go true i = omega (arith, i, line_map f cs, length-append (segments_of_line (map f cs)) (segments_of (map_runs f rs)), length-append (segments_of_line cs) (segments_of rs))
    go false i = i

-- ---- 14

-- what is no reason for 14 has a segment
pub has_segment : {A : Type 0} (rs : List (Run A)) → is_no_line rs ≡ false → 0 < length (segments_of rs)
unfolding is_no_line
has_segment rs h = go (ltb 0 (other_count rs)) h
  where
    go : (b : Bool) → (b || eqb (length (segments_of rs)) 0) ≡ false → 0 < length (segments_of rs)
    go true e = absurd (true≢false e)
    go false e = omega (arith, eqb-false (length (segments_of rs)) 0 e)

or_true : (b : Bool) → true ≡ (b || true)
or_true true = refl
or_true false = refl

-- by the numbers of an operand
module _ (s : List ℕ) (v : Operand) (own : v ≡ operand_of s) where
  facts : Each HasSome (runs_of_blob s) × Each HasRunKind (runs_of_blob s)
  unfolding walked_runs
  facts = go (walk_of_blob s) refl
    where
      go : (w : Parsed Geometry) → walk_of_blob s ≡ w → Each HasSome (walked_runs w) × Each HasRunKind (walked_runs w)
      go (ok g end) e = (walk_runs_non_empty all_levels s (geometry_start s) g end e, walk_kinds all_levels s (geometry_start s) g end e)
      go (refused k) e = (tt, tt)

  by_numbers : (b : Bool) → eqb (coordinate_count (runs_of_blob s)) (length (runs_of_blob s)) ≡ b → is_no_line (runs_of_blob s) ≡ (b || ltb 0 (other_count (runs_of_blob s)))
  unfolding is_no_line
  by_numbers true e =
      -- one coordinate for each run: no segment
      let z : length (segments_of (runs_of_blob s)) ≡ 0 = omega (arith, at_most (runs_of_blob s) facts.0, eqb-true (coordinate_count (runs_of_blob s)) (length (runs_of_blob s)) e) in
      rw z (sym (or_true (ltb 0 (other_count (runs_of_blob s)))))
  by_numbers false e = go (ltb 0 (other_count (runs_of_blob s))) refl
    where
      -- otherwise a point or face decides
      go : (b : Bool) → ltb 0 (other_count (runs_of_blob s)) ≡ b → (ltb 0 (other_count (runs_of_blob s)) || eqb (length (segments_of (runs_of_blob s))) 0) ≡ ltb 0 (other_count (runs_of_blob s))
      go true h = rw h
      go false h =
          rw h (ne_eqb (length (segments_of (runs_of_blob s))) 0 (λ z. eqb-false (coordinate_count (runs_of_blob s)) (length (runs_of_blob s)) e (omega (arith, z, exactly (runs_of_blob s) facts.0 facts.1 (omega (arith, ltb-false 0 (other_count (runs_of_blob s)) h))))))

  pub no_line_is : is_no_line (runs_of_blob s) ≡ no_line_by v.coords v.runs v.others
  no_line_is = rw own (by_numbers (eqb (coordinate_count (runs_of_blob s)) (length (runs_of_blob s))) refl)

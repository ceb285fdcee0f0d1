-- A geometry that was read lies between where it starts and the blob's end; how deep it nests. Assumes nothing.
use mathlib.Core.Path.{◌≡◌, refl, sym, ap, ◌∙◌}
use mathlib.Core.Bool.{Bool, true, false}
use mathlib.Core.List.{List}
use Prim.Native.Nat.{ℕ, suc, ◌-◌, ◌<◌, ◌≤◌, max}
use native.Mathlib.Nat.{max-le, le-max_left, le-max_right}
use native.Mathlib.Omega.{arith}
use lib.Dec.{ltb}
use lib.ListN.{length}
use lib.Seq.{length-slice}
use borrow.Author.Tests.{ltb-true, ltb-false, lt-ltb, le-ltb}
use Rattle.std.specs.Prelude.{None, Result, Ok, Err, is_err}
use Rattle.std.proofs.lemmas.Option.{none-some}
use Rattle.refusals.specs.Checks.{first_of}
use Rattle.refusals.specs.declared.Reason.{Reason}
use Rattle.gpb.specs.Header.{geometry_start}
use Rattle.coords.specs.Walk.{Geometry, Parsed, ok, refused, walk_of, all_levels}
use Rattle.coords.specs.Levels.{deepest_level}
use Rattle.coords.specs.Refusals.{walk_checks}
use Rattle.coords.specs.Counts.{counts_of}
use Rattle.coords.specs.declared.Counts.{Counts}
use Rattle.coords.proofs.Refusals.{refused_is_given}
use Rattle.coords.proofs.Counted.{counted_refused, counted_accepted}
use Rattle.coords.proofs.Levels.{deepest_below, walk_with_levels}
use Rattle.coords.proofs.Ends.{walk_end_lem}
use Rattle.blob.specs.Blob.{walk_of_blob, walk_end}
use Rattle.joining.specs.Joined.{own_bytes, deepest_of, nests_too_deep}

-- no check of the walk holds: a geometry was read
pub record WasRead (s : List ℕ) : Type 0 where
  pub tree : Geometry
  pub end : ℕ
  pub walk : walk_of_blob s ≡ ok tree end

pub was_read : (s : List ℕ) → first_of (walk_checks s (geometry_start s)) ≡ None → WasRead s
was_read s h = go (walk_of_blob s) refl
  where
    go : (w : Parsed Geometry) → walk_of_blob s ≡ w → WasRead s
    go (ok g end) e = record { tree = g; end = end; walk = e }
    go (refused k) e = absurd (none-some k (sym h ∙ refused_is_given s (geometry_start s) k e))

-- ---- its bytes

pub record Lies (s : List ℕ) : Type 0 where
  pub forward : geometry_start s ≤ walk_end (walk_of_blob s)
  pub within : walk_end (walk_of_blob s) ≤ length s
  pub size : length (own_bytes s) ≡ walk_end (walk_of_blob s) - geometry_start s

pub lies : (s : List ℕ) → first_of (walk_checks s (geometry_start s)) ≡ None → Lies s
unfolding own_bytes walk_end
lies s h =
    let r = was_read s h in
    let w = walk_end_lem s all_levels (geometry_start s) r.tree r.end r.walk in
    let e : walk_end (walk_of_blob s) ≡ r.end = ap walk_end r.walk in
    let inside : walk_end (walk_of_blob s) ≤ length s = omega (arith, e, w.1) in
    record {
      forward = omega (arith, e, w.0);
      within = inside;
      size = length-slice (geometry_start s) (walk_end (walk_of_blob s)) s inside;
    }

-- ---- its levels

-- a walk with one level less refuses exactly a geometry that has a level 32
pub last_level : (s : List ℕ) (at : ℕ) → at ≡ geometry_start s → first_of (walk_checks s (geometry_start s)) ≡ None → {o : Result Counts Reason} → o ≡ counts_of (walk_of 32 s at) → is_err o ≡ ltb 31 (deepest_of (walk_of_blob s))
unfolding deepest_of
last_level s at starts h {o} p = go o refl
  where
    deepest_is : deepest_of (walk_of_blob s) ≡ deepest_level (was_read s h).tree
    deepest_is = ap deepest_of (was_read s h).walk

    same_start : walk_of 32 s at ≡ walk_of 32 s (geometry_start s)
    same_start = ap (walk_of 32 s) starts

    reaches : (k : Reason) → o ≡ Err k → true ≡ ltb 31 (deepest_of (walk_of_blob s))
    reaches k q =
        let r = was_read s h in
        let no : walk_of 32 s (geometry_start s) ≡ refused k = sym same_start ∙ counted_refused (walk_of 32 s at) k (sym p ∙ q) in
        let deep : deepest_level r.tree < 32 → ⊥ = λ l. (let yes = walk_with_levels all_levels 32 s (geometry_start s) r.tree r.end r.walk l in cc) in
        sym (ap (ltb 31) deepest_is ∙ reached (ltb 31 (deepest_level r.tree)) refl deep)
      where
        reached : (t : Bool) → ltb 31 (deepest_level (was_read s h).tree) ≡ t → (deepest_level (was_read s h).tree < 32 → ⊥) → t ≡ true
        reached true e d = refl
        reached false e d = absurd (d (omega (arith, ltb-false 31 (deepest_level (was_read s h).tree) e)))

    reaches_not : (c : Counts) → o ≡ Ok c → false ≡ ltb 31 (deepest_of (walk_of_blob s))
    reaches_not c q =
        let r = was_read s h in
        let n = counted_accepted (walk_of 32 s at) c (sym p ∙ q) in
        let yes : walk_of 32 s (geometry_start s) ≡ ok n.tree c.end = sym same_start ∙ n.read in
        let few = deepest_below 32 s (geometry_start s) n.tree c.end yes in
        let same = walk_with_levels 32 all_levels s (geometry_start s) n.tree c.end yes (omega (arith, few)) in
        let one : ok n.tree c.end ≡ ok r.tree r.end = sym same ∙ r.walk in
        let trees : n.tree ≡ r.tree = cc in
        sym (ap (ltb 31) (deepest_is ∙ ap deepest_level (sym trees)) ∙ le-ltb 31 (deepest_level n.tree) (omega (arith, few)))

    go : (x : Result Counts Reason) → o ≡ x → is_err o ≡ ltb 31 (deepest_of (walk_of_blob s))
    go (Err k) q = rw q (reaches k q)
    go (Ok c) q = rw q (reaches_not c q)

-- ---- the levels of a join

module _ (a b : List ℕ) where
  da : ℕ
  da = deepest_of (walk_of_blob a)

  db : ℕ
  db = deepest_of (walk_of_blob b)

  pub first_too_deep : ltb 31 (deepest_of (walk_of_blob a)) ≡ true → nests_too_deep a b ≡ true
  unfolding nests_too_deep da db
  first_too_deep h = lt-ltb 32 (suc (max da db)) (omega (arith, ltb-true 31 da h, le-max_left da db))

  pub second_too_deep : ltb 31 (deepest_of (walk_of_blob b)) ≡ true → nests_too_deep a b ≡ true
  unfolding nests_too_deep da db
  second_too_deep h = lt-ltb 32 (suc (max da db)) (omega (arith, ltb-true 31 db h, le-max_right da db))

  pub neither_too_deep : ltb 31 (deepest_of (walk_of_blob a)) ≡ false → ltb 31 (deepest_of (walk_of_blob b)) ≡ false → nests_too_deep a b ≡ false
  unfolding nests_too_deep da db
  neither_too_deep h i =
      let m : max da db ≤ 31 = max-le (ltb-false 31 da h) (ltb-false 31 db i) in
      le-ltb 32 (suc (max da db)) (omega (arith, m))

  -- the first does not: the second decides
  pub by_second : ltb 31 (deepest_of (walk_of_blob a)) ≡ false → nests_too_deep a b ≡ ltb 31 (deepest_of (walk_of_blob b))
  by_second h = go (ltb 31 (deepest_of (walk_of_blob b))) refl
    where
      go : (t : Bool) → ltb 31 (deepest_of (walk_of_blob b)) ≡ t → nests_too_deep a b ≡ t
      go true e = second_too_deep e
      go false e = neither_too_deep h e

-- The vertices of a join are those of both blobs, and its pairs with a third blob those of both: as sets, since each kind of vertex of both comes before the
-- next kind of either. Assumes nothing.
use mathlib.Core.Path.{◌≡◌, ap, sym, ◌∙◌}
use mathlib.Core.Bool.{Bool, cond}
use mathlib.Core.List.{List, [], ◌∷◌, ◌++◌, append-nil}
use Prim.Native.Nat.{ℕ}
use Rattle.coords.specs.Walk.{Coordinate}
use Rattle.coords.specs.Parts.{Run, run, runs_of, content_runs, members_runs, walked_runs, is_point, is_line, is_face, of_kind, segment_ends, vertices_of}
use Rattle.blob.specs.Blob.{runs_of_blob}
use Rattle.extremes.specs.Pairs.{Pair, pairs_with, pairs_of}
use Rattle.extremes.proofs.Lists.{Each, each_append, each_weaken, each_both}
use Rattle.extremes.proofs.PairLists.{each_with}
use Rattle.outcomes.specs.Operations.{vertices_of_blob}
use Rattle.joining.specs.Promises.{ReadsAsBoth}

-- ---- lists whose elements are those of two others

module _ {X : Type 0} where
  -- what holds of each of n holds of each of l and of m, and the other way round
  pub record Together (l m n : List X) : Type 1 where
    pub apart : (F : X → Type 0) → Each F n → Each F l × Each F m
    pub again : (F : X → Type 0) → Each F l → Each F m → Each F n

  append_each : (F : X → Type 0) (l m : List X) → Each F (l ++ m) → Each F l × Each F m
  append_each F [] m e = (tt, e)
  append_each F (x ∷ l) m e = let r = append_each F l m e.1 in ((e.0, r.0), r.1)

  first_alone : (l : List X) → Together l [] l
  first_alone l = record { apart = λ F e. (e, tt); again = λ F e f. e }

  second_alone : (m : List X) → Together [] m m
  second_alone m = record { apart = λ F e. (tt, e); again = λ F e f. f }

  together_append : {l m n l' m' n' : List X} → Together l m n → Together l' m' n' → Together (l ++ l') (m ++ m') (n ++ n')
  together_append {l} {m} {n} {l'} {m'} {n'} t u = record { apart = to; again = from }
    where
      to : (F : X → Type 0) → Each F (n ++ n') → Each F (l ++ l') × Each F (m ++ m')
      to F e =
          let r = append_each F n n' e in
          let p = t.apart F r.0 in
          let q = u.apart F r.1 in
          (each_append F l l' p.0 q.0, each_append F m m' p.1 q.1)

      from : (F : X → Type 0) → Each F (l ++ l') → Each F (m ++ m') → Each F (n ++ n')
      from F e f =
          let p = append_each F l l' e in
          let q = append_each F m m' f in
          each_append F n n' (t.again F p.0 q.0) (u.again F p.1 q.1)

-- ---- vertices

module _ {A : Type 0} where
  kind_together : (test : ℕ → Bool) (f : List A → List A) (rs qs : List (Run A)) → Together (of_kind test f rs) (of_kind test f qs) (of_kind test f (rs ++ qs))
  unfolding of_kind
  kind_together test f [] qs = second_alone (of_kind test f qs)
  kind_together test f (run kind cs ∷ rs) qs =
      together_append (first_alone (cond (test kind) (f cs) [])) (kind_together test f rs qs)

  pub vertices_together : (rs qs : List (Run A)) → Together (vertices_of rs) (vertices_of qs) (vertices_of (rs ++ qs))
  unfolding vertices_of
  vertices_together rs qs =
      together_append (kind_together is_point (λ cs. cs) rs qs) (together_append (kind_together is_line segment_ends rs qs) (kind_together is_face (λ cs. cs) rs qs))

-- the runs of a join: a's, then b's
joined_runs : (a b j : List ℕ) → ReadsAsBoth a b j → runs_of_blob j ≡ runs_of_blob a ++ runs_of_blob b
unfolding walked_runs runs_of content_runs members_runs
joined_runs a b j r =
    ap walked_runs r.walk
    ∙ ap (λ (l : List (Run Coordinate)). runs_of r.first ++ l) (append-nil (runs_of r.second))
    ∙ sym (rw (ap walked_runs r.walk1, ap walked_runs r.walk2))

pub joined_vertices : (a b j : List ℕ) → ReadsAsBoth a b j → Together (vertices_of_blob a) (vertices_of_blob b) (vertices_of_blob j)
joined_vertices a b j r = rw (joined_runs a b j r) (vertices_together (runs_of_blob a) (runs_of_blob b))

-- ---- pairs

module _ {A : Type 0} where
  -- F of a with b; of a with each of a list
  abbrev Beside : (Pair A → Type 0) → A → A → Type 0
  Beside F a b = F (record { left = a; right = b })

  abbrev WithEach : (Pair A → Type 0) → List A → A → Type 0
  WithEach F rs a = Each (Beside F a) rs

  with_each : (F : Pair A → Type 0) (a : A) (rs : List A) → Each F (pairs_with a rs) → WithEach F rs a
  unfolding pairs_with
  with_each F a [] e = tt
  with_each F a (b ∷ rs) e = (e.0, with_each F a rs e.1)

  pairs_each : (F : Pair A → Type 0) (ls rs : List A) → Each F (pairs_of ls rs) → Each (WithEach F rs) ls
  unfolding pairs_of
  pairs_each F [] rs e = tt
  pairs_each F (a ∷ ls) rs e = let r = append_each F (pairs_with a rs) (pairs_of ls rs) e in (with_each F a rs r.0, pairs_each F ls rs r.1)

  each_pairs : (F : Pair A → Type 0) (ls rs : List A) → Each (WithEach F rs) ls → Each F (pairs_of ls rs)
  unfolding pairs_of
  each_pairs F [] rs e = tt
  each_pairs F (a ∷ ls) rs e = each_append F (pairs_with a rs) (pairs_of ls rs) (each_with F a rs e.0) (each_pairs F ls rs e.1)

  -- the third list second
  pub pairs_to : {l m n : List A} (c : List A) → Together l m n → Together (pairs_of l c) (pairs_of m c) (pairs_of n c)
  pairs_to {l} {m} {n} c t =
      record {
        apart = λ F e. let r = t.apart (WithEach F c) (pairs_each F n c e) in (each_pairs F l c r.0, each_pairs F m c r.1);
        again = λ F e f. each_pairs F n c (t.again (WithEach F c) (pairs_each F l c e) (pairs_each F m c f));
      }

  -- the third list first
  pub pairs_from : {l m n : List A} (c : List A) → Together l m n → Together (pairs_of c l) (pairs_of c m) (pairs_of c n)
  pairs_from {l} {m} {n} c t = record { apart = to; again = from }
    where
      to : (F : Pair A → Type 0) → Each F (pairs_of c n) → Each F (pairs_of c l) × Each F (pairs_of c m)
      to F e =
          let r = pairs_each F c n e in (
            each_pairs F c l (each_weaken (WithEach F n) (WithEach F l) (λ a h. (t.apart (Beside F a) h).0) c r),
            each_pairs F c m (each_weaken (WithEach F n) (WithEach F m) (λ a h. (t.apart (Beside F a) h).1) c r),
          )

      from : (F : Pair A → Type 0) → Each F (pairs_of c l) → Each F (pairs_of c m) → Each F (pairs_of c n)
      from F e f =
          each_pairs F c n
          (each_weaken (λ (a : A). WithEach F l a × WithEach F m a) (WithEach F n) (λ a h. t.again (Beside F a) h.0 h.1) c
          (each_both (WithEach F l) (WithEach F m) c (pairs_each F c l e) (pairs_each F c m f)))

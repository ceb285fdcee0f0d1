-- Laws of runs and vertices: they follow a map of the coordinates, and a fact of every coordinate is one of every vertex. Assumes nothing.
use mathlib.Core.Path.{◌≡◌, refl, sym, ap, ◌∙◌}
use mathlib.Core.Bool.{Bool, true, false, cond}
use mathlib.Core.List.{List, [], ◌∷◌, ◌++◌, map, map-append, flatten}
use Prim.Native.Nat.{ℕ, suc}
use native.Mathlib.Omega.{arith}
use lib.ListN.{length}
use Rattle.coords.specs.Parts.{Run, run, map_runs, coordinate_count, is_point, is_line, is_face, segments_by, of_kind, segment_ends, vertices_of}
use Rattle.coords.proofs.Each.{Each, each_append, each_cond}

-- ---- under a map

module _ {A B : Type 0} (f : A → B) where
  pub map_length : (l : List A) → length (map f l) ≡ length l
  map_length [] = refl
  map_length (x ∷ l) = ap suc (map_length l)

  map_cond : (b : Bool) (l : List A) → cond b (map f l) [] ≡ map f (cond b l [])
  map_cond true l = refl
  map_cond false l = refl

  segment_ends_map : (l : List A) → segment_ends (map f l) ≡ map f (segment_ends l)
  unfolding segment_ends segments_by flatten
  segment_ends_map [] = refl
  segment_ends_map (a ∷ []) = refl
  segment_ends_map (a ∷ b ∷ l) = ap (λ (m : List B). f a ∷ f b ∷ m) (segment_ends_map (b ∷ l))

  -- what a run adds, and what the rest gives
  add_map : (l m : List A) (l' m' : List B) → l' ≡ map f l → m' ≡ map f m → l' ++ m' ≡ map f (l ++ m)
  add_map l m l' m' p q = rw (p, q) (sym (map-append f l m))

  of_kind_map : (test : ℕ → Bool) (g : List A → List A) (h : List B → List B) → ((cs : List A) → h (map f cs) ≡ map f (g cs)) → (rs : List (Run A)) → of_kind test h (map_runs f rs) ≡ map f (of_kind test g rs)
  unfolding of_kind map_runs
  of_kind_map test g h e [] = refl
  of_kind_map test g h e (run k cs ∷ rs) =
      add_map (cond (test k) (g cs) []) (of_kind test g rs) _ _ (ap (λ (l : List B). cond (test k) l []) (e cs) ∙ map_cond (test k) (g cs)) (of_kind_map test g h e rs)

  -- the vertices of mapped runs are the vertices, mapped
  pub vertices_map : (rs : List (Run A)) → vertices_of (map_runs f rs) ≡ map f (vertices_of rs)
  unfolding vertices_of
  vertices_map rs =
      let alone : (test : ℕ → Bool) → of_kind test (λ cs. cs) (map_runs f rs) ≡ map f (of_kind test (λ cs. cs) rs) = λ test. of_kind_map test (λ cs. cs) (λ cs. cs) (λ cs. refl) rs in
      add_map (of_kind is_point (λ cs. cs) rs) (of_kind is_line segment_ends rs ++ of_kind is_face (λ cs. cs) rs) _ _ (alone is_point)
      (add_map (of_kind is_line segment_ends rs) (of_kind is_face (λ cs. cs) rs) _ _ (of_kind_map is_line segment_ends segment_ends segment_ends_map rs) (alone is_face))

  pub count_map : (rs : List (Run A)) → coordinate_count (map_runs f rs) ≡ coordinate_count rs
  unfolding coordinate_count map_runs
  count_map [] = refl
  count_map (run k cs ∷ rs) = omega (arith, map_length cs, count_map rs)

  pub runs_map : (rs : List (Run A)) → length (map_runs f rs) ≡ length rs
  unfolding map_runs
  runs_map [] = refl
  runs_map (run k cs ∷ rs) = ap suc (runs_map rs)

-- ---- of each vertex

module _ {A : Type 0} (P : A → Type 0) where
  -- P of every coordinate of a run
  abbrev pub InRun : Run A → Type 0
  InRun (run k cs) = Each P cs

  segment_ends_each : (l : List A) → Each P l → Each P (segment_ends l)
  unfolding segment_ends segments_by flatten
  segment_ends_each [] e = tt
  segment_ends_each (a ∷ []) e = tt
  segment_ends_each (a ∷ b ∷ l) e = (e.0, (e.1.0, segment_ends_each (b ∷ l) e.1))

  of_kind_each : (test : ℕ → Bool) (g : List A → List A) → ((cs : List A) → Each P cs → Each P (g cs)) → (rs : List (Run A)) → Each InRun rs → Each P (of_kind test g rs)
  unfolding of_kind
  of_kind_each test g f [] e = tt
  of_kind_each test g f (run k cs ∷ rs) e = each_append P (cond (test k) (g cs) []) (of_kind test g rs) (each_cond P (test k) (g cs) (f cs e.0)) (of_kind_each test g f rs e.1)

  -- what is said of every coordinate of the runs holds of every vertex
  pub vertices_each : (rs : List (Run A)) → Each InRun rs → Each P (vertices_of rs)
  unfolding vertices_of
  vertices_each rs e =
      let alone : (test : ℕ → Bool) → Each P (of_kind test (λ cs. cs) rs) = λ test. of_kind_each test (λ cs. cs) (λ cs h. h) rs e in
      each_append P (of_kind is_point (λ cs. cs) rs) (of_kind is_line segment_ends rs ++ of_kind is_face (λ cs. cs) rs) (alone is_point)
      (each_append P (of_kind is_line segment_ends rs) (of_kind is_face (λ cs. cs) rs) (of_kind_each is_line segment_ends segment_ends_each rs e) (alone is_face))

-- End theorems: distances and lines ignore M. Assumes nothing.
use Prim.Native.Nat.{ℕ}
use mathlib.Core.Path.{◌≡◌, refl, sym, ap, ◌∙◌}
use mathlib.Core.List.{List, [], ◌∷◌, map}
use Rattle.gpb.specs.Header.{top_type, has_z, lacks_z, header_checks_3d}
use Rattle.coords.specs.Walk.{Coordinate}
use Rattle.coords.specs.Parts.{Run, run, map_runs}
use Rattle.blob.specs.Blob.{runs_of_blob}
use Rattle.parts.specs.Points.{point_of}
use Rattle.primitives.specs.declared.Point.{Point}
use Rattle.outcomes.specs.Alike.{MeasuredAlike, SameZTest, PairsAnsweredAlike, without_m, SameButM}
use Rattle.outcomes.proofs.Alike.{two_alike, pairs_answered_alike}

-- a point has no m
points_without_m : (cs : List Coordinate) → map point_of (map without_m cs) ≡ map point_of cs
unfolding point_of without_m
points_without_m [] = refl
points_without_m (c ∷ cs) = ap (λ (l : List Point). point_of c ∷ l) (points_without_m cs)

runs_without_m : (rs : List (Run Coordinate)) → map_runs point_of (map_runs without_m rs) ≡ map_runs point_of rs
unfolding map_runs
runs_without_m [] = refl
runs_without_m (run kind cs ∷ rs) = rw (points_without_m cs, runs_without_m rs)

pub same_but_m_measured_alike : (s t : List ℕ) → SameButM s t → MeasuredAlike s t
same_but_m_measured_alike s t h =
    record {
      header = h.header;
      walk = h.walk;
      srid = h.srid;
      points = sym (runs_without_m (runs_of_blob s)) ∙ (ap (map_runs point_of) h.runs ∙ runs_without_m (runs_of_blob t));
    }

-- the Z test, by the types
pub same_z_test : (s t : List ℕ) → SameButM s t → has_z (top_type s) ≡ has_z (top_type t) → SameZTest s t
unfolding header_checks_3d lacks_z
same_z_test s t h z = two_alike _ _ _ _ h.header (rw z)

-- Where what is read on each side differs in m at most, and the Z test is the same, every measuring operation on two blobs gives the same report and output.
pub m_is_ignored : (a a' b b' : List ℕ) → SameButM a a' → SameZTest a a' → SameButM b b' → SameZTest b b' → PairsAnsweredAlike a b a' b'
m_is_ignored a a' b b' p y q z = pairs_answered_alike a a' b b' (same_but_m_measured_alike a a' p) y (same_but_m_measured_alike b b' q) z

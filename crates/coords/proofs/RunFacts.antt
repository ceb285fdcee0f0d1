-- What holds of the runs of every walk: their kinds, that none is empty, and that each ordinate is a 64-bit pattern. Assumes nothing.
use mathlib.Core.Path.{◌≡◌}
use mathlib.Core.Bool.{Bool, true, false}
use mathlib.Core.List.{List}
use Prim.Native.Nat.{ℕ, zero, suc, ◌+◌, ◌^◌, ◌<◌}
use native.Mathlib.Omega.{arith}
use lib.Dec.{lit<}
use lib.ListN.{length, get_or}
use Rattle.fields.proofs.Bounds.{u64_fits}
use Rattle.coords.specs.declared.WkbHeader.{WkbHeader}
use Rattle.coords.specs.Walk.{Coordinate, Geometry, ok, stride, ordinate_if, m_offset, coordinate_at, coordinates_from, walk_of}
use Rattle.coords.specs.Parts.{Run, run, runs_of, vertices_of}
use Rattle.coords.proofs.Each.{Each}
use Rattle.coords.proofs.Parts.{InRun, vertices_each}
use Rattle.coords.proofs.Laws.{length_coordinates}
use Rattle.coords.proofs.EachRun.{RunKind, each_run}

abbrev pub HasRunKind : Run Coordinate → Type 0
HasRunKind (run k cs) = RunKind k

-- the kinds of the runs of a walk are 1, 2, 3 or 17
pub walk_kinds : (levels : ℕ) (s : List ℕ) (at : ℕ) (g : Geometry) (end : ℕ) → walk_of levels s at ≡ ok g end → Each HasRunKind (runs_of g)
walk_kinds levels s at g end e = each_run s HasRunKind (λ h n i k p l. k) levels at g end e

abbrev pub HasSome : Run Coordinate → Type 0
HasSome (run k cs) = 0 < length cs

-- no run is empty
pub walk_runs_non_empty : (levels : ℕ) (s : List ℕ) (at : ℕ) (g : Geometry) (end : ℕ) → walk_of levels s at ≡ ok g end → Each HasSome (runs_of g)
walk_runs_non_empty levels s at g end e = each_run s HasSome (λ h n i k p l. omega (arith, length_coordinates h s n i, p)) levels at g end e

-- every ordinate is a pattern of 64 bits
pub record Patterns (c : Coordinate) : Type 0 where
  pub x_fits : c.x < 2 ^ 64
  pub y_fits : c.y < 2 ^ 64
  pub z_fits : c.z < 2 ^ 64
  pub m_fits : c.m < 2 ^ 64

module _ (s : List ℕ) (bytes : (i : ℕ) → get_or s i 0 < 256) where
  ordinate_fits : (there little : Bool) (at : ℕ) → ordinate_if there little s at < 2 ^ 64
  unfolding ordinate_if
  ordinate_fits true little at = u64_fits s bytes little at
  ordinate_fits false little at = lit< tt

  coordinate_patterns : (h : WkbHeader) (at : ℕ) → Patterns (coordinate_at h s at)
  unfolding coordinate_at
  coordinate_patterns h at =
      record {
        x_fits = u64_fits s bytes h.little at;
        y_fits = u64_fits s bytes h.little (at + 8);
        z_fits = ordinate_fits h.z h.little (at + 16);
        m_fits = ordinate_fits h.m h.little (at + m_offset h.z);
      }

  coordinates_patterns : (h : WkbHeader) (n at : ℕ) → Each Patterns (coordinates_from h s n at)
  unfolding coordinates_from
  coordinates_patterns h zero at = tt
  coordinates_patterns h (suc n) at = (coordinate_patterns h at, coordinates_patterns h n (at + stride h))

  -- every ordinate of every coordinate that is read
  pub walk_patterns : (levels at : ℕ) (g : Geometry) (end : ℕ) → walk_of levels s at ≡ ok g end → Each (InRun Patterns) (runs_of g)
  walk_patterns levels at g end e = each_run s (InRun Patterns) (λ h n i k p l. coordinates_patterns h n i) levels at g end e

  -- and of every vertex
  pub vertex_patterns : (levels at : ℕ) (g : Geometry) (end : ℕ) → walk_of levels s at ≡ ok g end → Each Patterns (vertices_of (runs_of g))
  vertex_patterns levels at g end e = vertices_each Patterns (runs_of g) (walk_patterns levels at g end e)

-- Blobs that every measuring operation answers alike: what such an operation takes from a blob (document 01: "Trailing bytes, envelope doubles and the
-- empty flag change nothing but kind 17's patch"; document 02, 1/13: "distances and lines ignore M"). Definitions only.
use Rattle.std.specs.Prelude.{ℕ, ◌≡◌, List, Float}
use Rattle.refusals.specs.Checks.{first_of}
use Rattle.gpb.specs.Header.{geometry_start, srid_of, header_checks, header_checks_3d}
use Rattle.coords.specs.Walk.{Coordinate}
use Rattle.coords.specs.Parts.{map_runs}
use Rattle.coords.specs.Refusals.{walk_checks}
use Rattle.blob.specs.Blob.{runs_of_blob}
use Rattle.parts.specs.Points.{point_of}
use Rattle.operands.specs.Operands.{Workspaces}
use Rattle.outcomes.specs.Operations.{Outcome, max_distance, fully_within, longest_line, distance, within, intersects, closest_point, shortest_line}

-- the same refusals, Z test apart, SRID and points of runs, and so the same needs of lent memory
pub record MeasuredAlike (s t : List ℕ) : Type 0 where
  pub header : first_of (header_checks s) ≡ first_of (header_checks t)
  pub walk : first_of (walk_checks s (geometry_start s)) ≡ first_of (walk_checks t (geometry_start t))
  pub srid : srid_of s ≡ srid_of t
  pub points : map_runs point_of (runs_of_blob s) ≡ map_runs point_of (runs_of_blob t)

-- the same refusal of the header with the Z test, which operations on two blobs ask for: of headers that break nothing else, both pass it or both fail
abbrev pub SameZTest : List ℕ → List ℕ → Type 0
SameZTest s t = first_of (header_checks_3d s) ≡ first_of (header_checks_3d t)

-- two calls answer alike: the same report, the same output; nothing is said of the workspaces
pub record AnswersAlike (o p : Outcome) : Type 0 where
  pub report : o.report ≡ p.report
  pub output : o.output ≡ p.output

-- every measuring operation on two blobs answers a and b as it answers a' and b', where both calls name the same rule and are lent the same memory, whatever
-- these are
pub record PairsAnsweredAlike (a b a' b' : List ℕ) : Type 0 where
  pub max_distance : (w : Workspaces) → AnswersAlike (max_distance a b w) (max_distance a' b' w)
  pub fully_within : (d : Float) (w : Workspaces) → AnswersAlike (fully_within a b d w) (fully_within a' b' d w)
  pub longest_line : (w : Workspaces) (output : List ℕ) → AnswersAlike (longest_line a b w output) (longest_line a' b' w output)
  pub least_distance : (rule : ℕ) (w : Workspaces) → AnswersAlike (distance a b rule w) (distance a' b' rule w)
  pub is_within : (d : Float) (rule : ℕ) (w : Workspaces) → AnswersAlike (within a b d rule w) (within a' b' d rule w)
  pub intersection : (rule : ℕ) (w : Workspaces) → AnswersAlike (intersects a b rule w) (intersects a' b' rule w)
  pub closest_point : (rule : ℕ) (w : Workspaces) (output : List ℕ) → AnswersAlike (closest_point a b rule w output) (closest_point a' b' rule w output)
  pub shortest_line : (rule : ℕ) (w : Workspaces) (output : List ℕ) → AnswersAlike (shortest_line a b rule w output) (shortest_line a' b' rule w output)

-- x, y and z of a coordinate stay, its m becomes 0
unfoldable pub without_m : Coordinate → Coordinate
without_m c = record { x = c.x; y = c.y; z = c.z; m = 0 }

-- two blobs whose refusals, Z test apart, SRID, kinds, counts, x, y and z are the same: what is read of them differs in m at most, whatever their bytes (either
-- order, XYZ or XYZM, envelopes). The Z test does not follow: (3, 4, 0) is read from 80000000 + 2001, which passes it, and from 2001, which does not.
pub record SameButM (s t : List ℕ) : Type 0 where
  pub header : first_of (header_checks s) ≡ first_of (header_checks t)
  pub walk : first_of (walk_checks s (geometry_start s)) ≡ first_of (walk_checks t (geometry_start t))
  pub srid : srid_of s ≡ srid_of t
  pub runs : map_runs without_m (runs_of_blob s) ≡ map_runs without_m (runs_of_blob t)

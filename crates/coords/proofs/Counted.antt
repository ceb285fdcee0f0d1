-- What the answer of the checking pass says of the walk. Assumes nothing.
use mathlib.Core.Path.{◌≡◌, refl, ap}
use mathlib.Core.Bool.{true}
use lib.ListN.{length}
use Rattle.std.specs.Prelude.{Ok, Err}
use Rattle.refusals.specs.declared.Reason.{Reason}
use Rattle.coords.specs.Walk.{Geometry, Parsed, ok, refused, map_parsed}
use Rattle.coords.specs.Parts.{walked_runs, coordinate_count, other_count}
use Rattle.coords.specs.Refusals.{is_accepted}
use Rattle.coords.specs.Counts.{run_counts, counts_of}
use Rattle.coords.specs.declared.Counts.{Counts}

-- a refusal is the walk's
pub counted_refused : (w : Parsed Geometry) (k : Reason) → counts_of w ≡ Err k → w ≡ refused k
unfolding map_parsed run_counts
counted_refused (refused j) k p = let e : j ≡ k = cc in ap refused e
counted_refused (ok g end) k p = cc

-- otherwise the walk read a tree, whose runs were counted
pub record Counted (w : Parsed Geometry) (c : Counts) : Type 0 where
  pub tree : Geometry
  pub read : w ≡ ok tree c.end
  pub accepted : is_accepted w ≡ true
  pub coordinates : c.coords ≡ coordinate_count (walked_runs w)
  pub number : c.runs ≡ length (walked_runs w)
  pub other : c.others ≡ other_count (walked_runs w)

pub counted_accepted : (w : Parsed Geometry) (c : Counts) → counts_of w ≡ Ok c → Counted w c
unfolding map_parsed run_counts is_accepted walked_runs
counted_accepted (refused j) c p = cc
counted_accepted (ok g end) c p = record { tree = g; read = cc; accepted = refl; coordinates = cc; number = cc; other = cc }

-- One turn of a loop over the runs of a class: what the run adds, and what is left. Assumes nothing.
use mathlib.Core.Path.{◌≡◌}
use mathlib.Core.Bool.{true, false}
use mathlib.Core.List.{List, [], ◌∷◌}
use Prim.Native.Nat.{ℕ}
use lib.ListN.{length}
use Rattle.coords.specs.Parts.{Run, run}
use Rattle.parts.specs.declared.Class.{Class}
use Rattle.primitives.specs.declared.Point.{Point}
use Rattle.farthest.specs.Inner.{has_vertices, class_runs}

module _ (class : Class) (rs : List (Run Point)) where
  pub run_taken : (kind : ℕ) (ps : List Point) (left : List (Run Point)) → rs ≡ run kind ps ∷ left → has_vertices class kind (length ps) ≡ true → class_runs class rs ≡ ps ∷ class_runs class left
  unfolding class_runs
  run_taken kind ps left e t = rw (e, t)

  pub run_passed : (kind : ℕ) (ps : List Point) (left : List (Run Point)) → rs ≡ run kind ps ∷ left → has_vertices class kind (length ps) ≡ false → class_runs class rs ≡ class_runs class left
  unfolding class_runs
  run_passed kind ps left e t = rw (e, t)

  pub runs_passed : rs ≡ [] → class_runs class rs ≡ []
  unfolding class_runs
  runs_passed e = rw e

pub ruleset run_turns = (run_taken, run_passed, runs_passed)

-- Runs that are taken at once: those at the start for which a test of kind and number of points holds (document 01, Parts). Definitions only.
use Rattle.std.specs.Prelude.{ℕ, Bool, cond, ◌&&◌, leb, List, [], ◌∷◌, ◌++◌, length}
use Rattle.coords.specs.Parts.{Run, run}
use Rattle.parts.specs.declared.Class.{Class}
use Rattle.parts.specs.Classes.{is_of}

-- whether a run of that kind and with so many points is of the class, and has at least so many
unfoldable pub is_with : Class → ℕ → ℕ → ℕ → Bool
is_with class least kind count = is_of class kind && leb least count

module _ {A : Type 0} (test : ℕ → ℕ → Bool) where
  -- the points of the runs at the start for which the test holds
  unfoldable pub points_while : List (Run A) → List A
  points_while [] = []
  points_while (run kind ps ∷ rs) = cond (test kind (length ps)) (ps ++ points_while rs) []

  -- the runs from the first on for which it doesn't
  unfoldable pub runs_after : List (Run A) → List (Run A)
  runs_after [] = []
  runs_after (run kind ps ∷ rs) = cond (test kind (length ps)) (runs_after rs) (run kind ps ∷ rs)

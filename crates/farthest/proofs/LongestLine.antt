-- The third property of the farthest sweep (mission, third property), vertices skipped or not. Assumes nothing.
use mathlib.Core.Path.{◌≡◌}
use mathlib.Core.List.{List, map}
use Rattle.std.specs.Prelude.{Some, None}
use Rattle.primitives.specs.declared.Point.{Point}
use Rattle.extremes.specs.Extreme.{measured, distance_of, at_most, Holds}
use Rattle.extremes.proofs.Lists.{Each}
use Rattle.extremes.proofs.Senses.{longest}
use Rattle.extremes.proofs.FirstExtreme.{best_holds}
use Rattle.extremes.proofs.BoxOfAll.{IsBinary64}
use Rattle.extremes.specs.Farthest.{farthest_of}
use Rattle.farthest.proofs.Unskipped.{farthest_unskipped, farthest_unskipped_of}

-- of lists of points of binary64
pub longest_line : (ls rs : List Point) → Each IsBinary64 ls → Each IsBinary64 rs → Holds (distance_of (λ v. v)) at_most ls rs (farthest_of ls rs ≡ None) (λ p. farthest_of ls rs ≡ Some (measured (λ v. v) p))
longest_line ls rs f g = best_holds (λ v. v) longest ls rs (farthest_of ls rs) (farthest_unskipped ls rs f g)

-- of lists of vertices of any kind whose points are of binary64, as those read from bytes are
pub longest_line_of : {A : Type 0} (point : A → Point) → ((a : A) → IsBinary64 (point a)) → (ls rs : List A)
    → Holds (distance_of point) at_most ls rs (farthest_of (map point ls) (map point rs) ≡ None) (λ p. farthest_of (map point ls) (map point rs) ≡ Some (measured point p))
longest_line_of point f ls rs = best_holds point longest ls rs (farthest_of (map point ls) (map point rs)) (farthest_unskipped_of point f ls rs)

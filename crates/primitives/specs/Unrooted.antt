-- Two points with the sum of squares of their distance stand for a witness; the root is taken only where needed. Definitions only.
use Rattle.std.specs.Prelude.{◌≡◌, T}
use Rattle.std.specs.Float.{binary64}
use Rattle.std.specs.Float.Ieee.{fits}
use Rattle.ieee754.specs.Root.{root_of}
use Rattle.primitives.specs.declared.Witness.{Witness}
use Rattle.primitives.specs.Vectors.{squared_distance}
use Rattle.primitives.specs.Witnesses.{witness_of}
use Rattle.primitives.specs.declared.UnrootedWitness.{UnrootedWitness}

-- the witness whose distance is the root of the sum
unfoldable pub rooted_of : UnrootedWitness → Witness
rooted_of s = witness_of (root_of s.sum) s.a s.b

-- s stands for w: the same points with the sum of squares of their distance, a value of binary64, whose root is w's distance
pub record StandsFor (s : UnrootedWitness) (w : Witness) : Type 0 where
  pub same : rooted_of s ≡ w
  pub sum : s.sum ≡ squared_distance s.a s.b
  pub fitting : T (fits binary64 s.sum)

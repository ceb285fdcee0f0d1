-- The sum of squares of two points' distance is a value of binary64, and the same from either point. Assumes nothing.
use mathlib.Core.Path.{◌≡◌, refl, sym, ap, ◌∙◌}
use lib.Dec.{T}
use lib.Ieee.{Float, binary64, sub, mul, fits, of_bits}
use lib.Ieee.Bits.{of_bits-fits}
use Prim.Native.Nat.{ℕ}
use Rattle.ieee754.specs.Root.{root_of}
use Rattle.ieee754.proofs.Differences.{difference_either_way}
use Rattle.ieee754.proofs.RootLaws.{root_fits}
use Rattle.ieee754.proofs.SumsAndSquares.{square_of_absolute, sum_of_squares_fits}
use Rattle.primitives.specs.declared.Point.{Point}
use Rattle.primitives.specs.declared.UnrootedWitness.{UnrootedWitness}
use Rattle.primitives.specs.Unrooted.{rooted_of}
use Rattle.primitives.specs.Vectors.{difference_of, dot_of, squared_distance}
use Rattle.primitives.specs.Witnesses.{witness_of, between_of}

-- each ordinate of a point is a value of binary64 (`Float` has other values too)
pub record IsBinary64 (p : Point) : Type 0 where
  pub fit_x : T (fits binary64 p.x)
  pub fit_y : T (fits binary64 p.y)
  pub fit_z : T (fits binary64 p.z)

-- what patterns stand for is of binary64
pub patterns_binary64 : (x y z : ℕ) → IsBinary64 (record { x = of_bits binary64 x; y = of_bits binary64 y; z = of_bits binary64 z })
patterns_binary64 x y z = record { fit_x = of_bits-fits binary64 x; fit_y = of_bits-fits binary64 y; fit_z = of_bits-fits binary64 z }

-- ---- the sum of squares and its root
pub squares_fit : (a b : Point) → T (fits binary64 (squared_distance a b))
unfolding squared_distance dot_of
squares_fit a b = sum_of_squares_fits (difference_of a b).x (difference_of a b).y (difference_of a b).z

pub distance_is_root : (a b : Point) → (between_of a b).d ≡ root_of (squared_distance a b)
unfolding between_of witness_of
distance_is_root a b = refl

pub distance_fits : (a b : Point) → T (fits binary64 (between_of a b).d)
distance_fits a b = rw (distance_is_root a b) (root_fits (squared_distance a b) (squares_fit a b))

-- ---- from either point
square_either_way : (x y : Float) → T (fits binary64 x) → T (fits binary64 y) → mul binary64 (sub binary64 x y) (sub binary64 x y) ≡ mul binary64 (sub binary64 y x) (sub binary64 y x)
square_either_way x y f g =
    square_of_absolute (sub binary64 x y)
    ∙ ap (λ (z : Float). mul binary64 z z) (difference_either_way x y f g)
    ∙ sym (square_of_absolute (sub binary64 y x))

pub squares_either_way : (a b : Point) → IsBinary64 a → IsBinary64 b → squared_distance a b ≡ squared_distance b a
unfolding squared_distance dot_of difference_of
squares_either_way a b f g = rw (square_either_way a.x b.x f.fit_x g.fit_x, square_either_way a.y b.y f.fit_y g.fit_y, square_either_way a.z b.z f.fit_z g.fit_z)

-- ---- a witness whose root is not taken
pub rooted_distance : (s : UnrootedWitness) → (rooted_of s).d ≡ root_of s.sum
unfolding rooted_of witness_of
rooted_distance s = refl

-- The computed distance of two points, and where it is no NaN. Assumes nothing.
use mathlib.Core.Bool.{not}
use lib.Dec.{T}
use lib.Ieee.{Float, binary64, sub, is_nan}
use lib.Ieee.Fits.{sub-fits}
use Rattle.ieee754.proofs.Differences.{difference_number}
use Rattle.ieee754.proofs.RootLaws.{root_number}
use Rattle.ieee754.proofs.SignClear.{sign_clear}
use Rattle.ieee754.proofs.SumsAndSquares.{sum_of_squares_numbers, sum_of_squares_sign_clear}
use Rattle.primitives.specs.declared.Point.{Point}
use Rattle.primitives.specs.Vectors.{difference_of, dot_of, squared_distance}
use Rattle.primitives.specs.Witnesses.{between_of}
use Rattle.extremes.specs.Pairs.{Pair}
use Rattle.extremes.specs.Extreme.{HasDistance, distance_of}
-- the sum of squares and its root
pub use Rattle.primitives.proofs.Squares.{squares_fit, distance_is_root, distance_fits}

abbrev pub IsNumber : Float → Type 0
IsNumber x = T (not (is_nan x))

-- no ordinate of a point is NaN
pub record NoNan (p : Point) : Type 0 where
  pub on_x : IsNumber p.x
  pub on_y : IsNumber p.y
  pub on_z : IsNumber p.z

-- ---- where the distance is no NaN
module _ (a b : Point) (n : IsNumber (between_of a b).d) where
  differences : IsNumber (sub binary64 a.x b.x) × IsNumber (sub binary64 a.y b.y) × IsNumber (sub binary64 a.z b.z)
  unfolding squared_distance dot_of difference_of
  differences = sum_of_squares_numbers (sub binary64 a.x b.x) (sub binary64 a.y b.y) (sub binary64 a.z b.z) (root_number (squared_distance a b) (rw (distance_is_root a b) at n))

  pub squares_sign_clear : T (sign_clear (squared_distance a b))
  unfolding squared_distance dot_of difference_of
  squares_sign_clear =
      sum_of_squares_sign_clear (sub binary64 a.x b.x) (sub binary64 a.y b.y) (sub binary64 a.z b.z) (sub-fits binary64 a.x b.x) (sub-fits binary64 a.y b.y) (sub-fits binary64 a.z b.z) differences.0 differences.1 differences.2

  pub points_no_nan : NoNan a × NoNan b
  points_no_nan =
      let x = difference_number a.x b.x differences.0 in
      let y = difference_number a.y b.y differences.1 in
      let z = difference_number a.z b.z differences.2 in
      (record { on_x = x.0; on_y = y.0; on_z = z.0 }, record { on_x = x.1; on_y = y.1; on_z = z.1 })

-- a pair that counts has no NaN among its six ordinates
pub counts_no_nan : {A : Type 0} (point : A → Point) (p : Pair A) → HasDistance (distance_of point) p → NoNan (point p.left) × NoNan (point p.right)
counts_no_nan point p c = points_no_nan (point p.left) (point p.right) c

-- The floats that are written in the code. Assumes nothing.
use mathlib.Core.Path.{◌≡◌, refl}
use lib.Ieee.{binary64, of_bits}
use Rattle.ieee754.specs.MinMax.{positive_zero, one}
use Rattle.measures.specs.Measures.{epsilon}

pub zero : of_bits binary64 0 ≡ positive_zero
unfolding of_bits
zero = refl

pub one_is : of_bits binary64 4607182418800017408 ≡ one
unfolding of_bits
one_is = refl

pub epsilon_is : of_bits binary64 4372995238176751616 ≡ epsilon
unfolding of_bits
epsilon_is = refl

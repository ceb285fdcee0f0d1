-- The order of sums of squares that a sense goes by in place of the order of their roots, and that it is so in either sense. Definitions, and the law of each.
use Rattle.std.specs.Prelude.{◌≡◌, Bool, true, false, T, Float}
use Rattle.std.specs.Float.{nan, binary64}
use Rattle.std.specs.Float.Ieee.{eq, fits}
use mathlib.Core.Path.{sym, subst}
use Rattle.ieee754.specs.Root.{root_of}
use Rattle.ieee754.proofs.FloatOrder.{nan_le, le_nan}
use Rattle.ieee754.proofs.RootLaws.{le→roots_not_lt}
use Rattle.primitives.proofs.EqualRoots.{equal_roots, equal_either_way}
use Rattle.extremes.specs.Extreme.{at_most, at_least}
use Rattle.extremes.specs.Sweeps.{longer, shorter}

-- the order of sums is that of their roots, and NaN stands in no order; roots of sums out of order that compare equal are the same float
pub record RootSense (order beats : Float → Float → Bool) : Type 0 where
  pub no_nan : (s : Float) → order s nan ≡ true → ⊥
  pub roots : (s t : Float) → T (fits binary64 s) → T (fits binary64 t) → order s t ≡ true → beats (root_of t) (root_of s) ≡ false
  pub equal : (s t : Float) → T (fits binary64 s) → T (fits binary64 t) → order s t ≡ false → eq (root_of s) (root_of t) ≡ true → root_of s ≡ root_of t

pub longest_roots : RootSense at_most longer
longest_roots =
    record {
      no_nan = λ s l. le_nan s (subst T (sym l) tt);
      roots = λ s t f g l. le→roots_not_lt s t f g (subst T (sym l) tt);
      equal = λ s t f g l e. equal_roots s t f g l e;
    }

pub shortest_roots : RootSense at_least shorter
shortest_roots =
    record {
      no_nan = λ s l. nan_le s (subst T (sym l) tt);
      roots = λ s t f g l. le→roots_not_lt t s g f (subst T (sym l) tt);
      equal = λ s t f g l e. sym (equal_roots t s g f l (equal_either_way (root_of s) (root_of t) e));
    }

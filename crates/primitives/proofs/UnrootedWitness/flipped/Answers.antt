-- `primitives::UnrootedWitness::flipped` meets its contract: a sum of squares is the same from either point. Assumes nothing.
use mathlib.Core.Path.{◌≡◌, refl, sym, ap, subst, ◌∙◌}
use mathlib.Core.Bool.{true}
use lib.Dec.{T}
use lib.Ieee.{binary64, fits}
use Rattle.primitives.specs.declared.Point.{Point}
use Rattle.primitives.specs.Witnesses.{flipped_of, witness_of}
use Rattle.primitives.specs.Unrooted.{rooted_of}
use Rattle.primitives.proofs.Squares.{IsBinary64, squares_either_way}
use Rattle.primitives.proofs.UnrootedWitness.flipped.Goals as goal

binary64_by : (p : Point) → fits binary64 p.x ≡ true → fits binary64 p.y ≡ true → fits binary64 p.z ≡ true → IsBinary64 p
binary64_by p x y z = record { fit_x = subst T (sym x) tt; fit_y = subst T (sym y) tt; fit_z = subst T (sym z) tt }

pub returns-clause-rooted : goal.returns-clause-rooted
unfolding rooted_of flipped_of witness_of
returns-clause-rooted c = rw c.flipped-d.ensures refl

pub returns-clause-stands : goal.returns-clause-stands
unfolding rooted_of flipped_of witness_of
returns-clause-stands c w k = let s = c.args.self in
    let a = c.well_formed.0.1.1.1.0.1.1 in
    let b = c.well_formed.0.1.1.1.1.0.1.1 in
    rw c.flipped-d.ensures (record {
      same = ap flipped_of k.same;
      sum = k.sum ∙ squares_either_way s.a s.b (binary64_by s.a a.0.1 a.1.0.1 a.1.1.0.1) (binary64_by s.b b.0.1 b.1.0.1 b.1.1.0.1);
      fitting = k.fitting;
    })

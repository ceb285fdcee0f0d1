-- The first of two rows of crossings: the first row's where it has one, else the second's. Assumes nothing.
use mathlib.Core.Path.{◌≡◌, refl, sym}
use mathlib.Core.Bool.{Bool, true, false, cond, ◌&&◌}
use lib.Ieee.{Float}
use mathlib.Core.List.{List, [], ◌∷◌, ◌++◌, cons-ne-nil}
use Rattle.std.specs.Prelude.{None, Some, MatchOption}
use Rattle.std.specs.declared.option.Option.{Option}
use Rattle.primitives.specs.declared.Point.{Point}
use Rattle.primitives.specs.declared.Witness.{Witness}
use Rattle.primitives.specs.Witnesses.{between_of}
use Rattle.measures.specs.declared.Triangle.{Triangle}
use Rattle.measures.specs.Measures.{normal_of}
use Rattle.crossings.specs.Crossings.{side_of, opposite_sides, crossing_point, counts_as_crossing, crosses, crossing}
use Rattle.crossings.specs.InnerCrossings.{crossing_by, offered_by, first_only}

-- a crossing is its own first
pub single_first : (r : Option Point) → first_only (offered_by r) ≡ offered_by r
unfolding offered_by first_only
single_first (Some x) = refl
single_first None = refl

-- r is the first of l; q is r where r is one, and else, as P says, the first of m
pub first_of_two : (r q : Option Point) (l m : List Witness) {P : Type 0} → offered_by r ≡ first_only l → MatchOption r P (λ x. q ≡ Some x) → (P → offered_by q ≡ first_only m) → offered_by q ≡ first_only (l ++ m)
unfolding offered_by first_only
first_of_two None q [] m given other says = says other
first_of_two None q (w ∷ ws) m given other says = absurd (cons-ne-nil _ _ (sym given))
first_of_two (Some x) q [] m given other says = absurd (cons-ne-nil _ _ given)
first_of_two (Some x) q (w ∷ ws) m given other says = rw other given

-- the crossing by sides and normal is a segment's with a triangle
pub crossing_given : (s e : Point) (t : Triangle) (start end : Float) (n : Point) → n ≡ normal_of t → start ≡ side_of s t.a n → end ≡ side_of e t.a n → offered_by (crossing_by s e start end t n) ≡ crossing s e t
unfolding crossing crosses crossing_by crossing_point offered_by
crossing_given s e t start end m f g h = rw (g, h, f) (go (opposite_sides (side_of s t.a n) (side_of e t.a n) && counts_as_crossing t n x))
  where
    n : Point
    n = normal_of t

    x : Point
    x = crossing_point s e t.a n

    go : (b : Bool) → offered_by (cond b (Some x) None) ≡ cond b (between_of x x ∷ []) []
    go true = refl
    go false = refl

-- a crossing that there is comes first, and none leaves the others
pub found_first : {r : Option Point} {cs : List Witness} (x : Point) (ds : List Witness) → offered_by r ≡ cs → r ≡ Some x → offered_by (Some x) ≡ first_only (cs ++ ds)
unfolding offered_by first_only
found_first x ds given e = rw (← given, e)

pub none_passed : {r : Option Point} {cs : List Witness} (ds : List Witness) → offered_by r ≡ cs → r ≡ None → cs ++ ds ≡ ds
unfolding offered_by
none_passed ds given e = rw (← given, e)

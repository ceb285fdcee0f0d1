-- Witnesses offered to the best so far, and those that two triangles share with the pair before them. Serves inner contracts. Definitions only.
use Rattle.std.specs.Prelude.{◌≡◌, Bool, true, cond}
use mathlib.Core.List.{List, [], ◌∷◌, foldl}
use Rattle.std.specs.declared.option.Option.{Option}
use Rattle.primitives.specs.declared.Point.{Point}
use Rattle.primitives.specs.declared.Witness.{Witness}
use Rattle.primitives.specs.Witnesses.{flipped_of}
use Rattle.extremes.specs.Sweeps.{shorter, taking}
use Rattle.measures.specs.declared.Triangle.{Triangle}
use Rattle.measures.specs.declared.Follows.{Follows}
use Rattle.measures.specs.Measures.{segment_segment, point_triangle}

-- witnesses offered in order: the first is taken, a later one only if strictly closer
abbrev pub offered_all : Option Witness → List Witness → Option Witness
offered_all best ws = foldl (taking shorter) best ws

-- each of the witnesses, offered, changes nothing
unfoldable pub AllSettled : Option Witness → List Witness → Type 0
AllSettled best [] = Unit {0}
AllSettled best (w ∷ ws) = (taking shorter best w ≡ best) × AllSettled best ws

-- the points exchanged where that is asked for
abbrev pub flipped_if : Bool → Witness → Witness
flipped_if flip w = cond flip (flipped_of w) w

-- a segment with the edges of a triangle
abbrev pub edge_witnesses : Point → Point → Triangle → List Witness
edge_witnesses p q t = segment_segment p q t.a t.b ∷ segment_segment p q t.b t.c ∷ segment_segment p q t.c t.a ∷ []

-- the first two vertices of a triangle with another triangle
abbrev pub first_two : Bool → Triangle → Triangle → List Witness
first_two flip t u = flipped_if flip (point_triangle t.a u) ∷ flipped_if flip (point_triangle t.b u) ∷ []

-- all three
abbrev pub vertex_witnesses : Bool → Triangle → Triangle → List Witness
vertex_witnesses flip t u = flipped_if flip (point_triangle t.a u) ∷ flipped_if flip (point_triangle t.b u) ∷ flipped_if flip (point_triangle t.c u) ∷ []

-- what two triangles of one fan have both, with the triangle u: the fan's first vertex a, their common vertex b, and the edge b a
abbrev pub shared_by_first : Point → Point → Triangle → List Witness
shared_by_first a b u = point_triangle a u ∷ point_triangle b u ∷ edge_witnesses b a u

-- the same of a fan of the second side, its first vertex d and the common vertex e, with the triangle t
abbrev pub shared_by_second : Triangle → Point → Point → List Witness
shared_by_second t d e =
    flipped_of (point_triangle d t)
    ∷ flipped_of (point_triangle e t)
    ∷ segment_segment t.a t.b e d
    ∷ segment_segment t.b t.c e d
    ∷ segment_segment t.c t.a e d
    ∷ []

-- at that best, what t, or u, shares with the triangle before it changes nothing, where it follows a measured one
pub record Spared (t u : Triangle) (follows : Follows) (best : Option Witness) : Type 0 where
  pub first : follows.first ≡ true → AllSettled best (shared_by_first t.a t.b u)
  pub second : follows.second ≡ true → AllSettled best (shared_by_second t u.a u.b)

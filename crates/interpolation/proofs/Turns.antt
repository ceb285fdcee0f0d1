-- One turn of a loop over the segments of a line, or over the runs of a workspace: what the turn adds, and what is left. Assumes nothing.
use mathlib.Core.Path.{◌≡◌, refl}
use mathlib.Core.Bool.{true, false}
use mathlib.Core.List.{List, [], ◌∷◌, ◌++◌, foldl, foldl-append}
use Prim.Native.Nat.{ℕ}
use lib.Ieee.{Float, binary64, add, le}
use Rattle.std.specs.Prelude.{Option, None, Some}
use Rattle.ieee754.specs.MinMax.{positive_zero}
use Rattle.coords.specs.Parts.{Run, run, segments_by, of_kind}
use Rattle.parts.specs.declared.Class.TheVariants.{Lines}
use Rattle.parts.specs.Classes.{is_of}
use Rattle.parts.specs.Slices.{segments_in}
use Rattle.primitives.specs.declared.Point.{Point}
use Rattle.interpolation.specs.Interpolation.{Segment, segment, length_of, with_length, segments_of_line, segments_of}
use Rattle.interpolation.specs.declared.Measured.{Measured}
use Rattle.interpolation.specs.declared.Stop.{Stop}
use Rattle.interpolation.specs.Inner.{measuring, stop_at, stop_from, stop_of}

-- ---- segments by their two points

abbrev pub of_points : Point × Point → Segment Point
of_points p = segment p.0 p.1

-- the segments by those that an iterator yields
unfoldable pub as_segments : List (Point × Point) → List (Segment Point)
as_segments [] = []
as_segments (p ∷ ps) = of_points p ∷ as_segments ps

as_segments_of_line : (ps : List Point) → as_segments (segments_in ps) ≡ segments_of_line ps
unfolding as_segments segments_by
as_segments_of_line [] = refl
as_segments_of_line (a ∷ []) = refl
as_segments_of_line (a ∷ b ∷ ps) = rw (as_segments_of_line (b ∷ ps))

-- ---- the runs

module _ (rs : List (Run Point)) (kind : ℕ) (ps : List Point) (left : List (Run Point)) (e : rs ≡ run kind ps ∷ left) where
  line_next : is_of Lines kind ≡ true → segments_of rs ≡ as_segments (segments_in ps) ++ segments_of left
  unfolding of_kind is_of
  line_next t = rw (e, as_segments_of_line ps, t)

  other_next : is_of Lines kind ≡ false → segments_of rs ≡ segments_of left
  unfolding of_kind is_of
  other_next t = rw (e, t)

no_run : (rs : List (Run Point)) → rs ≡ [] → segments_of rs ≡ []
unfolding of_kind
no_run rs e = rw e

-- ---- the first pass

module _ (m : Option Measured) where
  pub measured_line : (rs : List (Run Point)) (kind : ℕ) (ps : List Point) (left : List (Run Point)) → rs ≡ run kind ps ∷ left → is_of Lines kind ≡ true
      → foldl measuring m (segments_of rs) ≡ foldl measuring (foldl measuring m (as_segments (segments_in ps))) (segments_of left)
  measured_line rs kind ps left e t = rw (line_next rs kind ps left e t) (foldl-append measuring m (as_segments (segments_in ps)) (segments_of left))

  pub measured_other : (rs : List (Run Point)) (kind : ℕ) (ps : List Point) (left : List (Run Point)) → rs ≡ run kind ps ∷ left → is_of Lines kind ≡ false
      → foldl measuring m (segments_of rs) ≡ foldl measuring m (segments_of left)
  measured_other rs kind ps left e t = rw (other_next rs kind ps left e t)

  pub measured_end : (rs : List (Run Point)) → rs ≡ [] → foldl measuring m (segments_of rs) ≡ m
  measured_end rs e = rw (no_run rs e)

  pub measured_next : (gs : List (Point × Point)) (a b : Point) (left : List (Point × Point)) → gs ≡ (a, b) ∷ left → foldl measuring m (as_segments gs) ≡ foldl measuring (measuring m (segment a b)) (as_segments left)
  unfolding as_segments
  measured_next gs a b left e = rw e

  pub measured_last : (gs : List (Point × Point)) → gs ≡ [] → foldl measuring m (as_segments gs) ≡ m
  unfolding as_segments
  measured_last gs e = rw e

-- ---- the second pass

pub stop_all : (target : Float) (gs : List (Segment Point)) → stop_of target gs ≡ stop_from target positive_zero None gs
unfolding stop_of
stop_all target gs = refl

module _ (target walked : Float) (last : Option Stop) where
  pub stop_line : (rs : List (Run Point)) (kind : ℕ) (ps : List Point) (left : List (Run Point)) → rs ≡ run kind ps ∷ left → is_of Lines kind ≡ true
      → stop_from target walked last (segments_of rs) ≡ stop_from target walked last (as_segments (segments_in ps) ++ segments_of left)
  stop_line rs kind ps left e t = rw (line_next rs kind ps left e t)

  pub stop_other : (rs : List (Run Point)) (kind : ℕ) (ps : List Point) (left : List (Run Point)) → rs ≡ run kind ps ∷ left → is_of Lines kind ≡ false
      → stop_from target walked last (segments_of rs) ≡ stop_from target walked last (segments_of left)
  stop_other rs kind ps left e t = rw (other_next rs kind ps left e t)

  pub stop_end : (rs : List (Run Point)) → rs ≡ [] → stop_from target walked last (segments_of rs) ≡ last
  unfolding stop_from
  stop_end rs e = rw (no_run rs e)

  module _ (gs : List (Point × Point)) (a b : Point) (left : List (Point × Point)) (more : List (Segment Point)) where
    pub stop_here : gs ≡ (a, b) ∷ left → (n : Float) → n ≡ length_of (segment a b) → le target (add binary64 walked n) ≡ true → stop_from target walked last (as_segments gs ++ more) ≡ Some (stop_at walked (segment a b))
    unfolding as_segments stop_from with_length
    stop_here e n f t = rw (e, ← f, t)

    pub stop_later : gs ≡ (a, b) ∷ left → le target (with_length walked (segment a b)) ≡ false → stop_from target walked last (as_segments gs ++ more) ≡ stop_from target (with_length walked (segment a b)) (Some (stop_at walked (segment a b))) (as_segments left ++ more)
    unfolding as_segments stop_from
    stop_later e t = rw (e, t)

  pub stop_last : (gs : List (Point × Point)) (more : List (Segment Point)) → gs ≡ [] → stop_from target walked last (as_segments gs ++ more) ≡ stop_from target walked last more
  unfolding as_segments
  stop_last gs more e = rw e

-- what the loops over the segments need: each turn of the outer and of the inner loop, and the end of both
pub ruleset measures = (measured_line, measured_other, measured_end, measured_next, measured_last)

pub ruleset stops = (stop_line, stop_other, stop_end, stop_here, stop_later, stop_last, stop_all)

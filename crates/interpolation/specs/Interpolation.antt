-- The point at a fraction of a line's length (document 01, Interpolation), each IEEE 754 operation rounded once, in the Rust's order. Definitions only.
use Rattle.std.specs.Prelude.{cond, Float, Option, None, Some}
use mathlib.Core.List.{List, [], ◌∷◌, foldl}
use Rattle.std.specs.Float.{binary64}
use Rattle.std.specs.Float.Ieee.{add, sub, mul, div, eq, le}
use Rattle.ieee754.specs.MinMax.{positive_zero, clamp_of}
use Rattle.coords.specs.Parts.{Run, is_line, segments_by, of_kind}
use Rattle.primitives.specs.declared.Point.{Point}
use Rattle.primitives.specs.Vectors.{difference_of, norm_of, interpolated_of}

-- ---- segments (document 01, Parts)

pub record Segment (A : Type 0) : Type 0 where
  pub start : A
  pub end : A

abbrev pub segment : {A : Type 0} → A → A → Segment A
segment a b = record { start = a; end = b }

-- the segments of a line
abbrev pub segments_of_line : {A : Type 0} → List A → List (Segment A)
segments_of_line cs = segments_by segment cs

-- the segments of the line runs, in walk order
abbrev pub segments_of : {A : Type 0} → List (Run A) → List (Segment A)
segments_of rs = of_kind is_line segments_of_line rs

-- ---- lengths

-- the length of end - start (Rust: norm(sub(b, a)))
unfoldable pub length_of : Segment Point → Float
length_of g = norm_of (difference_of g.end g.start)

-- one more length
unfoldable pub with_length : Float → Segment Point → Float
with_length sum g = add binary64 sum (length_of g)

-- the segments' lengths added in order
unfoldable pub total_of : List (Segment Point) → Float
total_of gs = foldl with_length positive_zero gs

-- ---- the point

-- t: (fraction × total - walked) / length, clamped, or 0 where the length is 0
unfoldable pub parameter_of : Float → Float → Float
parameter_of rest whole = cond (eq whole positive_zero) positive_zero (clamp_of (div binary64 rest whole))

-- start + t × (end - start) per axis; `walked` is what was walked before the segment, `target` is fraction × total
unfoldable pub point_on : Float → Float → Segment Point → Point
point_on target walked g = interpolated_of g.start g.end (parameter_of (sub binary64 target walked) (length_of g))

-- on the first segment, from g on, where walked + length ≥ target, or on the last by position
unfoldable pub point_from : Float → Float → Segment Point → List (Segment Point) → Point
point_from target walked g [] = point_on target walked g
point_from target walked g (h ∷ gs) = cond (le target (with_length walked g)) (point_on target walked g) (point_from target (with_length walked g) h gs)

-- total length 0 gives the first segment's start
unfoldable pub point_along : Float → Float → Segment Point → List (Segment Point) → Point
point_along fraction total g gs = cond (eq total positive_zero) g.start (point_from (mul binary64 fraction total) positive_zero g gs)

-- the point at a fraction of the segments' total length; none where there is no segment
unfoldable pub interpolated_point : Float → List (Segment Point) → Option Point
interpolated_point fraction [] = None
interpolated_point fraction (g ∷ gs) = Some (point_along fraction (total_of (g ∷ gs)) g gs)

-- What the farthest and the closest sweep share (document 01, Farthest sweep, Closest sweep). Definitions only.
use Rattle.std.specs.Prelude.{Bool, false, cond, ◌+◌, ◌-◌, ◌^◌, negsuc, Float, Some, None}
use mathlib.Core.List.{List, [], ◌∷◌, foldl}
use Rattle.std.specs.declared.option.Option.{Option}
use Rattle.std.specs.Float.{fin}
use Rattle.primitives.specs.declared.Point.{Point}
use Rattle.primitives.specs.declared.Witness.{Witness}
use Rattle.primitives.specs.declared.Aabb.{Aabb}
use Rattle.primitives.specs.Boxes.{box_of_point, add_point}
use Rattle.primitives.specs.Witnesses.{better_of}
-- the senses of the two sweeps
pub use Rattle.primitives.specs.Witnesses.{longer, shorter}

-- both sweeps: each element in order, unless it is skipped
unfoldable pub skipping : {S X : Type 0} → (S → X → Bool) → (S → X → S) → S → List X → S
skipping skip step s [] = s
skipping skip step s (x ∷ l) = skipping skip step (cond (skip s x) s (step s x)) l

-- both sweeps: the first witness is taken, a later one only if it beats the best
unfoldable pub taking : (Float → Float → Bool) → Option Witness → Witness → Option Witness
taking beats None w = Some w
taking beats (Some best) w = Some (better_of beats best w)

-- "the box of all b" of the farthest sweep: a list's points added in order; none if there is no point
unfoldable pub box_of_all : List Point → Option Aabb
box_of_all [] = None
box_of_all (p ∷ l) = Some (foldl add_point (box_of_point p) l)

-- document 01, Farthest sweep: 1 + 2^-49
abbrev pub one_plus_slack : Float
one_plus_slack = fin false (2 ^ 49 + 1) (negsuc 48)

-- document 01, Closest sweep: 1 - 2^-49
abbrev pub one_minus_slack : Float
one_minus_slack = fin false (2 ^ 49 - 1) (negsuc 48)

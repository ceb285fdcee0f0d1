-- The closest sweep with its skip, over any kind of item, its box and its candidates (document 01, Closest sweep; Rust: closest_inner). Definitions only.
use Rattle.std.specs.Prelude.{Bool, false, Float, Some, None}
use mathlib.Core.List.{List, foldl}
use Rattle.std.specs.declared.option.Option.{Option}
use Rattle.std.specs.Float.{binary64}
use Rattle.std.specs.Float.Ieee.{mul, le}
use Rattle.primitives.specs.declared.Witness.{Witness}
use Rattle.primitives.specs.declared.Aabb.{Aabb}
use Rattle.primitives.specs.Boxes.{squared, least_squared_gap}
use Rattle.extremes.specs.Sweeps.{skipping, shorter, taking, one_minus_slack}

-- the skip: best exists and least squared gap times (1 - 2^-49) is at least best squared
unfoldable pub no_closer : Option Witness → Float → Bool
no_closer None gap = false
no_closer (Some best) gap = le (squared best.d) (mul binary64 gap one_minus_slack)

-- the candidates of two items in order: the first is taken, a later one only if strictly closer
abbrev pub offering : {I : Type 0} → (I → I → List Witness) → I → Option Witness → I → Option Witness
offering candidates a best b = foldl (taking shorter) best (candidates a b)

-- an item of A with each item of B in order, unless it is skipped
abbrev pub with_each_by : {I : Type 0} → (I → Aabb) → (I → Option Witness → I → Option Witness) → I → Option Witness → List I → Option Witness
with_each_by box offer a best rs = skipping (λ s b. no_closer s (least_squared_gap (box a) (box b))) (offer a) best rs

-- each item of A in order, unless it is skipped against the box of all of B
abbrev pub sweep_by : {I : Type 0} → (I → Aabb) → (I → Option Witness → List I → Option Witness) → Aabb → List I → Option Witness → List I → Option Witness
sweep_by box each all rs best ls = skipping (λ s a. no_closer s (least_squared_gap (box a) all)) (λ s a. each a s rs) best ls

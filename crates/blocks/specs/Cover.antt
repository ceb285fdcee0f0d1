-- A box that covers others, so that a whole block of items is passed over at once. Serves inner contracts. Definitions only.
use Rattle.std.specs.Prelude.{true, false, cond, Float}
use mathlib.Core.List.{List, foldl}
use Rattle.std.specs.Float.{inf}
use Rattle.std.specs.Float.Ieee.{lt, le}
use Rattle.primitives.specs.declared.Aabb.{Aabb}
use Rattle.items.specs.declared.Item.{Item}
use Rattle.items.specs.Items.{box_of_item}

-- the lower of two ends; -infinity if one of them is NaN
abbrev pub lower_of : Float → Float → Float
lower_of k m = cond (le k m) k (cond (lt m k) m (inf true))

-- the upper of two ends; +infinity if one of them is NaN
abbrev pub upper_of : Float → Float → Float
upper_of k m = cond (le m k) k (cond (lt k m) m (inf false))

-- what covers m, and all that k covers
unfoldable pub cover_of : Aabb → Aabb → Aabb
cover_of k m =
    record {
      lo = record { x = lower_of k.lo.x m.lo.x; y = lower_of k.lo.y m.lo.y; z = lower_of k.lo.z m.lo.z };
      hi = record { x = upper_of k.hi.x m.hi.x; y = upper_of k.hi.y m.hi.y; z = upper_of k.hi.z m.hi.z };
    }

-- a start, with no box under it
unfoldable pub empty_cover : Aabb
empty_cover = record { lo = record { x = inf false; y = inf false; z = inf false }; hi = record { x = inf true; y = inf true; z = inf true } }

-- a cover with one more item under it
unfoldable pub cover_item : Aabb → Item → Aabb
cover_item k i = cover_of k (box_of_item i)

-- a cover of all items of a block
unfoldable pub cover_of_items : List Item → Aabb
cover_of_items is = foldl cover_item empty_cover is

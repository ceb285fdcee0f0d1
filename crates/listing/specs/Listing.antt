-- The items of a side, listed: how many, the box of all, and of few items each one with its box. Serves inner contracts. Definitions only.
use Rattle.std.specs.Prelude.{ℕ, ◌≤◌, ◌≡◌, List, length, take, map}
use Rattle.items.specs.declared.Item.{Item}
use Rattle.items.specs.declared.boxed.Boxed.{Boxed}
use Rattle.items.specs.Items.{box_of_items}
use Rattle.listing.specs.declared.Listing.{Listing}

-- at most so many items are listed each with its box
abbrev pub most_listed : ℕ
most_listed = 16

-- a listing of the items: their number, the box of all, and of few items a row of each, in order
pub record Lists (list : Listing) (is : List Item) (rows : List Boxed) : Type 0 where
  pub count : list.count ≡ length is
  pub box : list.all ≡ box_of_items is
  pub few : list.count ≤ most_listed → map (λ row. row.item) (take list.count rows) ≡ is

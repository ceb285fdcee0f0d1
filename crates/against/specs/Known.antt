-- Which candidates of a listed item of B are settled. Serves inner contracts. Definitions only.
use Rattle.std.specs.Prelude.{ℕ, ◌<◌, ◌≡◌, Bool, true, false, cond, List, length, get_or, IfSome}
use Rattle.std.specs.declared.option.Option.{Option}
use Rattle.primitives.specs.declared.Witness.{Witness}
use Rattle.primitives.specs.Boxes.{least_squared_gap}
use Rattle.extremes.specs.ClosestSweep.{no_closer}
use Rattle.measures.specs.InnerOffers.{AllSettled}
use Rattle.items.specs.declared.Item.{Item}
use Rattle.items.specs.declared.boxed.Boxed.{Boxed}
use Rattle.items.specs.Items.{box_of_item}
use Rattle.items.specs.Closest.{with_item}
use Rattle.items.specs.InnerRepeats.{first_after}
use Rattle.against.specs.declared.Before.{Before}

-- the best after item a of A has met item b of B
abbrev pub met : Item → Option Witness → Item → Option Witness
met a best b = cond (no_closer best (least_squared_gap (box_of_item a) (box_of_item b))) best (with_item a best b)

-- where it is known of a row's item, the witnesses that f gives of it are settled
abbrev pub Known : (Item → List Witness) → Option Witness → List Bool → List Boxed → Type 0
Known f best known rows = (k : ℕ) (d : Boxed) → k < length rows → get_or known k false ≡ true → AllSettled best (f (get_or rows k d).item)

-- of the rows that the item before was measured with, what it leaves to the next of its run is settled
abbrev pub Left : Option Witness → Before → List Boxed → Type 0
Left best before rows = IfSome before.item (λ i. Known (first_after i) best before.met rows)

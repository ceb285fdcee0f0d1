-- A listing of no item, and of one item more. Assumes nothing.
use mathlib.Core.Path.{◌≡◌, refl, sym}
use mathlib.Core.List.{List, [], ◌∷◌, ◌++◌, foldl-append}
use Prim.Native.Nat.{◌+◌, ◌<◌, ◌≤◌}
use native.Mathlib.Omega.{arith}
use lib.ListN.{length, set, length-append}
use Rattle.std.specs.Prelude.{Some, None}
use Rattle.std.specs.declared.option.Option.{Option}
use Rattle.std.proofs.lemmas.List.{map-append, take_more_set}
use Rattle.primitives.specs.declared.Aabb.{Aabb}
use Rattle.items.specs.declared.Item.{Item}
use Rattle.items.specs.declared.boxed.Boxed.{Boxed}
use Rattle.items.specs.Items.{unite_item, box_of_items}
use Rattle.listing.specs.declared.Listing.{Listing}
use Rattle.listing.specs.Listing.{most_listed, Lists}
use Rattle.listing.specs.Inner.{union_with}

pub lists_none : (rows : List Boxed) → Lists (record { count = 0; all = None }) [] rows
unfolding box_of_items
lists_none rows = record { count = refl; box = refl; few = λ h. refl }

united : (all : Option Aabb) (row : Boxed) → Some (union_with all row.bounds) ≡ unite_item all row.item
unfolding unite_item
united (Some all) row = rw row.boxed
united None row = rw row.boxed

-- by what the code has after a turn: `all` with one box more, and the row stored
pub lists_more : (list : Listing) (is : List Item) (rows new : List Boxed) (row : Boxed) (i : Item) (all : Aabb) → Lists list is rows
    → row.item ≡ i → all ≡ union_with list.all row.bounds → (list.count < most_listed → new ≡ set rows list.count row) → most_listed ≤ length rows
    → Lists (record { count = list.count + 1; all = Some all }) (is ++ i ∷ []) new
unfolding box_of_items
lists_more list is rows new row i all l item-is all-is new-is room =
    record {
      count = simp length-append (omega (arith, l.count));
      box = rw (all-is, united list.all row, item-is, l.box) (sym (foldl-append unite_item None is (i ∷ [])));
      few = λ h. rw (new-is (omega arith), take_more_set rows list.count row (omega arith), map-append, l.few (omega arith), item-is) refl;
    }

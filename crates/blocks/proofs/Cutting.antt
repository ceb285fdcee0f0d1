-- One more block: what the blocks so far and the items that are left come to. Assumes nothing.
use mathlib.Core.Path.{◌≡◌, ap, ◌∙◌}
use mathlib.Core.List.{List, [], ◌∷◌, ◌++◌}
use Prim.Native.Nat.{ℕ, ◌+◌, ◌<◌}
use lib.ListN.{length, take, drop, set}
use Rattle.std.specs.List.{All, flat_map}
use Rattle.std.proofs.lemmas.List.{take_more_set, append_assoc, append-nil, take-append-drop}
use Rattle.std.proofs.lemmas.List.Concat.{flat_map-cons}
use Rattle.std.proofs.lemmas.List.Elements.{All-push}
use Rattle.std.proofs.lemmas.Grind.{flat_map-append}
use Rattle.items.specs.declared.Item.{Item}
use Rattle.blocks.specs.declared.block.Block.{Block}
use Rattle.blocks.specs.Blocks.{block_items}

pub blocks_more : (rows : List Block) (i : ℕ) (b : Block) (size : ℕ) (left next all : List Item) → i < length rows → next ≡ drop size left
    → flat_map block_items (take i rows) ++ left ≡ all → block_items b ≡ take size left → flat_map block_items (take (i + 1) (set rows i b)) ++ next ≡ all
blocks_more rows i b size left next all h rest e f =
    let before = flat_map block_items (take i rows) in
    let t : flat_map block_items (take (i + 1) (set rows i b)) ≡ before ++ take size left =
    ap (flat_map block_items) (take_more_set rows i b h) ∙ flat_map-append block_items (take i rows) (b ∷ [])
    ∙ ap (λ (l : List Item). before ++ l) (flat_map-cons block_items b [] ∙ append-nil (block_items b) ∙ f) in
    ap (λ (l : List Item). l ++ next) t ∙ append_assoc before (take size left) next
    ∙ ap (λ (l : List Item). before ++ l) (ap (λ (l : List Item). take size left ++ l) rest ∙ take-append-drop size left) ∙ e

pub sizes_more : (rows : List Block) (i : ℕ) (b : Block) (size : ℕ) → i < length rows → All (λ b. b.size ≡ size) (take i rows) → b.size ≡ size
    → All (λ b. b.size ≡ size) (take (i + 1) (set rows i b))
sizes_more rows i b size h all e = rw (take_more_set rows i b h) (All-push (λ (b : Block). b.size ≡ size) (take i rows) b all e)

-- The closest sweep by rule 2 gives none exactly if a side has no item. Assumes nothing.
use mathlib.Core.Path.{◌≡◌, refl}
use mathlib.Core.Logic.{◌↔◌, ◌⊎◌}
use mathlib.Core.List.{List, [], ◌∷◌, ◌++◌}
use Rattle.std.specs.Prelude.{None}
use Rattle.primitives.specs.declared.Witness.{Witness}
use Rattle.items.specs.declared.Item.{Item}
use Rattle.items.specs.declared.Item.TheVariants.{Point as point, Segment as segment, Triangle as triangle}
use Rattle.items.proofs.NoneExactly.{Offered, offered, candidates_offered, none_exactly_by}
use Rattle.crossings.specs.Crossings.{crossing, candidates_by_rule2}
use Rattle.crossings.specs.Closest.{with_item_by_rule2, with_each_by_rule2, sweep_by_rule2, closest_within_by_rule2, closest_by_rule2}

-- a crossing before them, or none
after : (crossings : List Witness) {l : List Witness} → Offered l → Offered (crossings ++ l)
after [] h = h
after (w ∷ ws) h = offered

-- two items always offer a candidate
candidates_offered_by_2 : (a b : Item) → Offered (candidates_by_rule2 a b)
unfolding candidates_by_rule2
candidates_offered_by_2 (point p) (point q) = candidates_offered _ _
candidates_offered_by_2 (point p) (segment u v) = candidates_offered _ _
candidates_offered_by_2 (point p) (triangle t) = candidates_offered _ _
candidates_offered_by_2 (segment u v) (point q) = candidates_offered _ _
candidates_offered_by_2 (segment u v) (segment p q) = candidates_offered _ _
candidates_offered_by_2 (segment s e) (triangle t) = after (crossing s e t) (candidates_offered (segment s e) (triangle t))
candidates_offered_by_2 (triangle t) (point q) = candidates_offered _ _
candidates_offered_by_2 (triangle t) (segment s e) = after (crossing s e t) (candidates_offered (triangle t) (segment s e))
candidates_offered_by_2 (triangle t) (triangle u) = offered

pub none_exactly_by_2 : (ls rs : List Item) → (closest_by_rule2 ls rs ≡ None) ↔ ((ls ≡ []) ⊎ (rs ≡ []))
unfolding closest_by_rule2 closest_within_by_rule2 sweep_by_rule2 with_each_by_rule2 with_item_by_rule2
none_exactly_by_2 ls rs = none_exactly_by candidates_by_rule2 candidates_offered_by_2 closest_within_by_rule2 (λ ls rs. refl) (λ all ls rs. refl) ls rs

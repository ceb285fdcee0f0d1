-- Of the listed items, those from the k-th on: the k-th and those after it. Assumes nothing.
use mathlib.Core.Path.{◌≡◌}
use mathlib.Core.List.{List, ◌∷◌, map}
use Prim.Native.Nat.{ℕ, ◌+◌, ◌<◌}
use lib.ListN.{length, get_or, drop}
use Rattle.std.proofs.lemmas.List.{at_drop_more}
use Rattle.items.specs.declared.boxed.Boxed.{Boxed}

pub listed_next : (rows : List Boxed) (k : ℕ) (d : Boxed) → k < length rows → map (λ (row : Boxed). row.item) (drop k rows) ≡ (get_or rows k d).item ∷ map (λ (row : Boxed). row.item) (drop (k + 1) rows)
listed_next rows k d h = at_drop_more (map (λ (row : Boxed). row.item)) rows k d h

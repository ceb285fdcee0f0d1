-- `next` meets its contract. The loop's invariant: what is left has the same items. Its measure: how many classes are left. Assumes nothing.
use mathlib.Core.Path.{◌≡◌}
use Prim.Native.Nat.{ℕ}
use Rattle.parts.specs.declared.Class.{Class}
use Rattle.parts.specs.declared.Class.TheVariants.{Points, Lines, Faces}
use Rattle.items.specs.Inner.{items_left}
use Rattle.items.proofs.walk.ItemsIterator.next.Given as goal

abbrev classes_after : Class → ℕ
classes_after Points = 2
classes_after Lines = 1
classes_after Faces = 0

abbrev pub invariant-loop-item : goal.invariant-loop-item
invariant-loop-item l = items_left l.self ≡ items_left l.initial.self

abbrev pub decreases-loop-item : goal.decreases-loop-item
decreases-loop-item l = classes_after l.self.left.class

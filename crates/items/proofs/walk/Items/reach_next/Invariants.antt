-- `reach_next` meets its contract. The loop's invariant: what is left has the same items. Its measure: how many classes are left. Assumes nothing.
use mathlib.Core.Path.{◌≡◌}
use Prim.Native.Nat.{ℕ}
use Rattle.parts.specs.declared.Class.{Class}
use Rattle.parts.specs.declared.Class.TheVariants.{Points, Lines, Faces}
use Rattle.items.specs.Inner.{items_left}
use Rattle.items.proofs.walk.Items.reach_next.Given as goal

abbrev classes_after : Class → ℕ
classes_after Points = 2
classes_after Lines = 1
classes_after Faces = 0

abbrev pub invariant-loop-lines : goal.invariant-loop-lines
invariant-loop-lines l = items_left l.self ≡ items_left l.initial.self

abbrev pub decreases-loop-lines : goal.decreases-loop-lines
decreases-loop-lines l = classes_after l.self.left.class

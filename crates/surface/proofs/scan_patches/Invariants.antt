-- What the loop over the patches keeps: those that are left, from the next position on, end where all do. Assumes nothing.
use mathlib.Core.List.{[], ◌∷◌}
use mathlib.Core.Path.{◌≡◌}
use Prim.Native.Nat.{◌-◌}
use Rattle.coords.specs.Walk.{times}
use Rattle.surface.specs.Inner.{scan_end}
use Rattle.surface.specs.Patches.{patch_at}
use Rattle.surface.proofs.scan_patches.Given as goal

abbrev pub invariant-loop : goal.invariant-loop
invariant-loop l = scan_end (times ◌∷◌ [] (patch_at l.s) l.count l.at) ≡ scan_end (times ◌∷◌ [] (patch_at l.s) (l.count - l.counter) l.next)

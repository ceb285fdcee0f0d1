-- `from_one_point` meets its contract: there are fewer items than are asked for. Assumes nothing.
use native.Mathlib.Omega.{arith}
use mathlib.Core.Path.{ap}
use Rattle.items.specs.Closest.{with_each}
use Rattle.closest.proofs.OnePoint.{all_taken}
use Rattle.closest.proofs.from_one_point.Goals as goal

pub returns-in-None : goal.returns-in-None
returns-in-None c = rw (c.with_span.ensures, c.new-probe.ensures, c.none-best.ensures, c.of.ensures.left) (ap (with_each _ _) (all_taken 18446744073709551615 _ (omega (arith, c.of.ensures.few))))

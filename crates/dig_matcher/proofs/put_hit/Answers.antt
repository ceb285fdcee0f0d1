-- `dig_matcher::put_hit` meets its contract. Assumes nothing.
use mathlib.Core.Path.{sym}
use native.Mathlib.Omega.{arith}
use Rattle.dig_matcher.proofs.Matches.{hit_put, hit_left}
use Rattle.dig_matcher.proofs.put_hit.Goals as goal

pub returns-then-places_in-k : goal.returns-then-places_in-k
returns-then-places_in-k c = sym (hit_left _ _ _ (omega arith))

pub returns : goal.returns
returns c = sym (hit_put _ _ _ (omega arith))

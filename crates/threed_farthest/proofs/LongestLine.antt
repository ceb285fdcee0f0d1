-- The third property of the longest line (mission, third property), for every call. Assumes nothing.
use mathlib.Core.Path.{◌≡◌, sym, subst}
use mathlib.Core.List.{List}
use Prim.Native.Nat.{ℕ, ◌<◌}
use lib.ListN.{get_or}
use Rattle.refusals.specs.Checks.{first_of}
use Rattle.parts.specs.Points.{point_of}
use Rattle.farthest.proofs.LongestLine.{longest_line_of}
use Rattle.operands.specs.Operands.{Workspaces, filled}
use Rattle.outcomes.specs.Answers.{nothing, blob, answering}
use Rattle.outcomes.specs.Operations.{Outcome, vertices_of_blob, farthest_pair, line_checks, longest_line}
use Rattle.outcomes.specs.ThirdProperty.{LongestOfAll}
use Rattle.outcomes.proofs.FirstExtremeLine.{point_binary64, accepted_line}

module _ (a b : List ℕ) (w : Workspaces) (output : List ℕ) (bytes1 : (i : ℕ) → get_or a i 0 < 256) (bytes2 : (i : ℕ) → get_or b i 0 < 256) where
  -- whatever the two blobs hold
  pub longest_of_all : LongestOfAll (answering nothing) (answering blob) a b w output (longest_line a b w output).report (longest_line a b w output).output
  unfolding longest_line
  longest_of_all =
      record {
        first_extreme_line = accepted_line a b bytes1 bytes2 (farthest_pair a b) (longest_line_of point_of point_binary64 (vertices_of_blob a) (vertices_of_blob b)) output (first_of (line_checks a b w output)) (filled a b w) w;
      }

  -- the same of an outcome that was shown to be the operation's
  pub longest_of_outcome : (o : Outcome) → o ≡ longest_line a b w output → LongestOfAll (answering nothing) (answering blob) a b w output o.report o.output
  longest_of_outcome o e = subst (λ (o : Outcome). LongestOfAll (answering nothing) (answering blob) a b w output o.report o.output) (sym e) longest_of_all

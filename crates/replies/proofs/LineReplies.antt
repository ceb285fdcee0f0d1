-- The third property of a line's reply, from that of the report. Assumes nothing.
use Prim.Native.Nat.{ℕ}
use mathlib.Core.Path.{◌≡◌, refl, ap}
use mathlib.Core.Logic.{◌↔◌}
use mathlib.Core.Bool.{Bool}
use mathlib.Core.List.{List}
use native.Mathlib.Omega.{arith}
use lib.Ieee.{Float}
use Rattle.ieee754.specs.MinMax.{positive_zero}
use Rattle.operands.specs.Operands.{Workspaces}
use Rattle.extremes.proofs.FirstExtreme.{holds_restated}
use Rattle.outcomes.specs.Answers.{nothing, blob, answering, written_report}
use Rattle.outcomes.specs.ThirdProperty.{FirstExtremeLine, LongestOfAll, ShortestOfPoints}
use Rattle.outcomes.specs.declared.Written.{Written}
use Rattle.outcomes.specs.declared.Written.TheVariants as written
use Rattle.std.specs.Prelude.{Result, Ok, Err}
use Rattle.refusals.specs.declared.Refusal.{Refusal}
use Rattle.replies.specs.Replies.{reply_nothing, reply_answered, reply_of}
use Rattle.replies.specs.declared.Reply.{Reply}

-- the reply says that there is no line exactly where the report does
nothing_exactly : (x : Result Written Refusal) → (reply_of (written_report x) ≡ reply_nothing) ↔ (written_report x ≡ answering nothing)
nothing_exactly (Ok written.Blob) = (λ e. let z : ◌≡◌ {A = ℕ} 1 0 = ap (λ (r : Reply). r.case) e in absurd (omega arith), λ e. let z : ◌≡◌ {A = ℕ} 0 1 = cc in absurd (omega arith))
nothing_exactly (Ok written.Nothing) = (λ e. refl, λ e. refl)
nothing_exactly (Err t) = (λ e. let z : ◌≡◌ {A = ℕ} 2 0 = ap (λ (r : Reply). r.case) e in absurd (omega arith), λ e. let z : ◌≡◌ {A = ℕ} 0 1 = cc in absurd (omega arith))

module _ (order : Float → Float → Bool) (a b : List ℕ) (x : Result Written Refusal) (output : List ℕ) where
  first_extreme_reply : FirstExtremeLine (answering nothing) (answering blob) order a b (written_report x) output
      → FirstExtremeLine reply_nothing (reply_answered positive_zero) order a b (reply_of (written_report x)) output
  first_extreme_reply h = holds_restated (nothing_exactly x) (λ k p at c is. record { is_told = ap reply_of is.is_told; reads_back = is.reads_back }) h

module _ (a b : List ℕ) (w : Workspaces) (lent : List ℕ) (x : Result Written Refusal) (output : List ℕ) (r : Reply) (same : r ≡ reply_of (written_report x)) where
  pub longest_reply : LongestOfAll (answering nothing) (answering blob) a b w lent (written_report x) output → LongestOfAll reply_nothing (reply_answered positive_zero) a b w lent r output
  longest_reply h = rw same (record { first_extreme_line = λ first. first_extreme_reply _ a b x output (h.first_extreme_line first) })

  pub shortest_reply : (rule : ℕ) → ShortestOfPoints (answering nothing) (answering blob) a b rule w lent (written_report x) output → ShortestOfPoints reply_nothing (reply_answered positive_zero) a b rule w lent r output
  shortest_reply rule h = rw same (record { first_extreme_line = λ first p q. first_extreme_reply _ a b x output (h.first_extreme_line first p q) })

-- What a call that writes a blob returns, from what the operation did; and what a join's reply promises. Assumes nothing.
use Prim.Native.Nat.{ℕ}
use mathlib.Core.Path.{◌≡◌, sym, ap, ◌∙◌}
use mathlib.Core.List.{List}
use Rattle.std.specs.Prelude.{Option, Result, Ok, Err}
use native.Mathlib.Omega.{arith}
use Rattle.refusals.specs.declared.Refusal.{Refusal}
use Rattle.blob.specs.Written.{WrittenOutcome}
use Rattle.joining.specs.Promises.{JoinReads, JoinMaxDistance}
use Rattle.replies.specs.Replies.{reply_size, size_reply, returned_size, size_returned}
use Rattle.replies.specs.declared.PairReply.{PairReply}

module _ (o : Result ℕ Refusal) (r : PairReply) (same : r ≡ size_reply o) where
  pub as_size : (first : Option Refusal) (blob output output' : List ℕ) → WrittenOutcome first blob output output' o → returned_size r output' ≡ size_returned first blob output
  unfolding size_returned
  as_size first blob output output' h = rw (same, h.answer, h.left)

  -- a reply that tells a size is that of the operation's
  size_told : (n : ℕ) → r ≡ reply_size n → o ≡ Ok n
  size_told n e = go o (sym same ∙ e)
    where
      go : (x : Result ℕ Refusal) → size_reply x ≡ reply_size n → x ≡ Ok n
      go (Ok m) i = ap Ok (ap (λ (q : PairReply). q.first) i)
      go (Err t) i = let z : ◌≡◌ {A = ℕ} 2 1 = ap (λ (q : PairReply). q.case) i in absurd (omega arith)

  module _ (a b output : List ℕ) where
    pub reads_reply : JoinReads Ok a b o output → JoinReads reply_size a b r output
    reads_reply h = record { answered = λ n e. h.answered n (size_told n e); reads = λ n e. h.reads n (size_told n e) }

    pub max_distance_reply : JoinMaxDistance Ok a b o output → JoinMaxDistance reply_size a b r output
    max_distance_reply h = record { max_distance = λ n e. h.max_distance n (size_told n e) }

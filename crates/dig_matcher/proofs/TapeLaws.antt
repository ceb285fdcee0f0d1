-- The command that a tape starts with: what its bytes are read as. Assumes nothing.
use mathlib.Core.Path.{◌≡◌, refl, sym, ap, ◌∙◌}
use mathlib.Core.Bool.{true, false}
use mathlib.Core.List.{List, [], ◌∷◌}
use Prim.Native.Nat.{ℕ, ◌-◌, ◌<◌, ◌≤◌}
use native.Mathlib.Omega.{arith}
use lib.ListN.{length, take, drop, get_or, length-drop, take-append-drop}
use lib.Seq.{take_all, length-take-le}
use Rattle.fields.specs.Fields.{little_endian, u32_at, u64_at, f64_at}
use Rattle.dig_matcher.specs.Tape.{Command, load, tolerance, pair, unfinished, ended, unknown, tape_of, commands_of, is_broken}
use Rattle.dig_matcher.specs.Inner.{Starts, run_from}
use Rattle.dig_matcher.specs.Job.{Progress, stepped, at_tape_end}
use Rattle.operands.specs.Operands.{Workspaces}
use Rattle.dig_matcher.proofs.Feeding.{commands_before, broken_before, end_read, unknown_read, tolerance_read, tolerance_cut, pair_read, pair_cut, length_cut, blob_cut, load_read}

-- no command is read, and the tape breaks
abbrev pub Breaks : List ℕ → Type 0
Breaks s = (is_broken (tape_of s) ≡ true) × (commands_of (tape_of s) ≡ [])

from_unfinished : (s part : List ℕ) → tape_of s ≡ unfinished [] part → Breaks s
unfolding is_broken commands_of
from_unfinished s part e = (rw e, rw e)

from_unknown : (s : List ℕ) → tape_of s ≡ unknown [] → Breaks s
unfolding is_broken commands_of
from_unknown s e = (rw e, rw e)

-- ---- a command, by the bytes after its first

-- what a pattern of n bytes leaves
abbrev pub left : List ℕ → ℕ → List ℕ
left s n = take (length s - n) (drop n s)

left_is : (s : List ℕ) (n : ℕ) → left s n ≡ drop n s
left_is s n = take_all (length s - n) (drop n s) (omega (arith, length-drop n s))

pub pair_first : (s : List ℕ) → 2 ≤ length s → Starts (3 ∷ s) (pair (get_or s 0 0) (get_or s 1 0)) (left s 2)
pair_first [] l = absurd (omega arith)
pair_first (a ∷ []) l = absurd (omega arith)
pair_first (a ∷ b ∷ s) l = rw (left_is (a ∷ b ∷ s) 2) (record { shorter = omega arith; read = pair_read a b s })

pub pair_short : (s : List ℕ) → length s < 2 → Breaks (3 ∷ s)
pair_short s l = from_unfinished (3 ∷ s) (3 ∷ s) (pair_cut s (omega arith))

pub tolerance_first : (s front : List ℕ) → 8 ≤ length s → front ≡ take 8 s → Starts (2 ∷ s) (tolerance (f64_at true front 0)) (drop 8 s)
unfolding f64_at u64_at u32_at
tolerance_first (a ∷ b ∷ c ∷ d ∷ e ∷ f ∷ g ∷ h ∷ s) front l is = rw is (record { shorter = omega arith; read = tolerance_read a b c d e f g h s })
tolerance_first [] front l is = absurd (omega arith)
tolerance_first (a ∷ []) front l is = absurd (omega arith)
tolerance_first (a ∷ b ∷ []) front l is = absurd (omega arith)
tolerance_first (a ∷ b ∷ c ∷ []) front l is = absurd (omega arith)
tolerance_first (a ∷ b ∷ c ∷ d ∷ []) front l is = absurd (omega arith)
tolerance_first (a ∷ b ∷ c ∷ d ∷ e ∷ []) front l is = absurd (omega arith)
tolerance_first (a ∷ b ∷ c ∷ d ∷ e ∷ f ∷ []) front l is = absurd (omega arith)
tolerance_first (a ∷ b ∷ c ∷ d ∷ e ∷ f ∷ g ∷ []) front l is = absurd (omega arith)

pub tolerance_short : (s : List ℕ) → length s < 8 → Breaks (2 ∷ s)
tolerance_short s l = from_unfinished (2 ∷ s) (2 ∷ s) (tolerance_cut s (omega arith))

pub load_first : (s blob rest : List ℕ) → 5 ≤ length s → u32_at true s 1 ≤ length (left s 5) → blob ≡ take (u32_at true s 1) (left s 5) → rest ≡ drop (u32_at true s 1) (left s 5) → Starts (1 ∷ s) (load (get_or s 0 0) blob) rest
unfolding u32_at
load_first (k ∷ l0 ∷ l1 ∷ l2 ∷ l3 ∷ s) blob rest l m b r =
    let n = little_endian l0 l1 l2 l3 in
    let is = left_is (k ∷ l0 ∷ l1 ∷ l2 ∷ l3 ∷ s) 5 in
    let size : length (take n s) ≡ n = length-take-le n s (omega (arith, ap length is)) in
    rw (b, r, is) (record {
      shorter = omega (arith, length-drop n s);
      read = ap (λ (t : List ℕ). tape_of (1 ∷ k ∷ l0 ∷ l1 ∷ l2 ∷ l3 ∷ t)) (sym (take-append-drop n s)) ∙ load_read k l0 l1 l2 l3 (take n s) (drop n s) size;
    })
load_first [] blob rest l m b r = absurd (omega arith)
load_first (k ∷ []) blob rest l m b r = absurd (omega arith)
load_first (k ∷ l0 ∷ []) blob rest l m b r = absurd (omega arith)
load_first (k ∷ l0 ∷ l1 ∷ []) blob rest l m b r = absurd (omega arith)
load_first (k ∷ l0 ∷ l1 ∷ l2 ∷ []) blob rest l m b r = absurd (omega arith)

pub length_short : (s : List ℕ) → length s < 5 → Breaks (1 ∷ s)
length_short s l = from_unfinished (1 ∷ s) (1 ∷ s) (length_cut s (omega arith))

pub blob_short : (s : List ℕ) → 5 ≤ length s → length (left s 5) < u32_at true s 1 → Breaks (1 ∷ s)
unfolding u32_at
blob_short (k ∷ l0 ∷ l1 ∷ l2 ∷ l3 ∷ s) l m = from_unfinished (1 ∷ k ∷ l0 ∷ l1 ∷ l2 ∷ l3 ∷ s) (1 ∷ k ∷ l0 ∷ l1 ∷ l2 ∷ l3 ∷ s) (blob_cut k l0 l1 l2 l3 s (omega (arith, ap length (left_is (k ∷ l0 ∷ l1 ∷ l2 ∷ l3 ∷ s) 5))))
blob_short [] l m = absurd (omega arith)
blob_short (k ∷ []) l m = absurd (omega arith)
blob_short (k ∷ l0 ∷ []) l m = absurd (omega arith)
blob_short (k ∷ l0 ∷ l1 ∷ []) l m = absurd (omega arith)
blob_short (k ∷ l0 ∷ l1 ∷ l2 ∷ []) l m = absurd (omega arith)

-- ---- a tape, by its first byte

pub nothing_left : (s : List ℕ) → length s ≡ 0 → Breaks s
unfolding tape_of
nothing_left [] e = from_unfinished [] [] refl
nothing_left (x ∷ s) e = absurd (omega arith)

pub end_first : (s rest : List ℕ) → s ≡ 4 ∷ rest → tape_of s ≡ ended []
end_first s rest e = rw e (end_read rest)

pub unknown_first : (s rest : List ℕ) (x : ℕ) → s ≡ x ∷ rest → (x ≡ 1 → ⊥) → (x ≡ 2 → ⊥) → (x ≡ 3 → ⊥) → (x ≡ 4 → ⊥) → Breaks s
unknown_first s rest x e n1 n2 n3 n4 = rw e (from_unknown (x ∷ rest) (unknown_read x rest n1 n2 n3 n4))

-- what the readers of each command, and of any, need
pub ruleset loads = (load_first, length_short, blob_short)

pub ruleset tolerances = (tolerance_first, tolerance_short)

pub ruleset pairs = (pair_first, pair_short)

pub ruleset commands = (nothing_left, end_first, unknown_first)

-- ---- a pass by these

module _ (w : Workspaces) (p : Progress) where
  -- a command is one step
  pub run_step : (tape : List ℕ) (c : Command) (rest : List ℕ) → Starts tape c rest → run_from w p tape ≡ run_from w (stepped w p c) rest
  unfolding run_from
  run_step tape c rest h = rw (h.read, commands_before c (tape_of rest), broken_before c (tape_of rest))

  pub run_end : (s : List ℕ) → tape_of s ≡ ended [] → run_from w p s ≡ at_tape_end false p
  unfolding run_from commands_of is_broken
  run_end s e = rw e

  pub run_broken : (s : List ℕ) → Breaks s → run_from w p s ≡ at_tape_end true p
  unfolding run_from
  run_broken s b = rw (b.0, b.1)

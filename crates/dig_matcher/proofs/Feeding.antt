-- How a tape's state takes bytes: the commands so far are never looked at, a command is read once its bytes are there, and what has ended stays. Assumes nothing.
use mathlib.Core.Path.{◌≡◌, refl, sym, ap, ◌∙◌}
use mathlib.Core.Bool.{Bool, true, false, cond}
use mathlib.Core.List.{List, [], ◌∷◌, ◌++◌, foldl, append-nil}
use Rattle.std.specs.Prelude.{Option, None, Some}
use Prim.Native.Nat.{ℕ, ◌+◌, ◌<◌}
use native.Mathlib.Omega.{arith}
use lib.Dec.{ltb}
use lib.ListN.{length, length-append}
use lib.Seq.{append_snoc}
use borrow.Author.Tests.{lt-ltb, le-ltb, ne_eqb}
use Rattle.fields.specs.Fields.{little_endian, u32_at, u64_at, f64_at}
use Rattle.dig_matcher.specs.Tape.{Command, load, tolerance, pair, is_end, command_bytes, command_of, Reading, unfinished, ended, unknown, read_on, feed, tape_of, commands_of, is_broken}
use Rattle.dig_matcher.specs.Inner.{command_before}

-- ---- a command before

module _ (c : Command) where
  cond_before : (b : Bool) (x y : Reading) → cond b (command_before c x) (command_before c y) ≡ command_before c (cond b x y)
  cond_before true x y = refl
  cond_before false x y = refl

  read_on_before : (cs : List Command) (part : List ℕ) (size : Option ℕ) → read_on (c ∷ cs) part size ≡ command_before c (read_on cs part size)
  unfolding read_on command_before
  read_on_before cs part None = refl
  read_on_before cs part (Some n) = cond_before (ltb (length part) n) (unfinished cs part) (unfinished (cs ++ (command_of part ∷ [])) [])

  feed_before : (r : Reading) (byte : ℕ) → feed (command_before c r) byte ≡ command_before c (feed r byte)
  unfolding feed command_before
  feed_before (unfinished cs part) byte =
      let q = part ++ (byte ∷ []) in
      ap (cond (is_end q) (ended (c ∷ cs))) (read_on_before cs q (command_bytes q)) ∙ cond_before (is_end q) (ended cs) (read_on cs q (command_bytes q))
  feed_before (ended cs) byte = refl
  feed_before (unknown cs) byte = refl

  pub fold_before : (r : Reading) (s : List ℕ) → foldl feed (command_before c r) s ≡ command_before c (foldl feed r s)
  fold_before r [] = refl
  fold_before r (byte ∷ s) = ap (λ (t : Reading). foldl feed t s) (feed_before r byte) ∙ fold_before (feed r byte) s

  pub after_one : (s : List ℕ) → foldl feed (unfinished (c ∷ []) []) s ≡ command_before c (tape_of s)
  unfolding tape_of command_before
  after_one s = fold_before (unfinished [] []) s

  pub commands_before : (r : Reading) → commands_of (command_before c r) ≡ c ∷ commands_of r
  unfolding commands_of command_before
  commands_before (unfinished cs part) = refl
  commands_before (ended cs) = refl
  commands_before (unknown cs) = refl

  pub broken_before : (r : Reading) → is_broken (command_before c r) ≡ is_broken r
  unfolding is_broken command_before
  broken_before (unfinished cs part) = refl
  broken_before (ended cs) = refl
  broken_before (unknown cs) = refl

-- ---- what has ended stays

pub ended_stays : (cs : List Command) (s : List ℕ) → foldl feed (ended cs) s ≡ ended cs
unfolding feed
ended_stays cs [] = refl
ended_stays cs (byte ∷ s) = ended_stays cs s

pub unknown_stays : (cs : List Command) (s : List ℕ) → foldl feed (unknown cs) s ≡ unknown cs
unfolding feed
unknown_stays cs [] = refl
unknown_stays cs (byte ∷ s) = unknown_stays cs s

pub end_read : (rest : List ℕ) → tape_of (4 ∷ rest) ≡ ended []
unfolding tape_of feed
end_read rest = ended_stays [] rest

pub unknown_read : (x : ℕ) (rest : List ℕ) → (x ≡ 1 → ⊥) → (x ≡ 2 → ⊥) → (x ≡ 3 → ⊥) → (x ≡ 4 → ⊥) → tape_of (x ∷ rest) ≡ unknown []
unfolding tape_of feed read_on command_bytes
unknown_read x rest n1 n2 n3 n4 = rw (ne_eqb x 4 n4, ne_eqb x 1 n1, ne_eqb x 2 n2, ne_eqb x 3 n3) (unknown_stays [] rest)

-- ---- the bytes of one command

-- with any bytes after these, the command has so many
abbrev pub Sized : List ℕ → ℕ → Type 0
Sized p n = (more : List ℕ) → (is_end (p ++ more) ≡ false) × (command_bytes (p ++ more) ≡ Some n)

sized_more : (p : List ℕ) (b n : ℕ) → Sized p n → Sized (p ++ (b ∷ [])) n
sized_more p b n s more = rw append_snoc (s (b ∷ more))

one_longer : (p : List ℕ) (b : ℕ) → length (p ++ (b ∷ [])) ≡ length p + 1
one_longer p b = length-append p (b ∷ [])

step_on : (cs : List Command) (p : List ℕ) (b n : ℕ) → Sized p n → length p + 1 < n → feed (unfinished cs p) b ≡ unfinished cs (p ++ (b ∷ []))
unfolding feed read_on
step_on cs p b n s l = rw ((s (b ∷ [])).0, (s (b ∷ [])).1, lt-ltb (length (p ++ (b ∷ []))) n (omega (arith, one_longer p b, l)))

step_done : (cs : List Command) (p : List ℕ) (b n : ℕ) → Sized p n → length p + 1 ≡ n → feed (unfinished cs p) b ≡ unfinished (cs ++ (command_of (p ++ (b ∷ [])) ∷ [])) []
unfolding feed read_on
step_done cs p b n s l = rw ((s (b ∷ [])).0, (s (b ∷ [])).1, le-ltb (length (p ++ (b ∷ []))) n (omega (arith, one_longer p b, l)))

-- too few: unfinished
pub growing : (cs : List Command) (p bs : List ℕ) (n : ℕ) → Sized p n → length p + length bs < n → foldl feed (unfinished cs p) bs ≡ unfinished cs (p ++ bs)
growing cs p [] n s l = ap (unfinished cs) (sym (append-nil p))
growing cs p (b ∷ bs) n s l =
    ap (λ (r : Reading). foldl feed r bs) (step_on cs p b n s (omega arith))
    ∙ (growing cs (p ++ (b ∷ [])) bs n (sized_more p b n s) (omega (arith, one_longer p b, l)) ∙ ap (unfinished cs) (append_snoc p b bs))

-- all of them: the command
pub completing : (cs : List Command) (p : List ℕ) (b : ℕ) (bs rest : List ℕ) (n : ℕ) → Sized p n → length p + 1 + length bs ≡ n → foldl feed (unfinished cs p) (b ∷ bs ++ rest) ≡ foldl feed (unfinished (cs ++ (command_of (p ++ (b ∷ bs)) ∷ [])) []) rest
completing cs p b [] rest n s l = ap (λ (r : Reading). foldl feed r rest) (step_done cs p b n s (omega arith))
completing cs p b (b' ∷ bs) rest n s l =
    ap (λ (r : Reading). foldl feed r (b' ∷ bs ++ rest)) (step_on cs p b n s (omega arith))
    ∙ (completing cs (p ++ (b ∷ [])) b' bs rest n (sized_more p b n s) (omega (arith, one_longer p b, l))
    ∙ ap (λ (q : List ℕ). foldl feed (unfinished (cs ++ (command_of q ∷ [])) []) rest) (append_snoc p b (b' ∷ bs)))

-- ---- 02 and 03

pub tolerance_read : (a b c d e f g h : ℕ) (rest : List ℕ) → tape_of (2 ∷ a ∷ b ∷ c ∷ d ∷ e ∷ f ∷ g ∷ h ∷ rest) ≡ command_before (tolerance (f64_at true (2 ∷ a ∷ b ∷ c ∷ d ∷ e ∷ f ∷ g ∷ h ∷ rest) 1)) (tape_of rest)
unfolding tape_of feed read_on command_bytes command_of f64_at u64_at u32_at
tolerance_read a b c d e f g h rest = after_one (tolerance (f64_at true (2 ∷ a ∷ b ∷ c ∷ d ∷ e ∷ f ∷ g ∷ h ∷ []) 1)) rest

pub pair_read : (a b : ℕ) (rest : List ℕ) → tape_of (3 ∷ a ∷ b ∷ rest) ≡ command_before (pair a b) (tape_of rest)
unfolding tape_of feed read_on command_bytes command_of
pair_read a b rest = after_one (pair a b) rest

sized_2 : Sized (2 ∷ []) 9
unfolding command_bytes
sized_2 more = (refl, refl)

pub tolerance_cut : (bs : List ℕ) → 1 + length bs < 9 → tape_of (2 ∷ bs) ≡ unfinished [] (2 ∷ bs)
unfolding tape_of feed read_on command_bytes
tolerance_cut bs l = growing [] (2 ∷ []) bs 9 sized_2 l

sized_3 : Sized (3 ∷ []) 3
unfolding command_bytes
sized_3 more = (refl, refl)

pub pair_cut : (bs : List ℕ) → 1 + length bs < 3 → tape_of (3 ∷ bs) ≡ unfinished [] (3 ∷ bs)
unfolding tape_of feed read_on command_bytes
pair_cut bs l = growing [] (3 ∷ []) bs 3 sized_3 l

-- ---- 01

-- the length is cut
pub length_cut : (bs : List ℕ) → 1 + length bs < 6 → tape_of (1 ∷ bs) ≡ unfinished [] (1 ∷ bs)
unfolding tape_of feed read_on command_bytes
length_cut [] l = refl
length_cut (a ∷ []) l = refl
length_cut (a ∷ b ∷ []) l = refl
length_cut (a ∷ b ∷ c ∷ []) l = refl
length_cut (a ∷ b ∷ c ∷ d ∷ []) l = refl
length_cut (a ∷ b ∷ c ∷ d ∷ e ∷ bs) l = absurd (omega arith)

module _ (k l0 l1 l2 l3 : ℕ) where
  -- the bytes before the blob
  abbrev head : List ℕ
  head = 1 ∷ k ∷ l0 ∷ l1 ∷ l2 ∷ l3 ∷ []

  abbrev said : ℕ
  said = little_endian l0 l1 l2 l3

  sized_1 : Sized head (6 + said)
  unfolding command_bytes u32_at
  sized_1 more = (refl, rw (le-ltb (length (head ++ more)) 6 (omega arith)))

  -- the bytes before its last
  abbrev five : List ℕ
  five = 1 ∷ k ∷ l0 ∷ l1 ∷ l2 ∷ []

  five_fed : (s : List ℕ) → tape_of (five ++ s) ≡ foldl feed (unfinished [] five) s
  unfolding tape_of feed read_on command_bytes
  five_fed s = refl

  blob_due : 0 < said → feed (unfinished [] five) l3 ≡ unfinished [] head
  unfolding feed read_on command_bytes u32_at
  blob_due l = rw (lt-ltb 6 (6 + said) (omega arith))

  blob_empty : 0 ≡ said → feed (unfinished [] five) l3 ≡ unfinished (load k [] ∷ []) []
  unfolding feed read_on command_bytes command_of u32_at
  blob_empty e = rw (le-ltb 6 (6 + said) (omega arith))

  head_fed : (s : List ℕ) → 0 < said → tape_of (head ++ s) ≡ foldl feed (unfinished [] head) s
  head_fed s l = five_fed (l3 ∷ s) ∙ ap (λ (r : Reading). foldl feed r s) (blob_due l)

  -- the blob is cut
  pub blob_cut : (bs : List ℕ) → length bs < said → tape_of (head ++ bs) ≡ unfinished [] (head ++ bs)
  blob_cut bs l = head_fed bs (omega arith) ∙ growing [] head bs (6 + said) sized_1 (omega arith)

  pub load_read : (bs rest : List ℕ) → length bs ≡ said → tape_of (head ++ (bs ++ rest)) ≡ command_before (load k bs) (tape_of rest)
  unfolding command_of
  load_read [] rest e = five_fed (l3 ∷ rest) ∙ (ap (λ (r : Reading). foldl feed r rest) (blob_empty e) ∙ after_one (load k []) rest)
  load_read (b ∷ bs) rest e =
      head_fed (b ∷ bs ++ rest) (omega arith) ∙ (completing [] head b bs rest (6 + said) sized_1 (omega arith) ∙ after_one (load k (b ∷ bs)) rest)

-- End theorems: when a job is refused and with which number, in tape order; a pair matched twice. Assumes nothing.
use Rattle.refusals.specs.declared.Reason.TheVariants.{BrokenTape, ListsTooShort, NoSuchBlob, ToleranceBelowZero, UnknownRule}
use mathlib.Core.Path.{◌≡◌, refl, sym, ap, ◌∙◌, fun_ext}
use mathlib.Core.Bool.{Bool, true, false, cond}
use mathlib.Core.List.{List, [], ◌∷◌, ◌++◌, append-nil, foldl, foldl-append}
use mathlib.Core.Logic.{◌↔◌, ◌⊎◌, inl, inr, ⊎_elim}
use Prim.Native.Nat.{ℕ, ◌<◌}
use native.Mathlib.Omega.{arith}
use borrow.Author.Tests.{lt-ltb, ltb-true}
use lib.Dec.{ltb, eqb}
use lib.ListN.{length}
use lib.Ieee.{Float, lt}
use Rattle.ieee754.specs.MinMax.{positive_zero}
use Rattle.refusals.specs.Checks.{Check, first_of, on_side}
use Rattle.refusals.specs.declared.Refusal.{Refusal}
use Rattle.refusals.proofs.Checks.{given_exactly}
use Rattle.refusals.specs.Table.{sided, number_of_side}
use Rattle.refusals.specs.declared.Reason.{Reason}
use Rattle.refusals.specs.declared.Side.{Side}
use Rattle.refusals.specs.declared.Side.TheVariants as side-of
use Rattle.std.specs.Option.{option_or, option_map}
use Rattle.refusals.proofs.Sides.{first_on_side, first_of_two, first_of_one}
use Rattle.operands.specs.Operands.{Workspaces, both_checks, operand_checks, lent_checks}
use Rattle.outcomes.specs.Answers.{Value, answering}
use Rattle.outcomes.specs.Operations.{no_side, outcome, unless, tolerance_checks, rule_checks, distance}
use Rattle.outcomes.proofs.RefusedExactly.{First}
use Rattle.dig_matcher.specs.Tape.{Command, load, tolerance, pair, tape_of, commands_of, is_broken}
use Rattle.dig_matcher.specs.Job.{Job, Progress, going, stopped, start_of_job, loaded_with, after_report, after_checks, matched, after_command, stepped, at_tape_end, if_room, job_of}
use Rattle.dig_matcher.specs.Inner.{Starts, Matched, match_of, after_match, run_from}
use Rattle.std.specs.Prelude.{Option, Some, None, Ok, Err}
use Rattle.dig_matcher.specs.declared.Hit.{Hit}
use Rattle.dig_matcher.proofs.Matches.{matched_is}
use Rattle.dig_matcher.proofs.Runs.{run_command, stays_stopped}

never : {A : Type 0} (job : Job) (r : Refusal) → going job ≡ stopped r → A
never job r e = cc

-- a job's parts, while it goes on
abbrev hits_so_far : Progress → List Hit
hits_so_far (going job) = job.hits
hits_so_far (stopped r) = []

abbrev limit_so_far : Progress → Float
limit_so_far (going job) = job.limit
limit_so_far (stopped r) = positive_zero

abbrev loaded_so_far : Progress → ℕ → Option (List ℕ)
loaded_so_far (going job) = job.loaded
loaded_so_far (stopped r) = λ n. None

-- ---- a command

-- 21: a pair, one of whose numbers is not loaded
pub record NotLoaded (job : Job) (c : Command) (r : Refusal) : Type 0 where
  pub first : ℕ
  pub second : ℕ
  pub command : c ≡ pair first second
  pub missing : (job.loaded first ≡ None) ⊎ (job.loaded second ≡ None)
  pub number : r ≡ no_side NoSuchBlob

-- a measuring refusal: a pair of two that are loaded, and the check that gives it is the first that holds: the tolerance's, then those of a distance by rule 1
pub record NotMeasured (w : Workspaces) (job : Job) (c : Command) (r : Refusal) : Type 0 where
  pub first : ℕ
  pub second : ℕ
  pub one : List ℕ
  pub other : List ℕ
  pub command : c ≡ pair first second
  pub loaded_one : job.loaded first ≡ Some one
  pub loaded_other : job.loaded second ≡ Some other
  pub given : First (tolerance_checks job.limit ++ (rule_checks 1 ++ lent_checks one other w)) r

refused_by : (job : Job) (i j : ℕ) (r : Refusal) (v : Value) (m w : Workspaces) (x y : Option Refusal) → (after_checks x (after_report job i j (unless y (outcome (answering v) m []) w []).report) ≡ stopped r) ↔ (option_or x y ≡ Some r)
unfolding after_checks after_report
refused_by job i j r v m w (Some t) y = (λ e. cc, λ e. cc)
refused_by job i j r v m w None (Some t) = (λ e. cc, λ e. cc)
refused_by job i j r v m w None None = (λ e. never _ r e, λ e. cc)

measured_refused : (w : Workspaces) (job : Job) (i j : ℕ) (a b : List ℕ) (r : Refusal) → (matched w job i j (Some a) (Some b) ≡ stopped r) ↔ First (tolerance_checks job.limit ++ (rule_checks 1 ++ lent_checks a b w)) r
unfolding matched distance
measured_refused w job i j a b r =
    let checks = tolerance_checks job.limit ++ (rule_checks 1 ++ lent_checks a b w) in
    let found = refused_by job i j r _ _ w (first_of (tolerance_checks job.limit)) (first_of (rule_checks 1 ++ lent_checks a b w)) in
    let both = first_of_two (tolerance_checks job.limit) (rule_checks 1 ++ lent_checks a b w) in
    (λ e. (given_exactly checks r).0 (both ∙ found.0 e), λ f. found.1 (sym both ∙ (given_exactly checks r).1 f))

pair_by_blobs : (w : Workspaces) (job : Job) (i j : ℕ) (r : Refusal) (x y : Option (List ℕ)) → job.loaded i ≡ x → job.loaded j ≡ y → matched w job i j x y ≡ stopped r → NotLoaded job (pair i j) r ⊎ NotMeasured w job (pair i j) r
unfolding matched
pair_by_blobs w job i j r None y p q e = inl (record { first = i; second = j; command = refl; missing = inl p; number = cc })
pair_by_blobs w job i j r (Some a) None p q e = inl (record { first = i; second = j; command = refl; missing = inr q; number = cc })
pair_by_blobs w job i j r (Some a) (Some b) p q e = inr (record { first = i; second = j; one = a; other = b; command = refl; loaded_one = p; loaded_other = q; given = (measured_refused w job i j a b r).0 e })

command_by_kind : (w : Workspaces) (job : Job) (c : Command) (r : Refusal) → after_command w job c ≡ stopped r → NotLoaded job c r ⊎ NotMeasured w job c r
unfolding after_command
command_by_kind w job (load n s) r e = never _ r e
command_by_kind w job (tolerance d) r e = never _ r e
command_by_kind w job (pair i j) r e = pair_by_blobs w job i j r (job.loaded i) (job.loaded j) refl refl e

missing_refused : (w : Workspaces) (job : Job) (i j : ℕ) (x y : Option (List ℕ)) → (x ≡ None) ⊎ (y ≡ None) → matched w job i j x y ≡ stopped (no_side NoSuchBlob)
unfolding matched
missing_refused w job i j None y m = refl
missing_refused w job i j (Some a) None m = refl
missing_refused w job i j (Some a) (Some b) (inl e) = cc
missing_refused w job i j (Some a) (Some b) (inr e) = cc

kind_refused : (w : Workspaces) (job : Job) (c : Command) (r : Refusal) → NotLoaded job c r ⊎ NotMeasured w job c r → after_command w job c ≡ stopped r
unfolding after_command
kind_refused w job c r (inl n) = rw (n.command, n.number) (missing_refused w job n.first n.second _ _ n.missing)
kind_refused w job c r (inr n) = rw (n.command, n.loaded_one, n.loaded_other) ((measured_refused w job n.first n.second n.one n.other r).1 n.given)

-- End theorem: a command is refused exactly so, 21 before a measuring refusal
pub command_refused_exactly : (w : Workspaces) (job : Job) (c : Command) (r : Refusal) → (after_command w job c ≡ stopped r) ↔ (NotLoaded job c r ⊎ NotMeasured w job c r)
command_refused_exactly w job c r = (command_by_kind w job c r, kind_refused w job c r)

-- ---- the numbers of a measuring refusal: 1, or a side's

either : (x y : Option Refusal) (r : Refusal) → option_or x y ≡ Some r → (x ≡ Some r) ⊎ (y ≡ Some r)
either (Some t) y r e = inl e
either None y r e = inr e

first_of_both : (cs ds : List (Check Refusal)) (r : Refusal) → first_of (cs ++ ds) ≡ Some r → (first_of cs ≡ Some r) ⊎ (first_of ds ≡ Some r)
first_of_both cs ds r e = either (first_of cs) (first_of ds) r (sym (first_of_two cs ds) ∙ e)

sided_so : (side : Side) (x : Option Reason) (r : Refusal) → option_map (sided side) x ≡ Some r → r.side ≡ side
sided_so side (Some k) r e = cc
sided_so side None r e = cc

side_given : (side : Side) (cs : List (Check Reason)) (r : Refusal) → first_of (on_side side cs) ≡ Some r → r.side ≡ side
side_given side cs r e = sided_so side (first_of cs) r (sym (first_on_side side cs) ∙ e)

-- the next list of one side, or a later one
side_or_later : (side : Side) (cs : List (Check Reason)) (ds : List (Check Refusal)) (r : Refusal) → 0 < number_of_side side → (first_of ds ≡ Some r → 0 < number_of_side r.side) → first_of (on_side side cs ++ ds) ≡ Some r → 0 < number_of_side r.side
side_or_later side cs ds r h further e = ⊎_elim (λ x. rw (side_given side cs r x) h) further (first_of_both (on_side side cs) ds r e)

-- a list of side 1, then one of side 2
two_sides : (c d : List (Check Reason)) (r : Refusal) → first_of (on_side side-of.First c ++ on_side side-of.Second d) ≡ Some r → 0 < number_of_side r.side
two_sides c d r = side_or_later side-of.First c _ r (omega arith) (λ x. rw (side_given side-of.Second d r x) (omega arith))

bytes_given : (a b : List ℕ) (r : Refusal) → first_of (both_checks a b) ≡ Some r → 0 < number_of_side r.side
unfolding both_checks
bytes_given a b r = side_or_later side-of.First _ _ r (omega arith) (side_or_later side-of.Second _ _ r (omega arith) (two_sides _ _ r))

lent_given : (a b : List ℕ) (w : Workspaces) (r : Refusal) → first_of (lent_checks a b w) ≡ Some r → 0 < number_of_side r.side
unfolding operand_checks
lent_given a b w r e = ⊎_elim (bytes_given a b r) (two_sides _ _ r) (first_of_both (both_checks a b) _ r e)

-- by the tolerance, or by a side
pub measured_number : (w : Workspaces) (job : Job) (c : Command) (r : Refusal) → NotMeasured w job c r → (r ≡ no_side ToleranceBelowZero) ⊎ (0 < number_of_side r.side)
unfolding tolerance_checks rule_checks
measured_number w job c r n =
    let given : first_of (tolerance_checks job.limit ++ (rule_checks 1 ++ lent_checks n.one n.other w)) ≡ Some r = (given_exactly _ r).1 n.given in
    ⊎_elim (λ x. inl (by_tolerance (lt job.limit positive_zero) r (sym (first_of_one (no_side ToleranceBelowZero) (lt job.limit positive_zero)) ∙ x)))
    (λ x. ⊎_elim (λ y. cc (first_of_one (no_side UnknownRule) false)) (λ y. inr (lent_given n.one n.other w r y)) (first_of_both (rule_checks 1) (lent_checks n.one n.other w) r x))
    (first_of_both (tolerance_checks job.limit) (rule_checks 1 ++ lent_checks n.one n.other w) r given)
  where
    by_tolerance : (b : Bool) (r : Refusal) → cond b (Some (no_side ToleranceBelowZero)) None ≡ Some r → r ≡ no_side ToleranceBelowZero
    by_tolerance true r e = cc
    by_tolerance false r e = cc

hit_again : (job job' : Job) (i j : ℕ) (m : Matched) → after_match job i j m ≡ going job' → (new : List Hit) × (job'.hits ≡ job.hits ++ new) × (after_match job' i j m ≡ going (record { loaded = job'.loaded; limit = job'.limit; hits = job'.hits ++ new }))
unfolding after_match
hit_again job job' i j (Ok (Some d)) e = (record { first = i; second = j; apart = d } ∷ [], ap hits_so_far (sym e), refl)
hit_again job job' i j (Ok None) e = ([], ap hits_so_far (sym e) ∙ sym (append-nil job.hits), rw (append-nil job'.hits))
hit_again job job' i j (Err r) e = never job' r (sym e)

same_blobs : (job job' : Job) (i j : ℕ) (m : Matched) → after_match job i j m ≡ going job' → (job'.loaded ≡ job.loaded) × (job'.limit ≡ job.limit)
unfolding after_match
same_blobs job job' i j (Ok (Some d)) e = (ap loaded_so_far (sym e), ap limit_so_far (sym e))
same_blobs job job' i j (Ok None) e = (ap loaded_so_far (sym e), ap limit_so_far (sym e))
same_blobs job job' i j (Err r) e = never job' r (sym e)

-- "a pair matched twice gives two hits": what the first adds the second adds again
pub pair_twice : (w : Workspaces) (job job' : Job) (i j : ℕ) → after_command w job (pair i j) ≡ going job' → (new : List Hit) × (job'.hits ≡ job.hits ++ new) × (after_command w job' (pair i j) ≡ going (record { loaded = job'.loaded; limit = job'.limit; hits = job'.hits ++ new }))
unfolding after_command
pair_twice w job job' i j e =
    let once : after_match job i j (match_of w job.limit (job.loaded i) (job.loaded j)) ≡ going job' = sym (matched_is w job i j (job.loaded i) (job.loaded j)) ∙ e in
    let kept = same_blobs job job' i j _ once in
    let again = hit_again job job' i j _ once in
    let same : match_of w job'.limit (job'.loaded i) (job'.loaded j) ≡ match_of w job.limit (job.loaded i) (job.loaded j) = rw (kept.0, kept.1) in
    (again.0, again.1, matched_is w job' i j (job'.loaded i) (job'.loaded j) ∙ ap (after_match job' i j) same ∙ again.2)

-- the same of a tape with the pair's command twice in a row: it goes on with both
pub pair_twice_on_tape : (w : Workspaces) (job job' : Job) (tape next after : List ℕ) (i j : ℕ) → Starts tape (pair i j) next → Starts next (pair i j) after → after_command w job (pair i j) ≡ going job' → (new : List Hit) × (job'.hits ≡ job.hits ++ new) × (run_from w (going job) tape ≡ run_from w (going (record { loaded = job'.loaded; limit = job'.limit; hits = (job.hits ++ new) ++ new })) after)
pair_twice_on_tape w job job' tape next after i j one two e =
    let twice = pair_twice w job job' i j e in
    let first_step : run_from w (going job) tape ≡ run_from w (going job') next = run_command w tape (pair i j) next job one ∙ ap (λ (p : Progress). run_from w p next) e in
    let second-step : run_from w (going job') next ≡ run_from w (going (record { loaded = job'.loaded; limit = job'.limit; hits = job'.hits ++ twice.0 })) after = run_command w next (pair i j) after job' two ∙ ap (λ (p : Progress). run_from w p after) twice.2 in
    (twice.0, twice.1, first_step ∙ second-step ∙ ap (λ (l : List Hit). run_from w (going (record { loaded = job'.loaded; limit = job'.limit; hits = l ++ twice.0 })) after) twice.1)

-- "loading a number again replaces it"
pub load_replaces : (w : Workspaces) (job : Job) (n : ℕ) (s t : List ℕ) → foldl (stepped w) (going job) (load n s ∷ load n t ∷ []) ≡ foldl (stepped w) (going job) (load n t ∷ [])
unfolding stepped after_command loaded_with
load_replaces w job n s t = ap (λ (l : ℕ → Option (List ℕ)). going (record { loaded = l; limit = job.limit; hits = job.hits })) (fun_ext (λ (k : ℕ). later_one (eqb k n) (job.loaded k)))
  where
    later_one : (same : Bool) (x : Option (List ℕ)) → cond same (Some t) (cond same (Some s) x) ≡ cond same (Some t) x
    later_one true x = refl
    later_one false x = refl

-- ---- a job

-- a command is met by a job that goes on, and refused
pub record RefusedIn (w : Workspaces) (job : Job) (commands : List Command) (r : Refusal) : Type 0 where
  pub earlier : List Command
  pub command : Command
  pub later : List Command
  pub reached : Job
  pub in_order : commands ≡ earlier ++ (command ∷ later)
  pub goes_on : foldl (stepped w) (going job) earlier ≡ going reached
  pub gives : after_command w reached command ≡ stopped r

refused_next : (w : Workspaces) (job : Job) (c : Command) (cs : List Command) (r : Refusal) (p : Progress) → after_command w job c ≡ p → ((next : Job) → foldl (stepped w) (going next) cs ≡ stopped r → RefusedIn w next cs r) → foldl (stepped w) p cs ≡ stopped r → RefusedIn w job (c ∷ cs) r
unfolding stepped
refused_next w job c cs r (going next) is further e =
    let found = further next e in
    record {
      earlier = c ∷ found.earlier;
      command = found.command;
      later = found.later;
      reached = found.reached;
      in_order = ap {B = List Command} (λ l. c ∷ l) found.in_order;
      goes_on = rw is found.goes_on;
      gives = found.gives;
    }
refused_next w job c cs r (stopped q) is further e =
    record { earlier = []; command = c; later = cs; reached = job; in_order = refl; goes_on = refl; gives = is ∙ sym (stays_stopped w q cs) ∙ e }

command_refused : (w : Workspaces) (job : Job) (cs : List Command) (r : Refusal) → foldl (stepped w) (going job) cs ≡ stopped r → RefusedIn w job cs r
unfolding stepped
command_refused w job [] r e = never job r e
command_refused w job (c ∷ cs) r e = refused_next w job c cs r (after_command w job c) refl (λ (next : Job). command_refused w next cs r) e

refused_there : (w : Workspaces) (job : Job) (cs : List Command) (r : Refusal) → RefusedIn w job cs r → foldl (stepped w) (going job) cs ≡ stopped r
unfolding stepped
refused_there w job cs r found = rw (found.in_order, foldl-append (stepped w) (going job) found.earlier (found.command ∷ found.later), found.goes_on, found.gives) (stays_stopped w r found.later)

-- 20: all commands are taken, and the tape breaks
pub record Broken (w : Workspaces) (tape : List ℕ) (r : Refusal) : Type 0 where
  pub reached : Job
  pub goes_on : foldl (stepped w) (going start_of_job) (commands_of (tape_of tape)) ≡ going reached
  pub broken : is_broken (tape_of tape) ≡ true
  pub number : r ≡ no_side BrokenTape

-- 22: all commands are taken, the tape ends, and there are more hits than places
pub record TooMany (w : Workspaces) (tape : List ℕ) (room : ℕ) (r : Refusal) : Type 0 where
  pub reached : Job
  pub goes_on : foldl (stepped w) (going start_of_job) (commands_of (tape_of tape)) ≡ going reached
  pub ended : is_broken (tape_of tape) ≡ false
  pub more : room < length reached.hits
  pub number : r ≡ no_side ListsTooShort

module _ (w : Workspaces) (tape : List ℕ) (room : ℕ) (r : Refusal) where
  by_room : (job : Job) → foldl (stepped w) (going start_of_job) (commands_of (tape_of tape)) ≡ going job → is_broken (tape_of tape) ≡ false → (over : Bool) → ltb room (length job.hits) ≡ over → cond over (stopped (no_side ListsTooShort)) (going job) ≡ stopped r → TooMany w tape room r
  by_room job taken whole true o e = record { reached = job; goes_on = taken; ended = whole; more = ltb-true _ _ o; number = cc }
  by_room job taken whole false o e = never job r e

  by_end : (job : Job) → foldl (stepped w) (going start_of_job) (commands_of (tape_of tape)) ≡ going job → (broken : Bool) → is_broken (tape_of tape) ≡ broken → if_room room (at_tape_end broken (going job)) ≡ stopped r → Broken w tape r ⊎ TooMany w tape room r
  unfolding if_room at_tape_end
  by_end job taken true b e = inl (record { reached = job; goes_on = taken; broken = b; number = cc })
  by_end job taken false b e = inr (by_room job taken b (ltb room (length job.hits)) refl e)

  end_stays : (broken : Bool) (q : Refusal) → if_room room (at_tape_end broken (stopped q)) ≡ stopped q
  unfolding if_room at_tape_end
  end_stays true q = refl
  end_stays false q = refl

  by_commands : (p : Progress) → foldl (stepped w) (going start_of_job) (commands_of (tape_of tape)) ≡ p → if_room room (at_tape_end (is_broken (tape_of tape)) p) ≡ stopped r → RefusedIn w start_of_job (commands_of (tape_of tape)) r ⊎ (Broken w tape r ⊎ TooMany w tape room r)
  by_commands (going job) taken e = inr (by_end job taken (is_broken (tape_of tape)) refl e)
  by_commands (stopped q) taken e = inl (command_refused w start_of_job (commands_of (tape_of tape)) r (taken ∙ sym (end_stays (is_broken (tape_of tape)) q) ∙ e))

  back : RefusedIn w start_of_job (commands_of (tape_of tape)) r ⊎ (Broken w tape r ⊎ TooMany w tape room r) → job_of tape w room ≡ stopped r
  unfolding job_of if_room at_tape_end
  back (inl found) = rw (refused_there w start_of_job (commands_of (tape_of tape)) r found) (end_stays (is_broken (tape_of tape)) r)
  back (inr (inl found)) = rw (found.goes_on, found.broken, found.number)
  back (inr (inr found)) = rw (found.goes_on, found.ended, lt-ltb room (length found.reached.hits) found.more, found.number)

  -- End theorem: in tape order, 20 after the commands before the break, 22 after all
  pub refused_exactly : (job_of tape w room ≡ stopped r) ↔ (RefusedIn w start_of_job (commands_of (tape_of tape)) r ⊎ (Broken w tape r ⊎ TooMany w tape room r))
  unfolding job_of
  refused_exactly = (by_commands (foldl (stepped w) (going start_of_job) (commands_of (tape_of tape))) refl, back)

-- ---- by number

apart_by_reason : {A : Type 0} (m n : Reason) → (m ≡ n → ⊥) → no_side m ≡ no_side n → A
apart_by_reason m n differ e = absurd (differ (ap (λ (r : Refusal). r.reason) e))

never_neither : 0 < 0 → ⊥
never_neither h = omega arith

-- what a command gives is 21, 1 or a side's
command_number : (w : Workspaces) (job : Job) (c : Command) (n : Reason) → (n ≡ ToleranceBelowZero → ⊥) → after_command w job c ≡ stopped (no_side n) → NotLoaded job c (no_side n)
command_number w job c n not-one e =
    ⊎_elim (λ l. l) (λ m. ⊎_elim (apart_by_reason n ToleranceBelowZero not-one) (λ h. absurd (never_neither h)) (measured_number w job c (no_side n) m)) ((command_refused_exactly w job c (no_side n)).0 e)

no_measuring : {A : Type 0} (r : Refusal) (n : Reason) → (n ≡ ToleranceBelowZero → ⊥) → (r ≡ no_side ToleranceBelowZero) ⊎ (0 < number_of_side r.side) → r ≡ no_side n → A
no_measuring r n not-one (inl one) e = apart_by_reason n ToleranceBelowZero not-one (sym e ∙ one)
no_measuring r n not-one (inr side) e = absurd (never_neither (rw (ap (λ (x : Refusal). x.side) e) at side))

module _ (w : Workspaces) (tape : List ℕ) (room : ℕ) where
  -- 20 exactly where all commands before the break are taken
  pub refused_20_exactly : (job_of tape w room ≡ stopped (no_side BrokenTape)) ↔ Broken w tape (no_side BrokenTape)
  refused_20_exactly = (
    λ e. ⊎_elim (λ f. apart_by_reason BrokenTape NoSuchBlob (λ h. cc) (command_number w f.reached f.command BrokenTape (λ h. cc) f.gives).number)
        (λ o. ⊎_elim (λ b. b) (λ t. apart_by_reason BrokenTape ListsTooShort (λ h. cc) t.number) o) ((refused_exactly w tape room (no_side BrokenTape)).0 e),
    λ b. (refused_exactly w tape room (no_side BrokenTape)).1 (inr (inl b)),
  )

  -- 22 exactly where the tape is accepted and has more hits than places
  pub refused_22_exactly : (job_of tape w room ≡ stopped (no_side ListsTooShort)) ↔ TooMany w tape room (no_side ListsTooShort)
  refused_22_exactly = (
    λ e. ⊎_elim (λ f. apart_by_reason ListsTooShort NoSuchBlob (λ h. cc) (command_number w f.reached f.command ListsTooShort (λ h. cc) f.gives).number)
        (λ o. ⊎_elim (λ b. apart_by_reason ListsTooShort BrokenTape (λ h. cc) b.number) (λ t. t) o) ((refused_exactly w tape room (no_side ListsTooShort)).0 e),
    λ t. (refused_exactly w tape room (no_side ListsTooShort)).1 (inr (inr t)),
  )

  -- 21 exactly where the first command that is refused has a number not loaded
  pub refused_21_exactly : (job_of tape w room ≡ stopped (no_side NoSuchBlob)) ↔ ((f : RefusedIn w start_of_job (commands_of (tape_of tape)) (no_side NoSuchBlob)) × NotLoaded f.reached f.command (no_side NoSuchBlob))
  refused_21_exactly = (
    λ e. ⊎_elim (λ f. (f, command_number w f.reached f.command NoSuchBlob (λ h. cc) f.gives))
        (λ o. ⊎_elim (λ b. apart_by_reason NoSuchBlob BrokenTape (λ h. cc) b.number) (λ t. apart_by_reason NoSuchBlob ListsTooShort (λ h. cc) t.number) o) ((refused_exactly w tape room (no_side NoSuchBlob)).0 e),
    λ f. (refused_exactly w tape room (no_side NoSuchBlob)).1 (inl f.0),
  )

  -- a measuring number exactly where the first command that is refused is a pair whose distance is refused so
  pub measuring_exactly : (r : Refusal) → (r ≡ no_side ToleranceBelowZero) ⊎ (0 < number_of_side r.side) → (job_of tape w room ≡ stopped r) ↔ ((f : RefusedIn w start_of_job (commands_of (tape_of tape)) r) × NotMeasured w f.reached f.command r)
  measuring_exactly r kind = (
    λ e. ⊎_elim (λ f. (f, ⊎_elim (λ l. no_measuring r NoSuchBlob (λ h. cc) kind l.number) (λ m. m) ((command_refused_exactly w f.reached f.command r).0 f.gives)))
        (λ o. ⊎_elim (λ b. no_measuring r BrokenTape (λ h. cc) kind b.number) (λ t. no_measuring r ListsTooShort (λ h. cc) kind t.number) o) ((refused_exactly w tape room r).0 e),
    λ f. (refused_exactly w tape room r).1 (inl f.0),
  )

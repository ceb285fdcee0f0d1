-- `try_root` meets its contract. Assumes nothing.
use Prim.Native.Nat.{◌/◌, ◌%◌}
use Rattle.ieee754.proofs.TrialSquare.{halves, trial_holds, trial_high, trial_far, trial_low, trial_rest}
use Rattle.ieee754.proofs.try_root.Goals as goal
use Rattle.ieee754.proofs.try_root.Goals.{then-top-hi-via-then-top-hi, then-top-hi-via-else-top-hi+then-top-hi-ge8, then-left-lo-via-then-left-lo, then-left-lo-via-else-left-lo+then-q-left}

pub returns-then-top-hi : goal.returns-then-top-hi
returns-then-top-hi c =
    let q = c.args.q in
    let parts = halves q c.requires in
    elim c.then-top-hi.branch [ then-top-hi-via-then-top-hi w ↦ trial_high c.args.m.digits q (q / 134217728) (q % 134217728) c.requires parts w.if-top-hi.true | then-top-hi-via-else-top-hi+then-top-hi-ge8 w ↦ trial_far c.args.m.digits q (q / 134217728) (q % 134217728) c.requires parts w.if-top-hi.false w.if-top-hi-ge8.true ]

pub returns-then-left-lo : goal.returns-then-left-lo
returns-then-left-lo c =
    let q = c.args.q in
    let parts = halves q c.requires in
    elim c.then-left-lo.branch [ then-left-lo-via-then-left-lo w ↦ trial_low c.args.m.digits q (q / 134217728) (q % 134217728) c.requires parts c.if-top-hi.false w.if-left-lo.true | then-left-lo-via-else-left-lo+then-q-left w ↦ trial_rest c.args.m.digits q (q / 134217728) (q % 134217728) c.requires parts c.if-top-hi.false w.if-left-lo.false w.if-q-left.true ]

pub returns : goal.returns
returns c =
    let q = c.args.q in
    trial_holds c.args.m.digits q (q / 134217728) (q % 134217728) c.requires (halves q c.requires) c.if-top-hi.false c.if-left-lo.false c.if-q-left.false

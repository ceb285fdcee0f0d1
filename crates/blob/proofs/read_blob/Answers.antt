-- `blob::read_blob` answers by the bytes' checks, the room and the filling pass. Assumes nothing.
use mathlib.Core.Path.{sym, ◌∙◌}
use Rattle.std.proofs.lemmas.Result.{err_from_is_err_and}
use Rattle.blob.proofs.Outcome.{outcome_refused, outcome_short, room, outcome_read, room_refused, room_there}
use Rattle.blob.proofs.read_blob.Goals as goal

pub returns-in_err-o : goal.returns-in_err-o
returns-in_err-o c =
    let p = err_from_is_err_and c.from_residual.result c.from_residual.ensures.1 in
    rw (p.1, p.2) (outcome_refused c.args.s.now _ (sym c.check_bytes.ensures ∙ c.in_err-o.was) c.args.floats.now c.args.table.now)

pub returns-in_err-check_room : goal.returns-in_err-check_room
returns-in_err-check_room c =
    let p = err_from_is_err_and c.from_residual-in_err-check_room.result c.from_residual-in_err-check_room.ensures.1 in
    let r = room_refused c.in_ok-o.o _ _ (sym c.check_room.ensures ∙ c.in_err-check_room.was) in
    rw (p.1, p.2, r.1) (outcome_short c.args.s.now c.in_ok-o.o (sym c.check_bytes.ensures ∙ c.in_ok-o.was) c.args.floats.now c.args.table.now r.0)

pub fill-requires : goal.fill-requires
fill-requires c =
    room c.args.s.now c.in_ok-o.o (sym c.check_bytes.ensures ∙ c.in_ok-o.was) c.args.floats.now c.args.table.now (room_there c.in_ok-o.o _ _ (sym c.check_room.ensures ∙ c.in_ok-check_room.was))

pub returns : goal.returns
returns c =
    outcome_read c.args.s.now c.in_ok-o.o (sym c.check_bytes.ensures ∙ c.in_ok-o.was) c.args.floats.now c.args.table.now (room_there c.in_ok-o.o _ _ (sym c.check_room.ensures ∙ c.in_ok-check_room.was)) _ _ c.fill.ensures

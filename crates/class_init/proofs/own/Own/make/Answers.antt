-- What was begun is the first state.
use Rattle.class_init.proofs.FirstState.{first_rooms, first_state}
use Rattle.class_init.proofs.own.Own.make.Goals as goal

pub returns-clause-state : goal.returns-clause-state
returns-clause-state c =
    let begun = c.in_ok-begun.begun in
    rw c.in_ok-own.ensures
    (first_state c.args.t.now c.args.names.now begun.classes begun.texts c.in_ok-begun.ensures (rw c.in_ok-own.ensures at c.holds.ensures.classes))

pub returns-clause-rooms : goal.returns-clause-rooms
returns-clause-rooms c =
    let begun = c.in_ok-begun.begun in
    rw c.in_ok-own.ensures
    (first_rooms c.args.t.now c.args.names.now begun.classes begun.texts c.in_ok-begun.ensures (rw c.in_ok-own.ensures at c.holds.ensures.rooms))

-- What was begun is a state, and the texts of the images have rooms too.
use Rattle.class_init.proofs.FirstState.{begun_rooms, begun_state, images_known, texts_stay}
use Rattle.class_init.proofs.own.Own.knowing.Goals as goal

pub returns-clause-state : goal.returns-clause-state
returns-clause-state c =
    let begun = c.in_ok-begun.begun in
    rw c.in_ok-own.ensures
    (begun_state c.args.t.now c.args.names.now begun.classes begun.texts c.in_ok-begun.ensures (rw c.in_ok-own.ensures at c.holds.ensures.classes))

pub returns-clause-rooms : goal.returns-clause-rooms
returns-clause-rooms c =
    let begun = c.in_ok-begun.begun in
    let more = c.add_images.new.texts in
    rw c.in_ok-own.ensures
    (begun_rooms c.args.t.now c.args.names.now begun.classes begun.texts more c.in_ok-begun.ensures
    (texts_stay c.args.images.now begun.texts more c.in_ok-add_images.ensures) (rw c.in_ok-own.ensures at c.holds.ensures.rooms))

pub returns-clause-known : goal.returns-clause-known
returns-clause-known c =
    rw c.in_ok-own.ensures (images_known c.args.images.now c.in_ok-begun.begun.texts c.add_images.new.texts c.in_ok-add_images.ensures)

-- The hidden text itself is answered, and a new empty one in the place of null.
use Rattle.jk_model.specs.declared.values.Value.TheVariants as Held
use Rattle.system_calls.proofs.BufferRows.{empty_answered, empty_has_no_room, text_answered}
use Rattle.system_calls.proofs.TextRows.{same_self}
use Rattle.system_calls.proofs.buffers.buffer_text.Goals as goal

pub returns-in-Some : goal.returns-in-Some
returns-in-Some g c =
    text_answered (g.H.ObjectStore.content c.args.heap.now) (g.H.ObjectStore.content c.args.heap.now) c.args.t.now c.args.d c.requires.ready
    (g.met.H.ObjectStore.holds c.args.heap.now) (Held.Obj c.args.buffer) c.requires.given.0 c.in-Some.text (c.in-Some.ensures c.requires.given.0)
    (same_self (g.H.ObjectStore.content c.args.heap.now))

pub returns-in-Ok : goal.returns-in-Ok
returns-in-Ok g c =
    empty_answered (g.H.ObjectStore.content c.args.heap.now) (g.H.ObjectStore.content c.make.new.self) c.args.t.now c.args.d c.requires.ready
    (g.met.H.ObjectStore.holds c.args.heap.now) (Held.Obj c.args.buffer) c.requires.given.0 c.in-Ok.a (c.in_default.ensures c.requires.given.0)
    c.in-Ok.ensures.ok c.in-Ok.ensures.room

pub returns-in-Err : goal.returns-in-Err
returns-in-Err g c =
    empty_has_no_room (g.H.ObjectStore.content c.args.heap.now) (g.H.ObjectStore.content c.make.new.self) c.args.t.now c.args.d c.requires.ready
    (g.met.H.ObjectStore.holds c.args.heap.now) (Held.Obj c.args.buffer) c.requires.given.0 (c.in_default.ensures c.requires.given.0)
    c.in-Err.ensures.err c.in-Err.ensures.no_room

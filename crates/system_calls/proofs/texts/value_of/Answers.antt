-- What the value reads as is the new text.
use Rattle.std.proofs.Common.{[], refl}
use Rattle.system_calls.proofs.TextRows.{written_has_no_room, written_is_answered}
use Rattle.system_calls.proofs.texts.value_of.Goals as goal

pub returns-in-Ok : goal.returns-in-Ok
returns-in-Ok g c =
    let text = c.requires.given.0 in
    let words = c.wording_of.ensures ((g.H.ObjectStore.content c.args.heap.now).heap c.args.d) c.requires.given.0 c.requires.given.1 in
    written_is_answered (g.H.ObjectStore.content c.args.heap.now) (g.H.ObjectStore.content c.joined.new.heap) c.args.t.now c.args.d c.requires.ready
    (g.met.H.ObjectStore.holds c.args.heap.now) c.args.shown c.args.v
    c.requires.given.0 c.requires.given.1 c.in-Ok.a (c.in-Ok.ensures.ok [] c.requires.given.0 refl words)
    (c.in-Ok.ensures.room [] c.requires.given.0 refl words)

pub returns-in-Err : goal.returns-in-Err
returns-in-Err g c =
    let words = c.wording_of.ensures ((g.H.ObjectStore.content c.args.heap.now).heap c.args.d) c.requires.given.0 c.requires.given.1 in
    written_has_no_room (g.H.ObjectStore.content c.args.heap.now) (g.H.ObjectStore.content c.joined.new.heap) c.args.t.now c.args.d c.requires.ready
    (g.met.H.ObjectStore.holds c.args.heap.now) c.args.shown c.args.v
    c.requires.given.0 c.requires.given.1 c.in-Err.ensures.err (c.in-Err.ensures.no_room [] c.requires.given.0 refl words)

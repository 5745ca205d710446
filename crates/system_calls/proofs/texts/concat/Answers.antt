-- The new text is the answer, where the heap has room for it.
use Rattle.system_calls.proofs.TextRows.{joined_is_answered, text_of_object}
use Rattle.system_calls.proofs.texts.concat.Goals as goal

pub returns-in-Ok : goal.returns-in-Ok
returns-in-Ok g c =
    let other = text_of_object ((g.H.ObjectStore.content c.args.heap.now).heap c.args.d) c.args.v c.in-Obj.other c.in-Obj.is c.requires.given.1 in
    joined_is_answered (g.H.ObjectStore.content c.args.heap.now) (g.H.ObjectStore.content c.joined.new.heap) c.args.t.now c.args.d c.requires.ready
    (g.met.H.ObjectStore.holds c.args.heap.now) c.args.text c.in-Obj.other
    c.in-Ok.a c.requires.given.0.0 other.0 c.args.v c.in-Obj.is c.requires.given.0.1 other.1
    (c.in-Ok.ensures.ok c.requires.given.0.0 other.0 c.requires.given.0.1 other.1)
    (c.in-Ok.ensures.room c.requires.given.0.0 other.0 c.requires.given.0.1 other.1)

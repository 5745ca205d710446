-- A new text is joined, and takes the place of the hidden one.
use Rattle.std.proofs.Common.{◌++◌, refl}
use Rattle.jk_model.specs.declared.values.Value.TheVariants as Held
use Rattle.system_calls.proofs.BufferRows.{appended, not_appended}
use Rattle.system_calls.proofs.HiddenRows.{front_of_hidden, holds_made, kept_made, moved, new_text_named, ready_made}
use Rattle.system_calls.proofs.buffers.append.Goals as goal

pub joined-requires-clause-front : goal.joined-requires-clause-front
joined-requires-clause-front g c = (
  c.requires.given.0.1,
  (front_of_hidden ((g.H.ObjectStore.content c.args.heap.now).heap c.args.d)
      c.requires.given.0.0.text c.hidden-front.result c.requires.given.0.1 (c.hidden-front.ensures c.requires.given.0.0) c.requires.given.0.2),
)

pub set_hidden-requires-clause-ready : goal.set_hidden-requires-clause-ready
set_hidden-requires-clause-ready g c =
    ready_made (g.H.ObjectStore.content c.args.heap.now) (g.H.ObjectStore.content c.joined.new.heap) c.args.t.now c.args.d c.requires.ready
    c.in-Ok.a (c.requires.given.0.1 ++ c.requires.given.1.0)
    (c.in-Ok.ensures.ok c.requires.given.0.1 c.requires.given.1.0 (front_of_hidden ((g.H.ObjectStore.content c.args.heap.now).heap c.args.d)
    c.requires.given.0.0.text c.hidden-front.result c.requires.given.0.1 (c.hidden-front.ensures c.requires.given.0.0) c.requires.given.0.2)
    (c.wording_of.ensures ((g.H.ObjectStore.content c.args.heap.now).heap c.args.d) c.requires.given.1.0 c.requires.given.1.1))

pub set_hidden-requires-clause-holds : goal.set_hidden-requires-clause-holds
set_hidden-requires-clause-holds g c =
    holds_made (g.H.ObjectStore.content c.args.heap.now) (g.H.ObjectStore.content c.joined.new.heap) c.args.t.now c.args.d c.requires.ready
    c.in-Ok.a (c.requires.given.0.1 ++ c.requires.given.1.0)
    (c.in-Ok.ensures.ok c.requires.given.0.1 c.requires.given.1.0 (front_of_hidden ((g.H.ObjectStore.content c.args.heap.now).heap c.args.d)
    c.requires.given.0.0.text c.hidden-front.result c.requires.given.0.1 (c.hidden-front.ensures c.requires.given.0.0) c.requires.given.0.2)
    (c.wording_of.ensures ((g.H.ObjectStore.content c.args.heap.now).heap c.args.d) c.requires.given.1.0 c.requires.given.1.1)) (Held.Obj
    c.args.buffer) c.requires.given.0

pub set_hidden-requires-clause-text : goal.set_hidden-requires-clause-text
set_hidden-requires-clause-text g c =
    new_text_named (g.H.ObjectStore.content c.args.heap.now) (g.H.ObjectStore.content c.joined.new.heap) c.args.t.now c.args.d c.requires.ready
    c.in-Ok.a (c.requires.given.0.1 ++ c.requires.given.1.0)
    (c.in-Ok.ensures.ok c.requires.given.0.1 c.requires.given.1.0 (front_of_hidden ((g.H.ObjectStore.content c.args.heap.now).heap c.args.d)
    c.requires.given.0.0.text c.hidden-front.result c.requires.given.0.1 (c.hidden-front.ensures c.requires.given.0.0) c.requires.given.0.2)
    (c.wording_of.ensures ((g.H.ObjectStore.content c.args.heap.now).heap c.args.d) c.requires.given.1.0 c.requires.given.1.1))

pub returns-in-Ok : goal.returns-in-Ok
returns-in-Ok g c =
    appended (g.H.ObjectStore.content c.args.heap.now) (g.H.ObjectStore.content c.set_hidden.new.heap) c.args.t.now c.args.d c.requires.ready
    (g.met.H.ObjectStore.holds c.args.heap.now) (Held.Obj c.args.buffer) c.requires.given.0.0
    (g.H.ObjectStore.content c.joined.new.heap) (g.met.H.ObjectStore.holds c.joined.new.heap) c.in-Ok.a (c.requires.given.0.1 ++ c.requires.given.1.0)
    (c.in-Ok.ensures.ok c.requires.given.0.1 c.requires.given.1.0 (front_of_hidden ((g.H.ObjectStore.content c.args.heap.now).heap c.args.d)
    c.requires.given.0.0.text c.hidden-front.result c.requires.given.0.1 (c.hidden-front.ensures c.requires.given.0.0) c.requires.given.0.2)
    (c.wording_of.ensures ((g.H.ObjectStore.content c.args.heap.now).heap c.args.d) c.requires.given.1.0 c.requires.given.1.1))
    (c.set_hidden.ensures (moved ((g.H.ObjectStore.content c.args.heap.now).heap c.args.d) ((g.H.ObjectStore.content c.joined.new.heap).heap
    c.args.d) (Held.Obj c.args.buffer)
    (kept_made (g.H.ObjectStore.content c.args.heap.now) (g.H.ObjectStore.content c.joined.new.heap) c.args.t.now c.args.d c.requires.ready
    c.in-Ok.a (c.requires.given.0.1 ++ c.requires.given.1.0)
    (c.in-Ok.ensures.ok c.requires.given.0.1 c.requires.given.1.0 (front_of_hidden ((g.H.ObjectStore.content c.args.heap.now).heap c.args.d)
    c.requires.given.0.0.text c.hidden-front.result c.requires.given.0.1 (c.hidden-front.ensures c.requires.given.0.0) c.requires.given.0.2)
    (c.wording_of.ensures ((g.H.ObjectStore.content c.args.heap.now).heap c.args.d) c.requires.given.1.0 c.requires.given.1.1)))
    c.requires.given.0.0))
    (c.in-Ok.ensures.room c.requires.given.0.1 c.requires.given.1.0 (front_of_hidden ((g.H.ObjectStore.content c.args.heap.now).heap c.args.d)
    c.requires.given.0.0.text c.hidden-front.result c.requires.given.0.1 (c.hidden-front.ensures c.requires.given.0.0) c.requires.given.0.2)
    (c.wording_of.ensures ((g.H.ObjectStore.content c.args.heap.now).heap c.args.d) c.requires.given.1.0 c.requires.given.1.1))
    c.args.shown c.args.v c.requires.given.0.1 c.requires.given.1.0 c.requires.given.0.2 c.requires.given.1.1 refl

pub returns-in-Err : goal.returns-in-Err
returns-in-Err g c =
    not_appended (g.H.ObjectStore.content c.args.heap.now) (g.H.ObjectStore.content c.joined.new.heap) c.args.t.now c.args.d c.requires.ready
    (g.met.H.ObjectStore.holds c.args.heap.now) (Held.Obj c.args.buffer) c.requires.given.0.0
    c.args.shown c.args.v c.requires.given.0.1 c.requires.given.1.0 c.requires.given.0.2 c.requires.given.1.1 c.in-Err.ensures.err
    (c.in-Err.ensures.no_room c.requires.given.0.1 c.requires.given.1.0 (front_of_hidden ((g.H.ObjectStore.content c.args.heap.now).heap c.args.d)
    c.requires.given.0.0.text c.hidden-front.result c.requires.given.0.1 (c.hidden-front.ensures c.requires.given.0.0) c.requires.given.0.2)
    (c.wording_of.ensures ((g.H.ObjectStore.content c.args.heap.now).heap c.args.d) c.requires.given.1.0 c.requires.given.1.1))

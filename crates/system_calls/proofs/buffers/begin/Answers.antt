-- A new empty text is made, and takes the place of the hidden one.
use Rattle.std.proofs.Common.{[], refl}
use Rattle.jk_model.specs.declared.values.Value.TheVariants as Held
use Rattle.system_calls.proofs.BufferRows.{begun}
use Rattle.system_calls.proofs.HiddenRows.{holds_made, kept_made, moved, new_text_named, ready_made}
use Rattle.system_calls.proofs.buffers.begin.Goals as goal

pub set_hidden-requires-clause-ready : goal.set_hidden-requires-clause-ready
set_hidden-requires-clause-ready g c = ready_made (g.H.ObjectStore.content c.args.heap.now) (g.H.ObjectStore.content c.make.new.self) c.args.t.now
    c.args.d c.requires.ready c.in-Ok.a [] c.in-Ok.ensures.ok

pub set_hidden-requires-clause-holds : goal.set_hidden-requires-clause-holds
set_hidden-requires-clause-holds g c = holds_made (g.H.ObjectStore.content c.args.heap.now) (g.H.ObjectStore.content c.make.new.self) c.args.t.now
    c.args.d c.requires.ready c.in-Ok.a [] c.in-Ok.ensures.ok (Held.Obj c.args.buffer) c.requires.given

pub set_hidden-requires-clause-text : goal.set_hidden-requires-clause-text
set_hidden-requires-clause-text g c = new_text_named (g.H.ObjectStore.content c.args.heap.now) (g.H.ObjectStore.content c.make.new.self)
    c.args.t.now c.args.d c.requires.ready c.in-Ok.a [] c.in-Ok.ensures.ok

pub returns-in-Ok : goal.returns-in-Ok
returns-in-Ok g c =
    begun (g.H.ObjectStore.content c.args.heap.now) (g.H.ObjectStore.content c.set_hidden.new.heap) c.args.t.now c.args.d c.requires.ready
    (g.met.H.ObjectStore.holds c.args.heap.now) (Held.Obj c.args.buffer) c.requires.given.0
    (g.H.ObjectStore.content c.make.new.self) (g.met.H.ObjectStore.holds c.make.new.self) c.in-Ok.a [] c.in-Ok.ensures.ok
    (c.set_hidden.ensures (moved ((g.H.ObjectStore.content c.args.heap.now).heap c.args.d) ((g.H.ObjectStore.content c.make.new.self).heap c.args.d)
    (Held.Obj c.args.buffer)
    (kept_made (g.H.ObjectStore.content c.args.heap.now) (g.H.ObjectStore.content c.make.new.self) c.args.t.now c.args.d c.requires.ready c.in-Ok.a
    [] c.in-Ok.ensures.ok) c.requires.given.0)) c.in-Ok.ensures.room refl

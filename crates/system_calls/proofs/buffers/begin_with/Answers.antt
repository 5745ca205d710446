-- The text that is given takes the place of the hidden one.
use Rattle.jk_model.specs.declared.values.Value.TheVariants as Held
use Rattle.system_calls.proofs.BufferRows.{begun_with}
use Rattle.system_calls.proofs.buffers.begin_with.Goals as goal

pub returns-in_default : goal.returns-in_default
returns-in_default g c =
    begun_with (g.H.ObjectStore.content c.args.heap.now) (g.H.ObjectStore.content c.set_hidden.new.heap) c.args.t.now c.args.d c.requires.ready
    (g.met.H.ObjectStore.holds c.args.heap.now) (Held.Obj c.args.buffer) c.requires.given.0.0 c.args.v
    (c.set_hidden.ensures c.requires.given.0.0) c.in_default.not-Null

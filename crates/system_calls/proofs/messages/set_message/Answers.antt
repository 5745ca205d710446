-- The message takes the place of the hidden text.
use Rattle.jk_model.specs.declared.values.Value.TheVariants as Held
use Rattle.system_calls.proofs.BufferRows.{message_set}
use Rattle.system_calls.proofs.messages.set_message.Goals as goal

pub returns : goal.returns
returns g c =
    message_set (g.H.ObjectStore.content c.args.heap.now) (g.H.ObjectStore.content c.set_hidden.new.heap) c.args.t.now c.args.d c.requires.ready
    (g.met.H.ObjectStore.holds c.args.heap.now) (Held.Obj c.args.throwable) c.requires.given.0.0 c.args.v
    (c.set_hidden.ensures c.requires.given.0.0)

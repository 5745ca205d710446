-- The hidden text is the message.
use Rattle.jk_model.specs.declared.values.Value.TheVariants as Held
use Rattle.system_calls.proofs.BufferRows.{message_found}
use Rattle.system_calls.proofs.messages.message.Goals as goal

pub returns-in-Some : goal.returns-in-Some
returns-in-Some g c =
    message_found (g.H.ObjectStore.content c.args.heap.now) c.args.d (Held.Obj c.args.throwable) c.requires.given.0 (Held.Obj c.in-Some.text)
    (c.in-Some.ensures c.requires.given.0)

pub returns-in-None : goal.returns-in-None
returns-in-None g c = message_found (g.H.ObjectStore.content c.args.heap.now) c.args.d (Held.Obj c.args.throwable) c.requires.given.0 Held.Null
    (c.in-None.ensures c.requires.given.0)

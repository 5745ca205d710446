-- The new text has zeros, and all of them are written over.
use Rattle.std.proofs.Common.{length}
use Rattle.object_store.proofs.ObjectsWritten.{live_made}
use Rattle.heap_loops.proofs.UnitsSoFar.{text_made, zeros}
use Rattle.system_calls.proofs.BytesWritten.{has_zeros}
use Rattle.system_calls.proofs.own_domain.make_ascii.Goals as goal

pub write_bytes-requires : goal.write_bytes-requires
write_bytes-requires g c =
    has_zeros (g.H.ObjectStore.content c.make.new.self) c.args.d c.in_ok-a.a (length c.args.bytes.now)
    (live_made (g.H.ObjectStore.content c.args.heap.now) (g.H.ObjectStore.content c.make.new.self) c.args.t.now c.args.d c.in_ok-a.a
    (zeros (length c.args.bytes.now)) c.in_ok-a.ensures.ok)

pub returns-clause-ok : goal.returns-clause-ok
returns-clause-ok g c =
    text_made (g.H.ObjectStore.content c.args.heap.now) (g.H.ObjectStore.content c.make.new.self)
    (g.H.ObjectStore.content c.write_bytes.new.heap) c.args.t.now c.args.d c.in_ok-a.a c.args.bytes.now c.in_ok-a.ensures.ok
    c.write_bytes.ensures

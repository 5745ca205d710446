-- So many bytes are written.
use Rattle.system_calls.proofs.BytesWritten.{WrittenSoFar}
use Rattle.system_calls.proofs.own_domain.write_bytes.Given as goal

abbrev pub invariant-loop-i : goal.invariant-loop-i
invariant-loop-i g l = WrittenSoFar (g.H.ObjectStore.content l.fn.heap) (g.H.ObjectStore.content l.heap) l.d l.a l.bytes l.i

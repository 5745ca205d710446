-- So many units of the text are in the buffer.
use Rattle.std.proofs.Common.{◌≡◌, ℕ, List, take, drop}
use Rattle.jk_model_domains.specs.Objects.{Text}
use Rattle.object_store.specs.HeapContents.{IsLive}
use Rattle.system_calls.proofs.units.read_units.Given as goal

abbrev pub invariant-loop-i : goal.invariant-loop-i
invariant-loop-i g l =
    (units : List ℕ) → IsLive (g.H.ObjectStore.content l.heap) l.d l.text (Text units) → take l.i l.buffer ≡ take l.i (drop l.from units)

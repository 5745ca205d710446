-- So many units of both texts are the same.
use Rattle.std.proofs.Common.{◌≡◌, ℕ, List, take}
use Rattle.jk_model_domains.specs.Objects.{Text}
use Rattle.object_store.specs.HeapContents.{IsLive}
use Rattle.system_calls.proofs.units.have_same_units.Given as goal

abbrev pub invariant-loop-i : goal.invariant-loop-i
invariant-loop-i g l =
    (units others : List ℕ) → IsLive (g.H.ObjectStore.content l.heap) l.d l.a (Text units) → IsLive (g.H.ObjectStore.content l.heap) l.d l.b (Text others)
    → take l.i units ≡ take l.i others

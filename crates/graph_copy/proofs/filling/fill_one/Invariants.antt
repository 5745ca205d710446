-- The copy is filled up to the place.
use Rattle.jk_model_domains.specs.Objects.{Object}
use Rattle.object_store.specs.HeapContents.{IsLive, WritesObject}
use Rattle.graph_copy.proofs.PlacesFilled.{partly}
use Rattle.graph_copy.proofs.filling.fill_one.Given as goal

abbrev pub invariant-loop-i : goal.invariant-loop-i
invariant-loop-i g l =
    (object : Object) → IsLive (g.H.ObjectStore.content l.fn.store) l.from l.a object
    → WritesObject (g.H.ObjectStore.content l.fn.store) (g.H.ObjectStore.content l.store) l.to l.b
    (partly l.t ((g.H.ObjectStore.content l.fn.store).mark l.from) object l.i)

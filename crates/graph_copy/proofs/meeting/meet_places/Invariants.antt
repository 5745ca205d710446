-- What is followed at so many places is met.
use Rattle.jk_model_domains.specs.Objects.{Object}
use Rattle.object_store.specs.HeapContents.{IsLive}
use Rattle.graph_copy.specs.MetObjects.{Meets}
use Rattle.graph_copy.specs.Places.{followed_before}
use Rattle.graph_copy.proofs.meeting.meet_places.Given as goal

abbrev pub invariant-loop-i : goal.invariant-loop-i
invariant-loop-i g l =
    (object : Object) → IsLive (g.H.ObjectStore.content l.fn.store) l.d l.a object
    → Meets (g.H.ObjectStore.content l.fn.store) (g.H.ObjectStore.content l.store) l.d (followed_before l.t object l.i) l.fn.head l.next

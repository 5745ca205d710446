-- The object is done, and what it leads to is met after that.
use Rattle.std.proofs.Common.{List, ap, ◌∙◌}
use Rattle.jk_model_domains.specs.Objects.{NamedObject, object_named}
use Rattle.jk_model_graphs.specs.Followed.{followed}
use Rattle.graph_copy.proofs.ObjectsVisited.{queues_after, visits}
use Rattle.graph_copy.proofs.PlacesWalked.{walked_still}
use Rattle.graph_copy.proofs.discovery.visit.Goals as goal

pub meet_places-requires-clause-queue : goal.meet_places-requires-clause-queue
meet_places-requires-clause-queue g c =
    queues_after (g.H.ObjectStore.content c.args.store.now) (g.H.ObjectStore.content c.finish-rest.new.store) c.args.d c.args.a c.args.done
    c.finish-rest.result c.requires.queues c.finish-rest.ensures

pub meet_places-requires-clause-walked : goal.meet_places-requires-clause-walked
meet_places-requires-clause-walked g c =
    walked_still (g.H.ObjectStore.content c.args.store.now) (g.H.ObjectStore.content c.finish-rest.new.store) c.args.t.now c.args.d c.args.a
    c.args.shape.now (c.finish-rest.ensures.marks.heap c.args.d) c.requires.walked

pub returns : goal.returns
returns g c = λ object live.
    visits (g.H.ObjectStore.content c.args.store.now) (g.H.ObjectStore.content c.finish-rest.new.store) (g.H.ObjectStore.content c.meet_places.new.store)
    c.args.d c.args.a (followed c.args.t.now object) c.args.done c.finish-rest.result c.meet_places.result c.finish-rest.ensures
    (c.meet_places.ensures object
    (ap (λ (l : List NamedObject). object_named l c.args.a) (c.finish-rest.ensures.marks.heap c.args.d) ∙ live))

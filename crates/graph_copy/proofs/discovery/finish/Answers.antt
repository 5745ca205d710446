-- The object is named and marked, and its mark leads to the rest.
use Rattle.std.proofs.Common.{ℕ, ◌<◌, Some, sym, subst}
use Rattle.graph_copy.specs.Queues.{IsNext}
use Rattle.object_store.specs.HeapContents.{Marks}
use Rattle.graph_copy.proofs.ObjectsFinished.{finishes, first_is_marked, first_is_name, second_is_small}
use Rattle.graph_copy.proofs.discovery.finish.Goals as goal

pub mark-requires : goal.mark-requires
mark-requires g c = first_is_name (g.H.ObjectStore.content c.args.store.now) c.args.d c.args.a c.args.done c.requires

pub next_of-rest-requires : goal.next_of-rest-requires
next_of-rest-requires g c =
    subst (λ (m : ℕ). 0 < m) (sym c.mark.ensures)
    (first_is_marked (g.H.ObjectStore.content c.args.store.now) c.args.d c.args.a c.args.done c.requires)

pub link-requires : goal.link-requires
link-requires g c =
    second_is_small (g.H.ObjectStore.content c.args.store.now) c.args.d (Some c.args.a) c.args.done (g.met.H.ObjectStore.holds c.args.store.now)
    c.requires

pub set_mark-requires : goal.set_mark-requires
set_mark-requires g c = first_is_name (g.H.ObjectStore.content c.args.store.now) c.args.d c.args.a c.args.done c.requires

pub returns : goal.returns
returns g c =
    finishes (g.H.ObjectStore.content c.args.store.now) (g.H.ObjectStore.content c.set_mark.new.self) c.args.d c.args.a c.args.done
    c.next_of-rest.result (g.met.H.ObjectStore.holds c.args.store.now)
    (subst (λ (m : ℕ). IsNext m c.next_of-rest.result) c.mark.ensures c.next_of-rest.ensures)
    (subst (λ (m : ℕ). Marks (g.H.ObjectStore.content c.args.store.now) (g.H.ObjectStore.content c.set_mark.new.self) c.args.d c.args.a m)
    c.link.ensures c.set_mark.ensures)

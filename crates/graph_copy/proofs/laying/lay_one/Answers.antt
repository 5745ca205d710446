-- The object is no copy, and its mark leads to the rest.
use Rattle.std.proofs.Common.{ℕ, ◌+◌, ◌<◌, sym, subst, arith}
use Rattle.object_store.specs.HeapContents.{Marks}
use Rattle.object_store.proofs.ObjectsWritten.{live_made}
use Rattle.graph_copy.specs.Laid.{empty_copy}
use Rattle.graph_copy.specs.Queues.{IsNext, link_to}
use Rattle.graph_copy.proofs.ChainsForgotten.{both_marked}
use Rattle.graph_copy.proofs.ObjectsLaid.{laid_one, live_where_made, made_apart}
use Rattle.graph_copy.proofs.QueuesForgotten.{name_stays}
use Rattle.graph_copy.proofs.laying.lay_one.Goals as goal

pub mark-requires : goal.mark-requires
mark-requires g c = (c.requires.like.object, c.requires.like.live)

pub next_of-rest-requires : goal.next_of-rest-requires
next_of-rest-requires g c = subst (λ (m : ℕ). 0 < m) (sym c.mark.ensures) c.requires.marked

pub make_like-b-requires : goal.make_like-b-requires
make_like-b-requires g c = c.requires.like

pub link-requires : goal.link-requires
link-requires g c = c.requires.small

pub overflow_add-b : goal.overflow_add-b
overflow_add-b g c =
    let made = c.make_like-b.ensures c.requires.like.object c.requires.like.live in omega (arith, made.small)

pub set_mark-requires : goal.set_mark-requires
set_mark-requires g c =
    let made = c.make_like-b.ensures c.requires.like.object c.requires.like.live in (
      c.requires.like.object,
      live_where_made (g.H.ObjectStore.content c.args.store.now) (g.H.ObjectStore.content c.make_like-b.new.store) c.args.t.now c.args.to c.args.from
          c.make_like-b.result c.args.a (empty_copy c.args.t.now c.requires.like.object) c.requires.like.object made c.requires.like.live,
    )

pub set_mark-requires-2 : goal.set_mark-requires-2
set_mark-requires-2 g c =
    let made = c.make_like-b.ensures c.requires.like.object c.requires.like.live in
    name_stays (g.H.ObjectStore.content c.make_like-b.new.store) (g.H.ObjectStore.content c.set_mark.new.self) c.args.to c.make_like-b.result
    (c.set_mark.ensures.heap c.args.to) (
      empty_copy c.args.t.now c.requires.like.object,
      live_made (g.H.ObjectStore.content c.args.store.now) (g.H.ObjectStore.content c.make_like-b.new.store) c.args.t.now c.args.to
          c.make_like-b.result (empty_copy c.args.t.now c.requires.like.object) made,
    )

pub returns : goal.returns
returns g c = record {
  next = subst (λ (m : ℕ). IsNext m c.next_of-rest.result) c.mark.ensures c.next_of-rest.ensures;
  laid = λ object live.
      let made = c.make_like-b.ensures object live in
      laid_one (g.H.ObjectStore.content c.args.store.now) (g.H.ObjectStore.content c.make_like-b.new.store)
      (g.H.ObjectStore.content c.set_mark-2.new.self) c.args.t.now c.args.from c.args.to c.args.a c.make_like-b.result object c.args.first made
      (both_marked (g.H.ObjectStore.content c.make_like-b.new.store) (g.H.ObjectStore.content c.set_mark.new.self)
      (g.H.ObjectStore.content c.set_mark-2.new.self) c.args.from c.args.to c.args.a c.make_like-b.result (c.make_like-b.result + 1)
      (link_to c.args.first)
      (made_apart (g.H.ObjectStore.content c.args.store.now) (g.H.ObjectStore.content c.make_like-b.new.store) c.args.t.now c.args.from c.args.to
      c.args.a c.make_like-b.result object (empty_copy c.args.t.now object) live made)
      c.set_mark.ensures
      (subst (λ (m : ℕ). Marks (g.H.ObjectStore.content c.set_mark.new.self) (g.H.ObjectStore.content c.set_mark-2.new.self) c.args.to
      c.make_like-b.result m) c.link.ensures c.set_mark-2.ensures));
}

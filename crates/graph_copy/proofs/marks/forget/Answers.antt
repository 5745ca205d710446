-- The next object has a name and a mark, which becomes 0.
use Rattle.std.proofs.Common.{ℕ, Option, subst}
use Rattle.graph_copy.specs.Queues.{IsNext}
use Rattle.graph_copy.proofs.QueuesForgotten.{ForgotSoFar, all_forgotten, fewer_left, next_is_name, none_forgotten, one_forgotten}
use Rattle.graph_copy.proofs.marks.forget.Goals as goal

pub loop-next-init : goal.loop-next-init
loop-next-init g c = λ names q h. none_forgotten (g.H.ObjectStore.content c.args.store.now) c.args.d c.args.head names q h

pub mark-requires : goal.mark-requires
mark-requires g c =
    let s = subst (λ (n : Option ℕ). ForgotSoFar (g.H.ObjectStore.content c.args.store.now) (g.H.ObjectStore.content c.loop-next.store) c.args.d n
    c.requires.names) c.in-Some.is (c.loop-next.invariant c.requires.names c.requires.is_queue c.requires.is_head) in
    next_is_name (g.H.ObjectStore.content c.args.store.now) (g.H.ObjectStore.content c.loop-next.store) c.args.d c.in-Some.a c.requires.names s

pub loop-next-smaller : goal.loop-next-smaller
loop-next-smaller g c =
    let s = subst (λ (n : Option ℕ). ForgotSoFar (g.H.ObjectStore.content c.args.store.now) (g.H.ObjectStore.content c.loop-next.store) c.args.d n
    c.requires.names) c.in-Some.is (c.loop-next.invariant c.requires.names c.requires.is_queue c.requires.is_head) in
    fewer_left (g.H.ObjectStore.content c.args.store.now) (g.H.ObjectStore.content c.loop-next.store) (g.H.ObjectStore.content c.set_mark.new.self)
    c.args.d c.in-Some.a c.requires.names s c.set_mark.ensures

pub loop-next-preserved : goal.loop-next-preserved
loop-next-preserved g c = λ names q h.
    let s = subst (λ (n : Option ℕ). ForgotSoFar (g.H.ObjectStore.content c.args.store.now) (g.H.ObjectStore.content c.loop-next.store) c.args.d n
    names) c.in-Some.is (c.loop-next.invariant names q h) in
    one_forgotten (g.H.ObjectStore.content c.args.store.now) (g.H.ObjectStore.content c.loop-next.store) (g.H.ObjectStore.content c.set_mark.new.self)
    c.args.d c.in-Some.a c.next_of-next.result names (g.met.H.ObjectStore.holds c.loop-next.store) s
    (subst (λ (m : ℕ). IsNext m c.next_of-next.result) c.mark.ensures c.next_of-next.ensures) c.set_mark.ensures

pub returns : goal.returns
returns g c = λ names q h.
    let s = subst (λ (n : Option ℕ). ForgotSoFar (g.H.ObjectStore.content c.args.store.now) (g.H.ObjectStore.content c.loop-next.store) c.args.d n
    names) c.in_default.is (c.loop-next.invariant names q h) in
    all_forgotten (g.H.ObjectStore.content c.args.store.now) (g.H.ObjectStore.content c.loop-next.store) c.args.d names s

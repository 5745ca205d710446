-- The next object may be laid, and is.
use Rattle.std.proofs.Common.{ℕ, Option, subst}
use Rattle.graph_copy.proofs.ObjectsLaid.{LaidSoFar, all_laid, fewer_left_to_lay, may_lay_next, nothing_laid, one_laid}
use Rattle.graph_copy.proofs.laying.lay.Goals as goal

pub loop-next-init : goal.loop-next-init
loop-next-init g c = λ names queue is. nothing_laid (g.H.ObjectStore.content c.args.store.now) c.args.t.now c.args.from c.args.to c.args.head names queue is

pub lay_one-next-requires : goal.lay_one-next-requires
lay_one-next-requires g c =
    let s = subst (λ (n : Option ℕ). LaidSoFar (g.H.ObjectStore.content c.args.store.now) (g.H.ObjectStore.content c.loop-next.store) c.args.t.now
    c.args.from c.args.to n c.loop-next.first c.requires.names) c.in-Some.is
    (c.loop-next.invariant c.requires.names c.requires.queue c.requires.is_head) in
    may_lay_next (g.H.ObjectStore.content c.args.store.now) (g.H.ObjectStore.content c.loop-next.store) c.args.t.now c.args.from c.args.to c.in-Some.a
    c.args.head c.loop-next.first (g.met.H.ObjectStore.holds c.args.store.now) (g.met.H.ObjectStore.holds c.loop-next.store) c.requires s

pub loop-next-smaller : goal.loop-next-smaller
loop-next-smaller g c =
    let s = subst (λ (n : Option ℕ). LaidSoFar (g.H.ObjectStore.content c.args.store.now) (g.H.ObjectStore.content c.loop-next.store) c.args.t.now
    c.args.from c.args.to n c.loop-next.first c.requires.names) c.in-Some.is
    (c.loop-next.invariant c.requires.names c.requires.queue c.requires.is_head) in
    let may = may_lay_next (g.H.ObjectStore.content c.args.store.now) (g.H.ObjectStore.content c.loop-next.store) c.args.t.now c.args.from c.args.to
    c.in-Some.a c.args.head c.loop-next.first (g.met.H.ObjectStore.holds c.args.store.now) (g.met.H.ObjectStore.holds c.loop-next.store) c.requires
    s in
    fewer_left_to_lay (g.H.ObjectStore.content c.loop-next.store) (g.H.ObjectStore.content c.lay_one-next.new.store) c.args.t.now c.args.from c.args.to
    c.in-Some.a c.loop-next.first may (c.lay_one-next.ensures.laid may.like.object may.like.live)

pub loop-next-preserved : goal.loop-next-preserved
loop-next-preserved g c = λ names queue is.
    let s = subst (λ (n : Option ℕ). LaidSoFar (g.H.ObjectStore.content c.args.store.now) (g.H.ObjectStore.content c.loop-next.store) c.args.t.now
    c.args.from c.args.to n c.loop-next.first names) c.in-Some.is (c.loop-next.invariant names queue is) in
    one_laid (g.H.ObjectStore.content c.args.store.now) (g.H.ObjectStore.content c.loop-next.store) (g.H.ObjectStore.content c.lay_one-next.new.store)
    c.args.t.now c.args.from c.args.to c.in-Some.a c.lay_one-next.result c.loop-next.first names (g.met.H.ObjectStore.holds c.loop-next.store) s
    c.lay_one-next.ensures.next c.lay_one-next.ensures.laid

pub returns : goal.returns
returns g c = λ names queue is.
    let s = subst (λ (n : Option ℕ). LaidSoFar (g.H.ObjectStore.content c.args.store.now) (g.H.ObjectStore.content c.loop-next.store) c.args.t.now
    c.args.from c.args.to n c.loop-next.first names) c.in_default.is (c.loop-next.invariant names queue is) in
    all_laid (g.H.ObjectStore.content c.args.store.now) (g.H.ObjectStore.content c.loop-next.store) c.args.t.now c.args.from c.args.to
    c.loop-next.first names s

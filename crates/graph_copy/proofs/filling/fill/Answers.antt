-- The next source and its copy have names and marks, and the copy may be filled.
use Rattle.std.proofs.Common.{ℕ, ◌<◌, Option, sym, subst}
use Rattle.graph_copy.specs.Queues.{IsNext}
use Rattle.graph_copy.proofs.ChainsFilled.{FilledSoFar, all_copies_filled, copy_has_next, filled_next, fewer_to_fill, may_fill_next, nothing_filled_yet}
use Rattle.graph_copy.proofs.ChainsForgotten.{first_is_marked, first_is_name, turns_left}
use Rattle.graph_copy.proofs.filling.fill.Goals as goal

pub loop-next-init : goal.loop-next-init
loop-next-init g c = record {
  filled = λ pairs chain is.
      nothing_filled_yet (g.H.ObjectStore.content c.args.store.now) c.args.t.now c.args.from c.args.to c.args.first pairs chain is;
  known = λ k is. absurd cc;
}

pub copy_of-b-requires-clause-named : goal.copy_of-b-requires-clause-named
copy_of-b-requires-clause-named g c =
    let s = subst (λ (n : Option ℕ). FilledSoFar (g.H.ObjectStore.content c.args.store.now) (g.H.ObjectStore.content c.loop-next.store) c.args.t.now
    c.args.from c.args.to n c.requires.pairs) c.in-Some.is (c.loop-next.invariant.filled c.requires.pairs c.requires.chain c.requires.is_first) in
    first_is_name (g.H.ObjectStore.content c.loop-next.store) c.args.from c.args.to c.in-Some.a s.rest s.chain s.is_next

pub copy_of-b-requires-clause-marked : goal.copy_of-b-requires-clause-marked
copy_of-b-requires-clause-marked g c =
    let s = subst (λ (n : Option ℕ). FilledSoFar (g.H.ObjectStore.content c.args.store.now) (g.H.ObjectStore.content c.loop-next.store) c.args.t.now
    c.args.from c.args.to n c.requires.pairs) c.in-Some.is (c.loop-next.invariant.filled c.requires.pairs c.requires.chain c.requires.is_first) in
    first_is_marked (g.H.ObjectStore.content c.loop-next.store) c.args.from c.args.to c.in-Some.a s.rest s.chain s.is_next

pub fill_one-requires-clause-may : goal.fill_one-requires-clause-may
fill_one-requires-clause-may g c =
    let s = subst (λ (n : Option ℕ). FilledSoFar (g.H.ObjectStore.content c.args.store.now) (g.H.ObjectStore.content c.loop-next.store) c.args.t.now
    c.args.from c.args.to n c.requires.pairs) c.in-Some.is (c.loop-next.invariant.filled c.requires.pairs c.requires.chain c.requires.is_first) in
    may_fill_next (g.H.ObjectStore.content c.args.store.now) (g.H.ObjectStore.content c.loop-next.store) c.args.t.now c.args.from c.args.to c.args.first
    c.in-Some.a c.copy_of-b.result c.requires s c.copy_of-b.ensures

pub mark-requires : goal.mark-requires
mark-requires g c =
    let s = subst (λ (n : Option ℕ). FilledSoFar (g.H.ObjectStore.content c.args.store.now) (g.H.ObjectStore.content c.loop-next.store) c.args.t.now
    c.args.from c.args.to n c.requires.pairs) c.in-Some.is (c.loop-next.invariant.filled c.requires.pairs c.requires.chain c.requires.is_first) in
    (copy_has_next (g.H.ObjectStore.content c.args.store.now) (g.H.ObjectStore.content c.loop-next.store) (g.H.ObjectStore.content c.fill_one.new.store)
    c.args.t.now c.args.from c.args.to c.args.first c.in-Some.a c.copy_of-b.result c.requires s c.copy_of-b.ensures c.fill_one.ensures.written).0

pub next_of-next-requires : goal.next_of-next-requires
next_of-next-requires g c =
    let s = subst (λ (n : Option ℕ). FilledSoFar (g.H.ObjectStore.content c.args.store.now) (g.H.ObjectStore.content c.loop-next.store) c.args.t.now
    c.args.from c.args.to n c.requires.pairs) c.in-Some.is (c.loop-next.invariant.filled c.requires.pairs c.requires.chain c.requires.is_first) in
    subst (λ (m : ℕ). 0 < m) (sym c.mark.ensures)
    (copy_has_next (g.H.ObjectStore.content c.args.store.now) (g.H.ObjectStore.content c.loop-next.store) (g.H.ObjectStore.content c.fill_one.new.store)
    c.args.t.now c.args.from c.args.to c.args.first c.in-Some.a c.copy_of-b.result c.requires s c.copy_of-b.ensures c.fill_one.ensures.written).1

pub loop-next-smaller : goal.loop-next-smaller
loop-next-smaller g c =
    let s = subst (λ (n : Option ℕ). FilledSoFar (g.H.ObjectStore.content c.args.store.now) (g.H.ObjectStore.content c.loop-next.store) c.args.t.now
    c.args.from c.args.to n c.requires.pairs) c.in-Some.is (c.loop-next.invariant.filled c.requires.pairs c.requires.chain c.requires.is_first) in
    subst (λ (n : Option ℕ). turns_left (g.H.ObjectStore.content c.fill_one.new.store) c.args.from c.args.to c.next_of-next.result
    < turns_left (g.H.ObjectStore.content c.loop-next.store) c.args.from c.args.to n) (sym c.in-Some.is)
    (fewer_to_fill (g.H.ObjectStore.content c.args.store.now) (g.H.ObjectStore.content c.loop-next.store) (g.H.ObjectStore.content c.fill_one.new.store)
    c.args.t.now c.args.from c.args.to c.args.first c.in-Some.a c.copy_of-b.result c.next_of-next.result (g.met.H.ObjectStore.holds c.loop-next.store)
    (g.met.H.ObjectStore.holds c.fill_one.new.store) c.requires s c.copy_of-b.ensures c.fill_one.ensures.written
    (subst (λ (m : ℕ). IsNext m c.next_of-next.result) c.mark.ensures c.next_of-next.ensures))

pub loop-next-preserved : goal.loop-next-preserved
loop-next-preserved g c = record {
  filled = λ pairs chain is.
      let s = subst (λ (n : Option ℕ). FilledSoFar (g.H.ObjectStore.content c.args.store.now) (g.H.ObjectStore.content c.loop-next.store) c.args.t.now
      c.args.from c.args.to n c.requires.pairs) c.in-Some.is (c.loop-next.invariant.filled c.requires.pairs c.requires.chain c.requires.is_first) in
      let t = subst (λ (n : Option ℕ). FilledSoFar (g.H.ObjectStore.content c.args.store.now) (g.H.ObjectStore.content c.loop-next.store) c.args.t.now
      c.args.from c.args.to n pairs) c.in-Some.is (c.loop-next.invariant.filled pairs chain is) in
      filled_next (g.H.ObjectStore.content c.args.store.now) (g.H.ObjectStore.content c.loop-next.store) (g.H.ObjectStore.content c.fill_one.new.store)
      c.args.t.now c.args.from c.args.to c.args.first c.in-Some.a c.copy_of-b.result c.next_of-next.result (g.met.H.ObjectStore.holds c.loop-next.store)
      c.requires s c.copy_of-b.ensures c.fill_one.ensures.written
      (subst (λ (m : ℕ). IsNext m c.next_of-next.result) c.mark.ensures c.next_of-next.ensures) pairs chain t;
  known = c.fill_one.ensures.known;
}

pub returns : goal.returns
returns g c = λ pairs chain is.
    let s = subst (λ (n : Option ℕ). FilledSoFar (g.H.ObjectStore.content c.args.store.now) (g.H.ObjectStore.content c.loop-next.store) c.args.t.now
    c.args.from c.args.to n pairs) c.in_default.is (c.loop-next.invariant.filled pairs chain is) in
    all_copies_filled (g.H.ObjectStore.content c.args.store.now) (g.H.ObjectStore.content c.loop-next.store) c.args.t.now c.args.from c.args.to pairs s

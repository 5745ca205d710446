-- The next source and its copy have names and marks, which become 0.
use Rattle.std.proofs.Common.{ℕ, ◌<◌, Option, sym, subst}
use Rattle.graph_copy.specs.Queues.{IsNext}
use Rattle.graph_copy.proofs.ChainsForgotten.{ForgotPairs, all_pairs_forgotten, both_marked, copy_is_marked, fewer_turns_left, first_apart, first_is_marked, first_is_name, next_copy_is_name, no_pair_forgotten, one_pair_forgotten, pair_in_front, stands_first, turns_left}
use Rattle.graph_copy.proofs.QueuesForgotten.{name_stays}
use Rattle.graph_copy.proofs.marks.forget_pairs.Goals as goal

pub loop-next-init : goal.loop-next-init
loop-next-init g c = λ pairs chain is. no_pair_forgotten (g.H.ObjectStore.content c.args.store.now) c.args.from c.args.to c.args.first pairs chain is

pub copy_of-b-requires-clause-named : goal.copy_of-b-requires-clause-named
copy_of-b-requires-clause-named g c =
    let s = subst (λ (n : Option ℕ). ForgotPairs (g.H.ObjectStore.content c.args.store.now) (g.H.ObjectStore.content c.loop-next.store) c.args.from
    c.args.to n c.requires.pairs) c.in-Some.is (c.loop-next.invariant c.requires.pairs c.requires.chain c.requires.is_first) in
    first_is_name (g.H.ObjectStore.content c.loop-next.store) c.args.from c.args.to c.in-Some.a s.rest s.chain s.is_next

pub copy_of-b-requires-clause-marked : goal.copy_of-b-requires-clause-marked
copy_of-b-requires-clause-marked g c =
    let s = subst (λ (n : Option ℕ). ForgotPairs (g.H.ObjectStore.content c.args.store.now) (g.H.ObjectStore.content c.loop-next.store) c.args.from
    c.args.to n c.requires.pairs) c.in-Some.is (c.loop-next.invariant c.requires.pairs c.requires.chain c.requires.is_first) in
    first_is_marked (g.H.ObjectStore.content c.loop-next.store) c.args.from c.args.to c.in-Some.a s.rest s.chain s.is_next

pub mark-requires : goal.mark-requires
mark-requires g c =
    let s = subst (λ (n : Option ℕ). ForgotPairs (g.H.ObjectStore.content c.args.store.now) (g.H.ObjectStore.content c.loop-next.store) c.args.from
    c.args.to n c.requires.pairs) c.in-Some.is (c.loop-next.invariant c.requires.pairs c.requires.chain c.requires.is_first) in
    next_copy_is_name (g.H.ObjectStore.content c.loop-next.store) c.args.from c.args.to c.in-Some.a c.copy_of-b.result s.rest s.chain s.is_next
    c.copy_of-b.ensures

pub next_of-next-requires : goal.next_of-next-requires
next_of-next-requires g c =
    let s = subst (λ (n : Option ℕ). ForgotPairs (g.H.ObjectStore.content c.args.store.now) (g.H.ObjectStore.content c.loop-next.store) c.args.from
    c.args.to n c.requires.pairs) c.in-Some.is (c.loop-next.invariant c.requires.pairs c.requires.chain c.requires.is_first) in
    subst (λ (m : ℕ). 0 < m) (sym c.mark.ensures)
    (copy_is_marked (g.H.ObjectStore.content c.loop-next.store) c.args.from c.args.to c.in-Some.a c.copy_of-b.result s.rest s.chain
    (stands_first (g.H.ObjectStore.content c.loop-next.store) c.args.from c.args.to c.in-Some.a c.copy_of-b.result s.rest s.chain s.is_next
    c.copy_of-b.ensures))

pub set_mark-requires : goal.set_mark-requires
set_mark-requires g c =
    let s = subst (λ (n : Option ℕ). ForgotPairs (g.H.ObjectStore.content c.args.store.now) (g.H.ObjectStore.content c.loop-next.store) c.args.from
    c.args.to n c.requires.pairs) c.in-Some.is (c.loop-next.invariant c.requires.pairs c.requires.chain c.requires.is_first) in
    first_is_name (g.H.ObjectStore.content c.loop-next.store) c.args.from c.args.to c.in-Some.a s.rest s.chain s.is_next

pub set_mark-requires-in-Some : goal.set_mark-requires-in-Some
set_mark-requires-in-Some g c =
    let s = subst (λ (n : Option ℕ). ForgotPairs (g.H.ObjectStore.content c.args.store.now) (g.H.ObjectStore.content c.loop-next.store) c.args.from
    c.args.to n c.requires.pairs) c.in-Some.is (c.loop-next.invariant c.requires.pairs c.requires.chain c.requires.is_first) in
    name_stays (g.H.ObjectStore.content c.loop-next.store) (g.H.ObjectStore.content c.set_mark.new.self) c.args.to c.copy_of-b.result
    (c.set_mark.ensures.heap c.args.to)
    (next_copy_is_name (g.H.ObjectStore.content c.loop-next.store) c.args.from c.args.to c.in-Some.a c.copy_of-b.result s.rest s.chain s.is_next
    c.copy_of-b.ensures)

pub loop-next-smaller : goal.loop-next-smaller
loop-next-smaller g c =
    let s = subst (λ (n : Option ℕ). ForgotPairs (g.H.ObjectStore.content c.args.store.now) (g.H.ObjectStore.content c.loop-next.store) c.args.from
    c.args.to n c.requires.pairs) c.in-Some.is (c.loop-next.invariant c.requires.pairs c.requires.chain c.requires.is_first) in
    let first = stands_first (g.H.ObjectStore.content c.loop-next.store) c.args.from c.args.to c.in-Some.a c.copy_of-b.result s.rest s.chain s.is_next
    c.copy_of-b.ensures in
    let marks = both_marked (g.H.ObjectStore.content c.loop-next.store) (g.H.ObjectStore.content c.set_mark.new.self)
    (g.H.ObjectStore.content c.set_mark-in-Some.new.self) c.args.from c.args.to c.in-Some.a c.copy_of-b.result 0 0
    (first_apart (g.H.ObjectStore.content c.loop-next.store) c.args.from c.args.to c.in-Some.a c.copy_of-b.result s.rest s.chain
    (pair_in_front c.in-Some.a c.copy_of-b.result s.rest first))
    c.set_mark.ensures c.set_mark-in-Some.ensures in
    subst (λ (n : Option ℕ). turns_left (g.H.ObjectStore.content c.set_mark-in-Some.new.self) c.args.from c.args.to c.next_of-next.result
    < turns_left (g.H.ObjectStore.content c.loop-next.store) c.args.from c.args.to n) (sym c.in-Some.is)
    (fewer_turns_left (g.H.ObjectStore.content c.loop-next.store) (g.H.ObjectStore.content c.set_mark-in-Some.new.self) c.args.from c.args.to c.in-Some.a
    c.copy_of-b.result 0 0 c.next_of-next.result s.rest (g.met.H.ObjectStore.holds c.loop-next.store) (g.met.H.ObjectStore.holds c.set_mark-in-Some.new.self)
    s.chain first (subst (λ (m : ℕ). IsNext m c.next_of-next.result) c.mark.ensures c.next_of-next.ensures) marks)

pub loop-next-preserved : goal.loop-next-preserved
loop-next-preserved g c = λ pairs chain is.
    let s = subst (λ (n : Option ℕ). ForgotPairs (g.H.ObjectStore.content c.args.store.now) (g.H.ObjectStore.content c.loop-next.store) c.args.from
    c.args.to n pairs) c.in-Some.is (c.loop-next.invariant pairs chain is) in
    let first = stands_first (g.H.ObjectStore.content c.loop-next.store) c.args.from c.args.to c.in-Some.a c.copy_of-b.result s.rest s.chain s.is_next
    c.copy_of-b.ensures in
    let marks = both_marked (g.H.ObjectStore.content c.loop-next.store) (g.H.ObjectStore.content c.set_mark.new.self)
    (g.H.ObjectStore.content c.set_mark-in-Some.new.self) c.args.from c.args.to c.in-Some.a c.copy_of-b.result 0 0
    (first_apart (g.H.ObjectStore.content c.loop-next.store) c.args.from c.args.to c.in-Some.a c.copy_of-b.result s.rest s.chain
    (pair_in_front c.in-Some.a c.copy_of-b.result s.rest first))
    c.set_mark.ensures c.set_mark-in-Some.ensures in
    one_pair_forgotten (g.H.ObjectStore.content c.args.store.now) (g.H.ObjectStore.content c.loop-next.store)
    (g.H.ObjectStore.content c.set_mark-in-Some.new.self) c.args.from c.args.to c.in-Some.a c.copy_of-b.result c.next_of-next.result pairs
    (g.met.H.ObjectStore.holds c.loop-next.store) s c.copy_of-b.ensures
    (subst (λ (m : ℕ). IsNext m c.next_of-next.result) c.mark.ensures c.next_of-next.ensures) marks

pub returns : goal.returns
returns g c = λ pairs chain is.
    let s = subst (λ (n : Option ℕ). ForgotPairs (g.H.ObjectStore.content c.args.store.now) (g.H.ObjectStore.content c.loop-next.store) c.args.from
    c.args.to n pairs) c.in_default.is (c.loop-next.invariant pairs chain is) in
    all_pairs_forgotten (g.H.ObjectStore.content c.args.store.now) (g.H.ObjectStore.content c.loop-next.store) c.args.from c.args.to pairs s

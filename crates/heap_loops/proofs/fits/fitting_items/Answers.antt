-- Items that are read are known, and each that passes the test fits.
use Rattle.std.proofs.Common.{◌≡◌, ◌+◌, ◌≤◌, arith, subst}
use Rattle.heap_loops.proofs.ItemsCopied.{ends_early}
use Rattle.heap_loops.proofs.ItemsThatFit.{FitsSoFar, are_references, does_not_fit, has_item, is_known, is_reference, of_front, one_fits}
use Rattle.heap_loops.proofs.fits.fitting_items.Goals as goal

pub overflow_add-from : goal.overflow_add-from
overflow_add-from g c =
    let end = ends_early (g.H.ObjectStore.content c.args.heap.now) c.args.d c.args.source (c.args.from + c.args.count)
    (g.met.H.ObjectStore.holds c.args.heap.now) c.requires.source in
    let within = c.loop-i-test.true in
    omega arith

pub read-item-requires : goal.read-item-requires
read-item-requires g c =
    has_item c.args.t.now (g.C.CapabilityTests.known c.args.caps.now) (g.H.ObjectStore.content c.args.heap.now) c.args.d c.args.source c.args.from
    c.args.count c.loop-i.i c.args.kind.now (g.met.H.ObjectStore.holds c.args.heap.now) c.requires.source c.requires.known c.loop-i-test.true

pub is_null_or_instance-requires-clause-reference : goal.is_null_or_instance-requires-clause-reference
is_null_or_instance-requires-clause-reference g c =
    is_reference c.args.t.now (g.C.CapabilityTests.known c.args.caps.now) (g.H.ObjectStore.content c.args.heap.now) c.args.d c.args.source
    c.args.from c.args.count c.loop-i.i c.args.kind.now (g.met.H.ObjectStore.holds c.args.heap.now) c.requires.source c.requires.known
    c.loop-i-test.true c.read-item.result c.read-item.ensures
    (are_references c.args.kind.now c.are_numbers.result c.are_numbers.ensures c.if-are_numbers.false)

pub is_null_or_instance-requires-clause-known : goal.is_null_or_instance-requires-clause-known
is_null_or_instance-requires-clause-known g c =
    is_known c.args.t.now (g.C.CapabilityTests.known c.args.caps.now) (g.H.ObjectStore.content c.args.heap.now) c.args.d c.args.source c.args.from
    c.args.count c.loop-i.i c.args.kind.now (g.met.H.ObjectStore.holds c.args.heap.now) c.requires.source c.requires.known c.loop-i-test.true
    c.read-item.result c.read-item.ensures

pub loop-i-preserved : goal.loop-i-preserved
loop-i-preserved g c =
    one_fits c.args.t.now (g.C.CapabilityTests.known c.args.caps.now) (g.H.ObjectStore.content c.args.heap.now) c.args.d c.args.source c.args.from
    c.args.count c.loop-i.i c.args.kind.now (g.met.H.ObjectStore.holds c.args.heap.now) c.requires.source c.requires.known c.loop-i-test.true
    c.read-item.result c.read-item.ensures (c.is_null_or_instance.ensures.0 c.if-not-is_null_or_instance.false) c.loop-i.invariant

pub returns-then-not-is_null_or_instance : goal.returns-then-not-is_null_or_instance
returns-then-not-is_null_or_instance g c = λ x u items classes caps live.
    let before = c.loop-i-test.true in
    let few : c.loop-i.i ≤ c.args.count = omega arith in
    of_front x c.args.t.now (g.C.CapabilityTests.known c.args.caps.now) (g.H.ObjectStore.content c.args.heap.now) c.args.d c.args.source c.args.from
    c.args.count c.loop-i.i c.args.kind.now u items classes caps live c.requires.source
    (are_references c.args.kind.now c.are_numbers.result c.are_numbers.ensures c.if-are_numbers.false) few c.loop-i.invariant
    (λ v within at fits.
    does_not_fit c.args.t.now (g.C.CapabilityTests.known c.args.caps.now) (g.H.ObjectStore.content c.args.heap.now) c.args.d c.args.source
    (c.args.from + c.loop-i.i) c.args.kind.now u items c.read-item.result c.is_null_or_instance.result c.read-item.ensures
    c.is_null_or_instance.ensures c.if-not-is_null_or_instance.true live v at fits)

pub returns : goal.returns
returns g c = λ x u items classes caps live.
    let end : c.loop-i.i ≡ c.args.count = omega (arith, c.loop-i-test.false, c.loop-i.auto.i-end) in
    of_front x c.args.t.now (g.C.CapabilityTests.known c.args.caps.now) (g.H.ObjectStore.content c.args.heap.now) c.args.d c.args.source c.args.from
    c.args.count c.args.count c.args.kind.now u items classes caps live c.requires.source
    (are_references c.args.kind.now c.are_numbers.result c.are_numbers.ensures c.if-are_numbers.false) (omega arith)
    (subst
    (λ n. FitsSoFar c.args.t.now (g.C.CapabilityTests.known c.args.caps.now) (g.H.ObjectStore.content c.args.heap.now) c.args.d c.args.source
    c.args.from c.args.kind.now n)
    end c.loop-i.invariant)
    (λ v within at fits. absurd (omega (arith, within)))

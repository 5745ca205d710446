-- Each item is read as it was, and put beside those before it.
use Rattle.std.proofs.Common.{◌≡◌, ◌+◌, arith, subst}
use Rattle.heap_loops.proofs.ItemsCopied.{CopiesRange, ends_early, has_next, next_copied, none_copied, takes_next}
use Rattle.heap_loops.proofs.items.copy_forwards.Goals as goal

pub loop-i-init : goal.loop-i-init
loop-i-init g c =
    none_copied (g.H.ObjectStore.content c.args.heap.now) c.args.d c.args.source c.args.from c.args.target c.args.to
    (g.met.H.ObjectStore.holds c.args.heap.now)

pub overflow_add-from : goal.overflow_add-from
overflow_add-from g c =
    let end = ends_early (g.H.ObjectStore.content c.args.heap.now) c.args.d c.args.source (c.args.from + c.args.count)
    (g.met.H.ObjectStore.holds c.args.heap.now) c.requires.source in
    let within = c.loop-i-test.true in
    omega arith

pub overflow_add-to : goal.overflow_add-to
overflow_add-to g c =
    let end = ends_early (g.H.ObjectStore.content c.args.heap.now) c.args.d c.args.target (c.args.to + c.args.count)
    (g.met.H.ObjectStore.holds c.args.heap.now) c.requires.target in
    let within = c.loop-i-test.true in
    omega arith

pub read-item-requires : goal.read-item-requires
read-item-requires g c =
    has_next (g.H.ObjectStore.content c.args.heap.now) (g.H.ObjectStore.content c.loop-i.heap) c.args.d c.args.source c.args.from c.args.target
    c.args.to c.args.count c.loop-i.i (g.met.H.ObjectStore.holds c.loop-i.heap) c.requires.source c.requires.target c.requires.kind c.requires.way
    c.loop-i-test.true c.loop-i.invariant c.args.t.now

pub write-requires : goal.write-requires
write-requires g c =
    takes_next (g.H.ObjectStore.content c.args.heap.now) (g.H.ObjectStore.content c.loop-i.heap) c.args.d c.args.source c.args.from c.args.target
    c.args.to c.args.count c.loop-i.i (g.met.H.ObjectStore.holds c.loop-i.heap) c.requires.source c.requires.target c.requires.kind c.requires.way
    c.loop-i-test.true c.loop-i.invariant c.read-item.result c.read-item.ensures c.args.t.now

pub loop-i-preserved : goal.loop-i-preserved
loop-i-preserved g c =
    next_copied (g.H.ObjectStore.content c.args.heap.now) (g.H.ObjectStore.content c.loop-i.heap) c.args.d c.args.source c.args.from c.args.target
    c.args.to c.args.count c.loop-i.i (g.met.H.ObjectStore.holds c.loop-i.heap) c.requires.source c.requires.target c.requires.kind c.requires.way
    c.loop-i-test.true c.loop-i.invariant c.read-item.result c.read-item.ensures (g.H.ObjectStore.content c.write.new.self) c.write.ensures

pub returns : goal.returns
returns g c =
    let end : c.loop-i.i ≡ c.args.count = omega (arith, c.loop-i-test.false, c.loop-i.auto.i-end) in
    subst
    (λ n. CopiesRange (g.H.ObjectStore.content c.args.heap.now) (g.H.ObjectStore.content c.loop-i.heap) c.args.d c.args.source c.args.from c.args.target
    c.args.to n)
    end c.loop-i.invariant

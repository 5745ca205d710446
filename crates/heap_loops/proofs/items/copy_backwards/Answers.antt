-- Each item is read as it was, and put before those behind it.
use Rattle.std.proofs.Common.{◌≡◌, ◌+◌, ◌-◌, ◌≤◌, arith}
use Rattle.heap_loops.proofs.ItemsCopied.{all_from_end, ends_early, has_last, last_copied, none_from_end, takes_last}
use Rattle.heap_loops.proofs.items.copy_backwards.Goals as goal

pub loop-i-init : goal.loop-i-init
loop-i-init g c =
    none_from_end (g.H.ObjectStore.content c.args.heap.now) c.args.d c.args.source c.args.from c.args.target c.args.to c.args.count
    (g.met.H.ObjectStore.holds c.args.heap.now)

pub overflow_add-from : goal.overflow_add-from
overflow_add-from g c =
    let end = ends_early (g.H.ObjectStore.content c.args.heap.now) c.args.d c.args.source (c.args.from + c.args.count)
    (g.met.H.ObjectStore.holds c.args.heap.now) c.requires.source in
    let within : c.loop-i.i ≤ c.args.count = c.loop-i.auto.i in
    omega arith

pub overflow_add-to : goal.overflow_add-to
overflow_add-to g c =
    let end = ends_early (g.H.ObjectStore.content c.args.heap.now) c.args.d c.args.target (c.args.to + c.args.count)
    (g.met.H.ObjectStore.holds c.args.heap.now) c.requires.target in
    let within : c.loop-i.i ≤ c.args.count = c.loop-i.auto.i in
    omega arith

pub read-item-requires : goal.read-item-requires
read-item-requires g c =
    let above = c.loop-i-test.true in
    let last : c.loop-i.i ≡ c.loop-i.i - 1 + 1 = omega arith in
    has_last (g.H.ObjectStore.content c.args.heap.now) (g.H.ObjectStore.content c.loop-i.heap) c.args.d c.args.source c.args.from c.args.target
    c.args.to c.args.count c.loop-i.i (c.loop-i.i - 1) (g.met.H.ObjectStore.holds c.loop-i.heap) c.requires.source c.requires.target c.requires.kind
    c.requires.way last c.loop-i.auto.i c.loop-i.invariant c.args.t.now

pub write-requires : goal.write-requires
write-requires g c =
    let above = c.loop-i-test.true in
    let last : c.loop-i.i ≡ c.loop-i.i - 1 + 1 = omega arith in
    takes_last (g.H.ObjectStore.content c.args.heap.now) (g.H.ObjectStore.content c.loop-i.heap) c.args.d c.args.source c.args.from c.args.target
    c.args.to c.args.count c.loop-i.i (c.loop-i.i - 1) (g.met.H.ObjectStore.holds c.loop-i.heap) c.requires.source c.requires.target c.requires.kind
    c.requires.way last c.loop-i.auto.i c.loop-i.invariant c.read-item.result c.read-item.ensures c.args.t.now

pub loop-i-preserved : goal.loop-i-preserved
loop-i-preserved g c =
    let above = c.loop-i-test.true in
    let last : c.loop-i.i ≡ c.loop-i.i - 1 + 1 = omega arith in
    last_copied (g.H.ObjectStore.content c.args.heap.now) (g.H.ObjectStore.content c.loop-i.heap) c.args.d c.args.source c.args.from c.args.target
    c.args.to c.args.count c.loop-i.i (c.loop-i.i - 1) (g.met.H.ObjectStore.holds c.loop-i.heap) c.requires.source c.requires.target c.requires.kind
    c.requires.way last c.loop-i.auto.i c.loop-i.invariant c.read-item.result c.read-item.ensures (g.H.ObjectStore.content c.write.new.self)
    c.write.ensures

pub returns : goal.returns
returns g c =
    let end : c.loop-i.i ≡ 0 = omega (arith, c.loop-i-test.false) in
    all_from_end (g.H.ObjectStore.content c.args.heap.now) (g.H.ObjectStore.content c.loop-i.heap) c.args.d c.args.source c.args.from c.args.target
    c.args.to c.args.count c.loop-i.i end c.loop-i.invariant

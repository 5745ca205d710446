-- Each unit is read from the one text, which stays as it was, and put into the other.
use Rattle.std.proofs.Common.{◌≡◌, ◌+◌, arith}
use Rattle.heap_loops.proofs.UnitsSoFar.{all_copied, ends_early, has_unit, none_written, takes_unit, unit_copied}
use Rattle.std.proofs.Common.{drop}
use Rattle.heap_loops.proofs.texts.copy_units.Goals as goal

pub loop-i-init : goal.loop-i-init
loop-i-init g c = λ text live.
    none_written (g.H.ObjectStore.content c.args.heap.now) c.args.d c.args.target c.args.to (drop c.args.from text)
    (g.met.H.ObjectStore.holds c.args.heap.now)

pub overflow_add-from : goal.overflow_add-from
overflow_add-from g c =
    let end = ends_early (g.H.ObjectStore.content c.args.heap.now) c.args.d c.args.source (c.args.from + c.args.count)
    (g.met.H.ObjectStore.holds c.args.heap.now) c.requires.source in
    let within = c.loop-i-test.true in
    omega arith

pub overflow_add-to : goal.overflow_add-to
overflow_add-to g c =
    let end = ends_early (g.H.ObjectStore.content c.args.heap.now) c.args.d c.args.target (c.args.to + c.args.count)
    (g.met.H.ObjectStore.holds c.args.heap.now) c.requires.target in
    let within = c.loop-i-test.true in
    omega arith

pub read-unit-requires : goal.read-unit-requires
read-unit-requires g c =
    has_unit (g.H.ObjectStore.content c.args.heap.now) (g.H.ObjectStore.content c.loop-i.heap) c.args.d c.args.source c.args.from c.args.target
    c.args.to c.args.count c.loop-i.i (g.met.H.ObjectStore.holds c.args.heap.now) c.requires.differ c.requires.source c.requires.target
    c.loop-i-test.true c.loop-i.invariant c.args.t.now

pub write-requires : goal.write-requires
write-requires g c =
    takes_unit (g.H.ObjectStore.content c.args.heap.now) (g.H.ObjectStore.content c.loop-i.heap) c.args.d c.args.source c.args.from c.args.target
    c.args.to c.args.count c.loop-i.i (g.met.H.ObjectStore.holds c.args.heap.now) c.requires.differ c.requires.source c.requires.target
    c.loop-i-test.true c.loop-i.invariant c.read-unit.result c.read-unit.ensures c.args.t.now

pub loop-i-preserved : goal.loop-i-preserved
loop-i-preserved g c =
    unit_copied (g.H.ObjectStore.content c.args.heap.now) (g.H.ObjectStore.content c.loop-i.heap) c.args.d c.args.source c.args.from c.args.target
    c.args.to c.args.count c.loop-i.i (g.met.H.ObjectStore.holds c.args.heap.now) c.requires.differ c.requires.source c.requires.target
    c.loop-i-test.true c.loop-i.invariant c.read-unit.result c.read-unit.ensures (g.H.ObjectStore.content c.write.new.self) c.write.ensures

pub returns : goal.returns
returns g c =
    let end : c.loop-i.i ≡ c.args.count = omega (arith, c.loop-i-test.false, c.loop-i.auto.i-end) in
    all_copied (g.H.ObjectStore.content c.args.heap.now) (g.H.ObjectStore.content c.loop-i.heap) c.args.d c.args.source c.args.from c.args.target
    c.args.to c.args.count c.loop-i.i c.requires.source end c.loop-i.invariant

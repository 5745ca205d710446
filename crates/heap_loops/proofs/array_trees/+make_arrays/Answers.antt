-- Each item is an array that is made by the counts below, where there are some; the room that all of them take together is there.
use Rattle.std.proofs.Common.{◌≡◌, ◌-◌, ◌<◌, ◌≤◌, length, sym, ap, subst, arith, rules}
use Rattle.jk_model_classes.specs.declared.records.BaseRef.{BaseRef}
use Rattle.jk_model_classes.specs.declared.records.TypeRef.{TypeRef}
use Rattle.jk_model_heap_rows.specs.ArrayTrees.{tree_words}
use Rattle.object_store.specs.HeapContents.{HasBase, IsAdmitted, words_left}
use Rattle.heap_loops.proofs.TreesSoFar.{grown_tree, is_none, is_some, leaf_tree, room_left, root_made, still_admitted, takes_tree, tree_put}
use Rattle.heap_loops.proofs.array_trees.+make_arrays.Goals as goal

pub returns-then-is_empty-clause-made : goal.returns-then-is_empty-clause-made
returns-then-is_empty-clause-made g t c =
    leaf_tree (g.H.ObjectStore.content c.args.heap.now) (g.H.ObjectStore.content c.make.new.self) c.args.t.now c.args.d c.args.kind.now
    c.element_of-element.result c.args.counts.now c.in-Some.more.now c.in-Some.count.now c.in-Ok.a c.element_of-element.ensures
    c.in-Some.ensures.cases.0 (is_none c.in-Some.more.now c.is_empty.result c.is_empty.ensures c.if-is_empty.true)
    (g.met.H.ObjectStore.holds c.make.new.self) c.in-Ok.ensures.ok

pub loop-i-init : goal.loop-i-init
loop-i-init g t c =
    root_made (g.H.ObjectStore.content c.args.heap.now) (g.H.ObjectStore.content c.make.new.self) c.args.t.now c.args.d
    c.element_of-element.result c.in-Some.more.now c.in-Some.count.now c.in-Ok.a c.in-Ok.ensures.ok

pub make_arrays-item-requires : goal.make_arrays-item-requires
make_arrays-item-requires g t c =
    let long = c.in-Some.ensures.cases.1 in
    let dims : c.element_of-element.result.dims ≡ c.args.kind.now.dims - 1 = ap (λ (k : TypeRef). k.dims) c.element_of-element.ensures in
    let bases : c.args.kind.now.base ≡ c.element_of-element.result.base = sym (ap (λ (k : TypeRef). k.base) c.element_of-element.ensures) in
    let smaller : length c.in-Some.more.now < length c.args.counts.now = omega (arith, long) in
    let admitted : IsAdmitted (g.H.ObjectStore.content c.loop-i.heap) c.args.d =
    still_admitted (g.H.ObjectStore.content c.args.heap.now) (g.H.ObjectStore.content c.loop-i.heap) c.args.t.now c.args.d
    c.element_of-element.result c.in-Some.more.now c.in-Some.count.now c.in-Ok.a c.loop-i.i c.loop-i.invariant c.requires.admitted in
    let class : HasBase c.args.t.now c.element_of-element.result.base = subst (λ (b : BaseRef). HasBase c.args.t.now b) bases c.requires.class in
    let some : 0 < length c.in-Some.more.now = is_some c.in-Some.more.now c.is_empty.result c.is_empty.ensures c.if-is_empty.false in
    let deep = c.requires.few in
    let few : length c.in-Some.more.now ≤ c.element_of-element.result.dims = omega (arith, long, dims, deep) in
    let room : tree_words c.element_of-element.result c.in-Some.more.now ≤ words_left (g.H.ObjectStore.content c.loop-i.heap) c.args.d =
    room_left (g.H.ObjectStore.content c.args.heap.now) (g.H.ObjectStore.content c.loop-i.heap) c.args.t.now c.args.d c.args.kind.now
    c.element_of-element.result c.args.counts.now c.in-Some.more.now c.in-Some.count.now c.in-Ok.a c.element_of-element.ensures
    c.in-Some.ensures.cases.0 c.loop-i.i c.loop-i-test.true c.loop-i.invariant c.requires.room in
    search rules

pub write-requires : goal.write-requires
write-requires g t c =
    let long = c.in-Some.ensures.cases.1 in
    let dims : c.element_of-element.result.dims ≡ c.args.kind.now.dims - 1 = ap (λ (k : TypeRef). k.dims) c.element_of-element.ensures in
    let some : 0 < length c.in-Some.more.now = is_some c.in-Some.more.now c.is_empty.result c.is_empty.ensures c.if-is_empty.false in
    let few = c.requires.few in
    let deep : 0 < c.element_of-element.result.dims = omega (arith, long, dims, few) in
    takes_tree (g.H.ObjectStore.content c.args.heap.now) (g.H.ObjectStore.content c.loop-i.heap) (g.H.ObjectStore.content c.make_arrays-item.new.heap)
    c.args.t.now c.args.d c.element_of-element.result c.in-Some.more.now c.in-Some.count.now c.in-Ok.a c.loop-i.i c.make_arrays-item.result
    c.loop-i-test.true c.loop-i.invariant (g.met.H.ObjectStore.holds c.make_arrays-item.new.heap) c.make_arrays-item.ensures.made.0
    c.make_arrays-item.ensures.made.1 c.make_arrays-item.ensures.made.2 c.make_arrays-item.ensures.small deep

pub loop-i-preserved : goal.loop-i-preserved
loop-i-preserved g t c =
    let long = c.in-Some.ensures.cases.1 in
    let dims : c.element_of-element.result.dims ≡ c.args.kind.now.dims - 1 = ap (λ (k : TypeRef). k.dims) c.element_of-element.ensures in
    let some : 0 < length c.in-Some.more.now = is_some c.in-Some.more.now c.is_empty.result c.is_empty.ensures c.if-is_empty.false in
    let few = c.requires.few in
    let deep : 0 < c.element_of-element.result.dims = omega (arith, long, dims, few) in
    tree_put (g.H.ObjectStore.content c.args.heap.now) (g.H.ObjectStore.content c.loop-i.heap) (g.H.ObjectStore.content c.make_arrays-item.new.heap)
    c.args.t.now c.args.d c.element_of-element.result c.in-Some.more.now c.in-Some.count.now c.in-Ok.a c.loop-i.i c.make_arrays-item.result
    c.loop-i-test.true c.loop-i.invariant (g.met.H.ObjectStore.holds c.make_arrays-item.new.heap) c.make_arrays-item.ensures.made.0
    c.make_arrays-item.ensures.made.1 c.make_arrays-item.ensures.made.2 c.make_arrays-item.ensures.small deep
    (g.H.ObjectStore.content c.write.new.self) c.write.ensures

pub returns-clause-made : goal.returns-clause-made
returns-clause-made g t c =
    let end : c.loop-i.i ≡ c.in-Some.count.now = omega (arith, c.loop-i-test.false, c.loop-i.auto.i-end) in
    grown_tree (g.H.ObjectStore.content c.args.heap.now) (g.H.ObjectStore.content c.loop-i.heap) c.args.t.now c.args.d c.args.kind.now
    c.element_of-element.result c.args.counts.now c.in-Some.more.now c.in-Some.count.now c.in-Ok.a c.element_of-element.ensures
    c.in-Some.ensures.cases.0 c.loop-i.i end (g.met.H.ObjectStore.holds c.loop-i.heap) c.loop-i.invariant

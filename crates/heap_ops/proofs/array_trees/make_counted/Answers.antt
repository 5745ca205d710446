-- The arrays are made where all of them fit together.
use Rattle.std.proofs.Common.{List, sym, subst, ◌∙◌, arith}
use Rattle.jk_model_classes.specs.declared.records.ClassRecord.{ClassRecord}
use Rattle.jk_model_heap_rows.specs.ArrayTrees.{tree_words}
use Rattle.heap_loops.specs.ObjectsMade.{MakesObjects}
use Rattle.object_store.specs.HeapContents.{HasBase}
use Rattle.heap_ops.proofs.ArraysNew.{base_there}
use Rattle.heap_ops.proofs.DoingHere.{Doing, doing}
use Rattle.heap_ops.proofs.TreesMade.{arrays_pushed, few_bytes, many_there, names_type, some_sizes, trees_fit, trees_lack, words_fail}
use Rattle.heap_ops.proofs.array_trees.make_counted.Goals as goal

pub type_named-kind-requires : goal.type_named-kind-requires
type_named-kind-requires g c =
    let heaps = g.H.ObjectStore.content c.args.heap.now in
    let frames = g.F.SegmentFrames.content c.args.frames.now in
    let k = doing heaps frames c.args.here.now c.requires.may in
    names_type heaps frames c.args.here.now k c.requires.op

pub arrays_words-requires : goal.arrays_words-requires
arrays_words-requires g c =
    let heaps = g.H.ObjectStore.content c.args.heap.now in
    let frames = g.F.SegmentFrames.content c.args.frames.now in
    let k = doing heaps frames c.args.here.now c.requires.may in
    (some_sizes heaps frames c.args.here.now k c.requires.op c.requires.counts.0 c.requires.counts.1 c.requires.counts.2 c.args.counts.now c.requires.counts.3
    c.type_named-kind.result.now c.type_named-kind.ensures).1

pub returns-then-not-fits : goal.returns-then-not-fits
returns-then-not-fits g c = λ own shared x may setting.
    let heaps = g.H.ObjectStore.content c.args.heap.now in
    let frames = g.F.SegmentFrames.content c.args.frames.now in
    let k : Doing heaps frames c.args.here.now =
    record { own = own; shared = shared; may = may; kind = c.requires.may.kind; setting = x; is_setting = setting } in
    words_fail heaps frames c.args.here.now k c.requires.op c.requires.counts.0 c.requires.counts.1 c.requires.counts.2 c.args.counts.now c.requires.counts.3
    c.type_named-kind.result.now c.type_named-kind.ensures
    (trees_lack heaps c.args.here.now.domain (tree_words c.type_named-kind.result.now c.args.counts.now) c.arrays_words.result c.from-free.result
    c.fits.result (g.met.H.ObjectStore.holds c.args.heap.now) (c.from-free.ensures ∙ c.free.ensures) c.arrays_words.ensures c.fits.ensures c.if-not-fits.true)

pub make_arrays-a-requires-clause-class : goal.make_arrays-a-requires-clause-class
make_arrays-a-requires-clause-class g c =
    let heaps = g.H.ObjectStore.content c.args.heap.now in
    let frames = g.F.SegmentFrames.content c.args.frames.now in
    let k = doing heaps frames c.args.here.now c.requires.may in
    let there : HasBase c.classes.result.now c.type_named-kind.result.now.base =
    subst (λ (classes : List ClassRecord). HasBase classes c.type_named-kind.result.now.base) (sym c.classes.ensures)
    (base_there heaps frames c.args.here.now k c.type_named-kind.result.now c.type_named-kind.ensures) in
    there

pub make_arrays-a-requires-clause-some : goal.make_arrays-a-requires-clause-some
make_arrays-a-requires-clause-some g c =
    let heaps = g.H.ObjectStore.content c.args.heap.now in
    let frames = g.F.SegmentFrames.content c.args.frames.now in
    let k = doing heaps frames c.args.here.now c.requires.may in
    let some = (some_sizes heaps frames c.args.here.now k c.requires.op c.requires.counts.0 c.requires.counts.1 c.requires.counts.2 c.args.counts.now
    c.requires.counts.3
    c.type_named-kind.result.now c.type_named-kind.ensures).0 in
    omega (arith, some)

pub make_arrays-a-requires-clause-few : goal.make_arrays-a-requires-clause-few
make_arrays-a-requires-clause-few g c =
    let heaps = g.H.ObjectStore.content c.args.heap.now in
    let frames = g.F.SegmentFrames.content c.args.frames.now in
    let k = doing heaps frames c.args.here.now c.requires.may in
    (some_sizes heaps frames c.args.here.now k c.requires.op c.requires.counts.0 c.requires.counts.1 c.requires.counts.2 c.args.counts.now c.requires.counts.3
    c.type_named-kind.result.now c.type_named-kind.ensures).1

pub make_arrays-a-requires-clause-room : goal.make_arrays-a-requires-clause-room
make_arrays-a-requires-clause-room g c =
    let heaps = g.H.ObjectStore.content c.args.heap.now in
    let frames = g.F.SegmentFrames.content c.args.frames.now in
    let k = doing heaps frames c.args.here.now c.requires.may in
    (trees_fit heaps c.args.here.now.domain (tree_words c.type_named-kind.result.now c.args.counts.now) c.arrays_words.result c.from-free.result
    c.fits.result (c.from-free.ensures ∙ c.free.ensures) c.arrays_words.ensures c.fits.ensures c.if-not-fits.false)

pub overflow_cast-counts : goal.overflow_cast-counts
overflow_cast-counts g c =
    let heaps = g.H.ObjectStore.content c.args.heap.now in
    let frames = g.F.SegmentFrames.content c.args.frames.now in
    let k = doing heaps frames c.args.here.now c.requires.may in
    few_bytes heaps frames c.args.here.now k c.requires.op c.requires.counts.0 c.requires.counts.1 c.requires.counts.2 c.args.counts.now c.requires.counts.3
    c.type_named-kind.result.now c.type_named-kind.ensures

pub replace-requires-clause-many : goal.replace-requires-clause-many
replace-requires-clause-many g c =
    let heaps = g.H.ObjectStore.content c.args.heap.now in
    let frames = g.F.SegmentFrames.content c.args.frames.now in
    let k = doing heaps frames c.args.here.now c.requires.may in
    many_there heaps frames c.args.here.now k c.requires.op c.requires.counts.0 c.requires.counts.1 c.requires.counts.2 c.args.counts.now c.requires.counts.3
    c.type_named-kind.result.now c.type_named-kind.ensures

pub replace-requires-clause-some : goal.replace-requires-clause-some
replace-requires-clause-some g c =
    let heaps = g.H.ObjectStore.content c.args.heap.now in
    let frames = g.F.SegmentFrames.content c.args.frames.now in
    let k = doing heaps frames c.args.here.now c.requires.may in
    let some = (some_sizes heaps frames c.args.here.now k c.requires.op c.requires.counts.0 c.requires.counts.1 c.requires.counts.2 c.args.counts.now
    c.requires.counts.3
    c.type_named-kind.result.now c.type_named-kind.ensures).0 in
    some

pub returns : goal.returns
returns g c = λ own shared x may setting.
    let heaps = g.H.ObjectStore.content c.args.heap.now in
    let frames = g.F.SegmentFrames.content c.args.frames.now in
    let k : Doing heaps frames c.args.here.now =
    record { own = own; shared = shared; may = may; kind = c.requires.may.kind; setting = x; is_setting = setting } in
    let after = g.H.ObjectStore.content c.make_arrays-a.new.heap in
    arrays_pushed heaps frames c.args.here.now k c.requires.op c.requires.counts.0 c.requires.counts.1 c.requires.counts.2 c.args.counts.now
    c.requires.counts.3
    c.type_named-kind.result.now c.type_named-kind.ensures
    (g.met.H.ObjectStore.holds c.args.heap.now)
    (trees_fit heaps c.args.here.now.domain (tree_words c.type_named-kind.result.now c.args.counts.now) c.arrays_words.result c.from-free.result
    c.fits.result (c.from-free.ensures ∙ c.free.ensures) c.arrays_words.ensures c.fits.ensures c.if-not-fits.false)
    after (g.F.SegmentFrames.content c.replace.new.frames) c.make_arrays-a.result c.make_arrays-a.ensures.made.0 c.make_arrays-a.ensures.made.1
    (subst (λ (classes : List ClassRecord). MakesObjects heaps after classes c.args.here.now.domain c.make_arrays-a.ensures.made.0) c.classes.ensures
    c.make_arrays-a.ensures.made.2) c.replace.ensures

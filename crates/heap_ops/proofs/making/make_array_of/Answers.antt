-- A negative count is met first; else the array is pushed where it fits.
use Rattle.std.proofs.Common.{◌<◌, ◌≤◌, List, subst, ◌∙◌}
use Rattle.std.proofs.lemmas.Result.{err_from_is_err_and}
use Rattle.jk_model.specs.declared.steps.Raise.TheVariants as Raised
use Rattle.jk_model_classes.specs.declared.records.ClassRecord.{ClassRecord}
use Rattle.jk_model_heaps.specs.declared.shapes.Shape.TheVariants as Of
use Rattle.jk_model_heaps.specs.Heaps.{zero_object}
use Rattle.jk_model_heaps.specs.SystemClasses.{NEGATIVE_ARRAY_SIZE_EXCEPTION}
use Rattle.object_store.specs.HeapContents.{MakesObject, shape_words, words_left}
use Rattle.heap_ops.proofs.ArraysNew.{array_fails, array_pushed, count_below, negative_raises, one_there}
use Rattle.heap_ops.proofs.DoingHere.{Doing, answered, doing}
use Rattle.heap_ops.proofs.making.make_array_of.Goals as goal

pub count_at-requires : goal.count_at-requires
count_at-requires g c =
    let heaps = g.H.ObjectStore.content c.args.heap.now in
    let frames = g.F.SegmentFrames.content c.args.frames.now in
    count_below heaps frames c.args.here.now (doing heaps frames c.args.here.now c.requires.may) c.args.element c.requires.of

pub returns-in_err-count : goal.returns-in_err-count
returns-in_err-count g c = λ own shared x may setting.
    let heaps = g.H.ObjectStore.content c.args.heap.now in
    let frames = g.F.SegmentFrames.content c.args.frames.now in
    let k : Doing heaps frames c.args.here.now =
    record { own = own; shared = shared; may = may; kind = c.requires.may.kind; setting = x; is_setting = setting } in
    let p = err_from_is_err_and c.from_residual.result c.from_residual.ensures.1 in
    let e = c.in_err-count.ensures in
    answered heaps frames c.args.here.now k heaps frames own c.from_residual.result p.0 (Raised.Fresh NEGATIVE_ARRAY_SIZE_EXCEPTION) p.1 (p.2 ∙ e.1)
    (negative_raises heaps frames c.args.here.now k c.args.element c.requires.of e.0.0 e.0.1 e.0.2)

pub replace-requires-clause-many : goal.replace-requires-clause-many
replace-requires-clause-many g c =
    let heaps = g.H.ObjectStore.content c.args.heap.now in
    let frames = g.F.SegmentFrames.content c.args.frames.now in
    one_there heaps frames c.args.here.now (doing heaps frames c.args.here.now c.requires.may) c.args.element c.requires.of

pub returns-in-Ok : goal.returns-in-Ok
returns-in-Ok g c = λ own shared x may setting.
    let heaps = g.H.ObjectStore.content c.args.heap.now in
    let frames = g.F.SegmentFrames.content c.args.frames.now in
    let after = g.H.ObjectStore.content c.make.new.self in
    let k : Doing heaps frames c.args.here.now =
    record { own = own; shared = shared; may = may; kind = c.requires.may.kind; setting = x; is_setting = setting } in
    array_pushed heaps frames c.args.here.now k c.args.element c.requires.of c.in_ok-count.count c.in_ok-count.ensures
    (g.met.H.ObjectStore.holds c.args.heap.now) after (g.F.SegmentFrames.content c.replace.new.frames) c.in-Ok.a
    (subst (λ (classes : List ClassRecord). MakesObject heaps after classes c.args.here.now.domain c.in-Ok.a
    (zero_object classes (Of.Array c.args.element c.in_ok-count.count))) c.classes.ensures c.in-Ok.ensures.ok)
    (subst (λ (classes : List ClassRecord). shape_words classes (Of.Array c.args.element c.in_ok-count.count) ≤ words_left heaps c.args.here.now.domain)
    c.classes.ensures c.in-Ok.ensures.room) c.replace.ensures

pub returns-in-Err : goal.returns-in-Err
returns-in-Err g c = λ own shared x may setting.
    let heaps = g.H.ObjectStore.content c.args.heap.now in
    let frames = g.F.SegmentFrames.content c.args.frames.now in
    let after = g.H.ObjectStore.content c.make.new.self in
    let k : Doing heaps frames c.args.here.now =
    record { own = own; shared = shared; may = may; kind = c.requires.may.kind; setting = x; is_setting = setting } in
    array_fails heaps frames c.args.here.now k c.args.element c.requires.of c.in_ok-count.count c.in_ok-count.ensures after c.in-Err.ensures.err
    (subst (λ (classes : List ClassRecord). words_left heaps c.args.here.now.domain < shape_words classes (Of.Array c.args.element c.in_ok-count.count))
    c.classes.ensures c.in-Err.ensures.no_room)

-- What stands at a place is read, and its image is written, unless the field is transient.
use Rattle.std.proofs.Common.{◌≡◌, ◌<◌, sym, ◌∙◌, subst, arith}
use Rattle.jk_model_heaps.specs.declared.shapes.Shape.{Shape}
use Rattle.object_store.specs.HeapContents.{HasShapeClasses}
use Rattle.graph_copy.specs.Places.{place_count}
use Rattle.graph_copy.proofs.OneFilled.{empty_is_written, few_to_fill, has_place, is_filled, is_left, item_is_taken, wholly_written, value_has_image}
use Rattle.graph_copy.proofs.filling.fill_one.Goals as goal

pub shape-shape-requires : goal.shape-shape-requires
shape-shape-requires g c = (c.requires.may.object, c.requires.may.live)

pub kind_of-kind-requires-clause-classes : goal.kind_of-kind-requires-clause-classes
kind_of-kind-requires-clause-classes g c =
    subst (λ (p : Shape). HasShapeClasses c.args.t.now p) (sym (c.shape-shape.ensures c.requires.may.object c.requires.may.live)) c.requires.may.has_classes

pub kind_of-kind-requires-clause-few : goal.kind_of-kind-requires-clause-few
kind_of-kind-requires-clause-few g c =
    few_to_fill (g.H.ObjectStore.content c.args.store.now) c.args.t.now c.args.from c.args.to c.args.a c.args.b c.shape-shape.result
    (g.met.H.ObjectStore.holds c.args.store.now) c.requires.may c.shape-shape.ensures

pub loop-i-init : goal.loop-i-init
loop-i-init g c = λ object live.
    empty_is_written (g.H.ObjectStore.content c.args.store.now) c.args.t.now c.args.from c.args.to c.args.a c.args.b object
    (g.met.H.ObjectStore.holds c.args.store.now) c.requires.may live

pub is_kept-requires-clause-classes : goal.is_kept-requires-clause-classes
is_kept-requires-clause-classes g c =
    subst (λ (p : Shape). HasShapeClasses c.args.t.now p) (sym (c.shape-shape.ensures c.requires.may.object c.requires.may.live)) c.requires.may.has_classes

pub is_kept-requires-clause-place : goal.is_kept-requires-clause-place
is_kept-requires-clause-place g c =
    let count : c.kind_of-kind.result.places ≡ place_count c.args.t.now c.shape-shape.result = c.kind_of-kind.ensures.kind.places in
    let within = c.loop-i-test.true in
    omega (arith, count, within)

pub read-requires : goal.read-requires
read-requires g c =
    let within : c.loop-i.i < place_count c.args.t.now c.shape-shape.result =
    let count : c.kind_of-kind.result.places ≡ place_count c.args.t.now c.shape-shape.result = c.kind_of-kind.ensures.kind.places in
    let test = c.loop-i-test.true in
    omega (arith, count, test) in
    has_place (g.H.ObjectStore.content c.args.store.now) (g.H.ObjectStore.content c.loop-i.store) c.args.t.now c.args.from c.args.to c.args.a
    c.args.b c.loop-i.i c.shape-shape.result c.requires.may c.shape-shape.ensures within c.loop-i.invariant

pub image-v-requires : goal.image-v-requires
image-v-requires g c =
    let within : c.loop-i.i < place_count c.args.t.now c.shape-shape.result =
    let count : c.kind_of-kind.result.places ≡ place_count c.args.t.now c.shape-shape.result = c.kind_of-kind.ensures.kind.places in
    let test = c.loop-i-test.true in
    omega (arith, count, test) in
    value_has_image (g.H.ObjectStore.content c.args.store.now) (g.H.ObjectStore.content c.loop-i.store) c.args.t.now c.args.from c.args.to c.args.a
    c.args.b c.loop-i.i c.shape-shape.result c.requires.may c.shape-shape.ensures within c.loop-i.invariant
    c.is_kept.result c.is_kept.ensures c.read.result c.read.ensures c.if-not-is_kept.false

pub write-requires : goal.write-requires
write-requires g c =
    let within : c.loop-i.i < place_count c.args.t.now c.shape-shape.result =
    let count : c.kind_of-kind.result.places ≡ place_count c.args.t.now c.shape-shape.result = c.kind_of-kind.ensures.kind.places in
    let test = c.loop-i-test.true in
    omega (arith, count, test) in
    item_is_taken (g.H.ObjectStore.content c.args.store.now) (g.H.ObjectStore.content c.loop-i.store) c.args.t.now c.args.from c.args.to c.args.a
    c.args.b c.loop-i.i c.shape-shape.result c.requires.may c.shape-shape.ensures within c.loop-i.invariant
    c.is_kept.result c.is_kept.ensures c.read.result c.read.ensures c.if-not-is_kept.false (g.met.H.ObjectStore.holds c.args.store.now) c.image-v.result
    c.image-v.ensures

pub loop-i-preserved-then-not-is_kept : goal.loop-i-preserved-then-not-is_kept
loop-i-preserved-then-not-is_kept g c =
    let within : c.loop-i.i < place_count c.args.t.now c.shape-shape.result =
    let count : c.kind_of-kind.result.places ≡ place_count c.args.t.now c.shape-shape.result = c.kind_of-kind.ensures.kind.places in
    let test = c.loop-i-test.true in
    omega (arith, count, test) in
    is_left (g.H.ObjectStore.content c.args.store.now) (g.H.ObjectStore.content c.loop-i.store) c.args.t.now c.args.from c.args.to c.args.a
    c.args.b c.loop-i.i c.shape-shape.result c.requires.may c.shape-shape.ensures within c.loop-i.invariant
    c.is_kept.result c.is_kept.ensures c.if-not-is_kept.true

pub loop-i-preserved : goal.loop-i-preserved
loop-i-preserved g c =
    let within : c.loop-i.i < place_count c.args.t.now c.shape-shape.result =
    let count : c.kind_of-kind.result.places ≡ place_count c.args.t.now c.shape-shape.result = c.kind_of-kind.ensures.kind.places in
    let test = c.loop-i-test.true in
    omega (arith, count, test) in
    is_filled (g.H.ObjectStore.content c.args.store.now) (g.H.ObjectStore.content c.loop-i.store) c.args.t.now c.args.from c.args.to c.args.a
    c.args.b c.loop-i.i c.shape-shape.result c.requires.may c.shape-shape.ensures within c.loop-i.invariant
    c.is_kept.result c.is_kept.ensures c.read.result c.read.ensures c.if-not-is_kept.false (g.met.H.ObjectStore.holds c.args.store.now) c.image-v.result
    c.image-v.ensures (g.H.ObjectStore.content c.write.new.self) c.write.ensures

pub returns-clause-written : goal.returns-clause-written
returns-clause-written g c =
    let end : c.loop-i.i ≡ c.kind_of-kind.result.places = omega (arith, c.loop-i-test.false, c.loop-i.auto.i-end) in
    wholly_written (g.H.ObjectStore.content c.args.store.now) (g.H.ObjectStore.content c.loop-i.store) c.args.t.now c.args.from c.args.to c.args.a
    c.args.b c.loop-i.i c.shape-shape.result c.requires.may c.shape-shape.ensures (end ∙ c.kind_of-kind.ensures.kind.places) c.loop-i.invariant

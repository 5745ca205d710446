-- There is room, so the object is made.
use Rattle.std.proofs.Common.{◌≡◌, ◌<◌, sym, ap, ◌∙◌, subst, arith}
use Rattle.jk_model_domains.specs.Objects.{object_words}
use Rattle.jk_model_heaps.specs.declared.shapes.Shape.{Shape}
use Rattle.jk_model_heaps.specs.Heaps.{zero_object}
use Rattle.object_store.specs.HeapContents.{HasShapeClasses, MakesObject, shape_words, words_left}
use Rattle.graph_copy.proofs.WordsFound.{words_of_shape}
use Rattle.graph_copy.proofs.laying.make_like.Goals as goal

pub shape-shape-requires : goal.shape-shape-requires
shape-shape-requires g c = (c.requires.object, c.requires.live)

pub make-requires-clause-admitted : goal.make-requires-clause-admitted
make-requires-clause-admitted g c = c.requires.admitted

pub make-requires-clause-classes : goal.make-requires-clause-classes
make-requires-clause-classes g c =
    subst (λ (p : Shape). HasShapeClasses c.args.t.now p) (sym (c.shape-shape.ensures c.requires.object c.requires.live)) c.requires.has_classes

pub unreachable-requires : goal.unreachable-requires
unreachable-requires g c =
    let is = c.shape-shape.ensures c.requires.object c.requires.live in
    let cost : shape_words c.args.t.now c.shape-shape.result ≡ object_words c.args.t.now c.requires.object =
    ap (shape_words c.args.t.now) is ∙ words_of_shape c.args.t.now c.requires.object in
    let lacks : words_left (g.H.ObjectStore.content c.args.store.now) c.args.to < shape_words c.args.t.now c.shape-shape.result =
    c.in-Err.ensures.no_room in
    omega (arith, cost, lacks, c.requires.fits)

pub returns : goal.returns
returns g c = λ object live.
    subst (λ (p : Shape). MakesObject (g.H.ObjectStore.content c.args.store.now) (g.H.ObjectStore.content c.make.new.self) c.args.t.now c.args.to
    c.in-Ok.b (zero_object c.args.t.now p)) (c.shape-shape.ensures object live) c.in-Ok.ensures.ok

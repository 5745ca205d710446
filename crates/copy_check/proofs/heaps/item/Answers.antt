-- The object is good, and has the place.
use Rattle.std.proofs.Common.{◌<◌, sym, subst, arith}
use Rattle.jk_model_heaps.specs.declared.shapes.Shape.{Shape}
use Rattle.object_store.specs.HeapContents.{HasShapeClasses}
use Rattle.graph_copy.specs.Places.{place_count}
use Rattle.copy_check.proofs.ReadyStill.{has_item}
use Rattle.copy_check.proofs.heaps.item.Goals as goal

pub places-count-requires : goal.places-count-requires
places-count-requires g c =
    let name = c.is_name.ensures c.if-not-is_name.false in
    subst (λ (p : Shape). HasShapeClasses c.args.t.now p) (sym (c.shape-shape.ensures name.0 name.1))
    ((c.requires.ready.each c.args.d c.requires.domain).good c.args.a name.0 name.1).has_classes

pub read-requires : goal.read-requires
read-requires g c =
    let within : c.args.i < place_count c.args.t.now c.shape-shape.result = omega (arith, c.places-count.ensures) in
    has_item (g.H.ObjectStore.content c.args.store.now) c.args.t.now c.args.d c.args.a c.args.i c.shape-shape.result c.requires.domain
    c.requires.ready (c.is_name.ensures c.if-not-is_name.false) c.shape-shape.ensures within

pub returns : goal.returns
returns g c = record { named = c.is_name.ensures c.if-not-is_name.false; value = c.read.ensures }

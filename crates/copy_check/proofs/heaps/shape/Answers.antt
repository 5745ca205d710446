-- The object is good.
use Rattle.std.proofs.Common.{sym, subst}
use Rattle.jk_model_heaps.specs.declared.shapes.Shape.{Shape}
use Rattle.object_store.specs.HeapContents.{HasShapeClasses}
use Rattle.copy_check.proofs.heaps.shape.Goals as goal

pub returns : goal.returns
returns g c =
    let name = c.is_name.ensures c.if-not-is_name.false in
    subst (λ (p : Shape). HasShapeClasses c.args.t.now p) (sym (c.shape.ensures name.0 name.1))
    ((c.requires.ready.each c.args.d c.requires.domain).good c.args.a name.0 name.1).has_classes

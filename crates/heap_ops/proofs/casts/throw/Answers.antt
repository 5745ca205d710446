-- Null is met first; else the object is raised.
use Rattle.std.proofs.Common.{◌∙◌}
use Rattle.std.proofs.lemmas.Result.{err_from_is_err_and}
use Rattle.jk_model.specs.declared.steps.Raise.TheVariants as Raised
use Rattle.jk_model_heaps.specs.SystemClasses.{NULL_POINTER_EXCEPTION}
use Rattle.heap_ops.proofs.DoingHere.{Doing, answered, doing}
use Rattle.heap_ops.proofs.Throws.{null_raises, object_below, object_raises}
use Rattle.heap_ops.proofs.casts.throw.Goals as goal

pub object_at-requires : goal.object_at-requires
object_at-requires g c =
    let heaps = c.requires.may.0 in
    let frames = g.F.SegmentFrames.content c.args.frames.now in
    object_below heaps frames c.args.here.now (doing heaps frames c.args.here.now c.requires.may.1) c.requires.op

pub returns-in_err-a : goal.returns-in_err-a
returns-in_err-a g c = λ heaps own shared x may setting.
    let frames = g.F.SegmentFrames.content c.args.frames.now in
    let k : Doing heaps frames c.args.here.now =
    record { own = own; shared = shared; may = may; kind = c.requires.may.1.kind; setting = x; is_setting = setting } in
    let p = err_from_is_err_and c.from_residual.result c.from_residual.ensures.1 in
    let e = c.in_err-a.ensures in
    answered heaps frames c.args.here.now k heaps frames own c.from_residual.result p.0 (Raised.Fresh NULL_POINTER_EXCEPTION) p.1 (p.2 ∙ e.1)
    (null_raises heaps frames c.args.here.now k c.requires.op e.0)

pub returns : goal.returns
returns g c = λ heaps own shared x may setting.
    let frames = g.F.SegmentFrames.content c.args.frames.now in
    let k : Doing heaps frames c.args.here.now =
    record { own = own; shared = shared; may = may; kind = c.requires.may.1.kind; setting = x; is_setting = setting } in
    object_raises heaps frames c.args.here.now k c.requires.op c.in_ok-a.a c.in_ok-a.ensures

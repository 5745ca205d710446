-- What a store leaves of the top entry is the field's value then.
use Rattle.std.proofs.Common.{◌+◌, List, sym, subst}
use Rattle.jk_model.specs.declared.steps.After.TheVariants as Next
use Rattle.jk_model_classes.specs.declared.records.ClassRecord.{ClassRecord}
use Rattle.jk_model_classes.specs.Lookups.{FieldIs}
use Rattle.class_init.specs.KeptStates.{KeptState}
use Rattle.heap_ops.specs.OneInstruction.{place_in}
use Rattle.heap_ops.proofs.DoingHere.{Doing, Done, doing_with}
use Rattle.heap_ops.proofs.StaticsUsed.{one_there, put, put_field, put_leads, put_there, value_below, value_put}
use Rattle.heap_ops.proofs.statics.put_static.Goals as goal

pub field_of-field-requires : goal.field_of-field-requires
field_of-field-requires g c =
    let heaps = c.requires.may.0 in
    let frames = g.F.SegmentFrames.content c.args.frames.now in
    put_leads heaps frames c.args.here.now (doing_with heaps frames c.args.own.now c.args.here.now c.requires.may.1) c.requires.op

pub value_at-top-requires : goal.value_at-top-requires
value_at-top-requires g c =
    let heaps = c.requires.may.0 in
    let frames = g.F.SegmentFrames.content c.args.frames.now in
    value_below heaps frames c.args.here.now (doing_with heaps frames c.args.own.now c.args.here.now c.requires.may.1) c.requires.op

pub field_kind-requires : goal.field_kind-requires
field_kind-requires g c =
    let heaps = c.requires.may.0 in
    let frames = g.F.SegmentFrames.content c.args.frames.now in
    let k = doing_with heaps frames c.args.own.now c.args.here.now c.requires.may.1 in
    let there = put_field heaps frames c.args.here.now k c.requires.op c.field_of-field.result c.field_of-field.ensures in
    let f = put heaps frames c.args.here.now k c.requires.op in
    (f.field, subst (λ (classes : List ClassRecord). FieldIs classes c.field_of-field.result f.field) (sym c.classes.ensures) there)

pub set_static-requires : goal.set_static-requires
set_static-requires g c =
    let heaps = c.requires.may.0 in
    let frames = g.F.SegmentFrames.content c.args.frames.now in
    put_there heaps frames c.args.here.now (doing_with heaps frames c.args.own.now c.args.here.now c.requires.may.1) c.requires.op
    c.field_of-field.result c.field_of-field.ensures

pub drop_entries-requires : goal.drop_entries-requires
drop_entries-requires g c =
    let heaps = c.requires.may.0 in
    let frames = g.F.SegmentFrames.content c.args.frames.now in
    one_there heaps frames c.args.here.now (doing_with heaps frames c.args.own.now c.args.here.now c.requires.may.1) c.requires.op

pub returns : goal.returns
returns g c = λ heaps shared x may setting.
    let frames = g.F.SegmentFrames.content c.args.frames.now in
    let after = g.F.SegmentFrames.content c.drop_entries.new.frames in
    let k : Doing heaps frames c.args.here.now =
    record { own = c.args.own.now; shared = shared; may = may; kind = c.requires.may.1.kind; setting = x; is_setting = setting } in
    let there = put_field heaps frames c.args.here.now k c.requires.op c.field_of-field.result c.field_of-field.ensures in
    let f = put heaps frames c.args.here.now k c.requires.op in
    let kind = c.field_kind.ensures f.field
    (subst (λ (classes : List ClassRecord). FieldIs classes c.field_of-field.result f.field) (sym c.classes.ensures) there) in
    subst (λ (o : KeptState). Done heaps frames c.args.here.now k heaps after o (Next.Goto ((place_in c.args.here.now).head.at + 1)))
    (sym c.set_static.ensures)
    (value_put heaps frames c.args.here.now k c.requires.op c.field_of-field.result c.field_of-field.ensures after c.field_kind.result.now
    c.value_at-top.result c.stored-v.result kind c.value_at-top.ensures c.stored-v.ensures c.drop_entries.ensures)

-- System.out is the domain's, and other static fields have their values in the own state.
use Rattle.std.proofs.Common.{◌≡◌, ◌∙◌, List, ap, sym, subst}
use Rattle.jk_model.specs.declared.values.Value.TheVariants as Held
use Rattle.jk_model_classes.specs.declared.records.ClassRecord.{ClassRecord}
use Rattle.jk_model_heap_rows.specs.FieldRows.{IsSystemOut}
use Rattle.heap_ops.proofs.DoingHere.{Doing, doing_with}
use Rattle.heap_ops.proofs.RoomOnStack.{room_for_static}
use Rattle.heap_ops.proofs.StaticsUsed.{got, got_leads, never_true, out_is, static_is, static_there, value_got}
use Rattle.heap_ops.proofs.statics.get_static.Goals as goal
use Rattle.heap_ops.proofs.statics.get_static.Goals.{then-is_system_out, else-is_system_out}

pub field_of-field-requires : goal.field_of-field-requires
field_of-field-requires g c =
    let heaps = c.requires.may.0 in
    let frames = g.F.SegmentFrames.content c.args.frames.now in
    got_leads heaps frames c.args.here.now (doing_with heaps frames c.args.own.now c.args.here.now c.requires.may.1) c.requires.op

pub static_value-v-requires : goal.static_value-v-requires
static_value-v-requires g c =
    let heaps = c.requires.may.0 in
    let frames = g.F.SegmentFrames.content c.args.frames.now in
    static_there heaps frames c.args.here.now (doing_with heaps frames c.args.own.now c.args.here.now c.requires.may.1) c.requires.op
    c.field_of-field.result c.field_of-field.ensures
    (λ out. never_true c.is_system_out.result c.if-is_system_out.false (c.is_system_out.ensures.1
    (subst (λ (classes : List ClassRecord). IsSystemOut classes c.field_of-field.result) (sym c.classes.ensures) out)))

pub push_value-requires : goal.push_value-requires
push_value-requires g c =
    let heaps = c.requires.may.0 in
    let frames = g.F.SegmentFrames.content c.args.frames.now in
    room_for_static heaps frames c.args.here.now (doing_with heaps frames c.args.own.now c.args.here.now c.requires.may.1) c.requires.op

pub returns : goal.returns
returns g c = λ heaps shared x may setting.
    let frames = g.F.SegmentFrames.content c.args.frames.now in
    let k : Doing heaps frames c.args.here.now =
    record { own = c.args.own.now; shared = shared; may = may; kind = c.requires.may.1.kind; setting = x; is_setting = setting } in
    let is : (got heaps frames c.args.here.now k c.requires.op).value ≡ c.if-is_system_out.v = elim c.if-is_system_out.branch [
      | then-is_system_out w ↦
          out_is heaps frames c.args.here.now k c.requires.op c.field_of-field.result c.field_of-field.ensures
          (subst (λ (classes : List ClassRecord). IsSystemOut classes c.field_of-field.result) c.classes.ensures
          (c.is_system_out.ensures.0 w.if-is_system_out.true)) ∙ sym (w.v-is ∙ ap Held.Obj w.out.ensures)
      | else-is_system_out w ↦
          static_is heaps frames c.args.here.now k c.requires.op c.field_of-field.result c.field_of-field.ensures w.static_value-v.result
          (λ out. never_true c.is_system_out.result w.if-is_system_out.false (c.is_system_out.ensures.1
          (subst (λ (classes : List ClassRecord). IsSystemOut classes c.field_of-field.result) (sym c.classes.ensures) out)))
          w.static_value-v.ensures ∙ sym w.v-is
    ] in
    value_got heaps frames c.args.here.now k c.requires.op c.field_of-field.result c.field_of-field.ensures
    (g.F.SegmentFrames.content c.push_value.new.self) c.if-is_system_out.v is c.push_value.ensures

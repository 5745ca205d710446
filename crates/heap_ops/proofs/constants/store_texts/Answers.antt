-- The constant text of one field after the other is set.
use Rattle.std.proofs.Common.{◌≡◌, ◌∙◌, ℕ, List, ap, slice_get, subst, sym, take}
use Rattle.std.specs.Option.{is_some}
use Rattle.list_lemmas.proofs.ItemsOfLists.{Contains-at}
use Rattle.jk_model_classes.specs.declared.records.FieldRecord.{FieldRecord}
use Rattle.heap_ops.proofs.FieldsInTurn.{next_at, next_passed, passed, passed_all}
use Rattle.heap_ops.proofs.TextsStored.{named_now, none_stored, nothing_stored, one_stored, static_there, stored}
use Rattle.heap_ops.proofs.constants.store_texts.Goals as goal
use Rattle.heap_ops.proofs.constants.store_texts.Goals.{in-Some+in-Some-literal, in_default}

pub loop-i-init : goal.loop-i-init
loop-i-init c = none_stored c.args.own.now c.args.c c.args.class.now

pub unreachable-requires : goal.unreachable-requires
unreachable-requires c =
    let r = c.args.class.now in
    let i = c.loop-i.i in
    let field = c.index-fields-i.result in
    let text = c.in-Some.text.now in
    let at = next_at r.fields c.as_slice-fields.result.now c.as_slice-fields.ensures i c.loop-i-test.true field c.index-fields-i.is in
    let named = c.requires.named field text (Contains-at r.fields i field at) c.in-Some.ensures in
    let same = named_now c.args.own.now c.args.c r (take i r.fields) field c.loop-i.own c.loop-i.invariant text c.in-Some.ensures in
    let never = ap is_some (c.in_default-literal.ensures ∙ same) ∙ named in
    cc

pub set_static-requires : goal.set_static-requires
set_static-requires c =
    let r = c.args.class.now in
    let i = c.loop-i.i in
    let field = c.index-fields-i.result in
    let low = c.loop-i-test.true in
    static_there c.args.own.now c.args.c r (take i r.fields) field c.loop-i.own c.loop-i.invariant c.in-Some.text.now c.in-Some.ensures i
    (passed r.fields c.as_slice-fields.result.now c.as_slice-fields.ensures i low) c.requires.statics
    (next_at r.fields c.as_slice-fields.result.now c.as_slice-fields.ensures i low field c.index-fields-i.is)

pub loop-i-preserved : goal.loop-i-preserved
loop-i-preserved c =
    let r = c.args.class.now in
    let own = c.args.own.now in
    let i = c.loop-i.i in
    let field = c.index-fields-i.result in
    let low = c.loop-i-test.true in
    let fields = c.as_slice-fields.result.now in
    let same = c.as_slice-fields.ensures in
    let next = next_passed r.fields fields same i low field c.index-fields-i.is in
    let cut = passed r.fields fields same i low in
    let at = next_at r.fields fields same i low field c.index-fields-i.is in
    subst (λ (fs : List FieldRecord). c.match-text_constant.own ≡ stored own c.args.c r fs) (sym next)
    (elim c.match-text_constant.branch [
      | in-Some+in-Some-literal w ↦
          w.own-is
          ∙ one_stored own c.args.c r (take i r.fields) field c.loop-i.own c.loop-i.invariant w.in-Some.text.now w.in-Some.ensures i cut
          w.set_static.new.self w.in-Some-literal.a w.in-Some-literal.ensures w.set_static.ensures
      | in_default w ↦
          w.own-is
          ∙ nothing_stored own c.args.c r (take i r.fields) field c.loop-i.own c.loop-i.invariant c.requires.statics
          (ap (λ (n : ℕ). slice_get r.fields n) (sym cut) ∙ at) w.in_default.ensures
    ])

pub returns : goal.returns
returns c =
    let r = c.args.class.now in
    subst (λ (fs : List FieldRecord). c.loop-i.own ≡ stored c.args.own.now c.args.c r fs)
    (passed_all r.fields c.as_slice-fields.result.now c.as_slice-fields.ensures c.loop-i.i c.loop-i-test.false) c.loop-i.invariant

-- The one Code is read, or there is none.
use Rattle.std.proofs.Common.{length, refl, arith}
use Rattle.std.proofs.lemmas.Option.{slice_get_read}
use Rattle.list_lemmas.proofs.AnswersTold.{not_so as is_not}
use Rattle.class_lemmas.proofs.SomeItem.{none_yet, none_more}
use Rattle.class_rules.specs.Attributes.{IsCalledBy}
use Rattle.class_rules.specs.declared.texts.Word.TheVariants.{Code}
use Rattle.class_rules.proofs.MethodHasOneCode.{code_found, no_code}
use Rattle.class_rules.proofs.method_codes.one_code.Goals as goal

pub code_of-requires : goal.code_of-requires
code_of-requires c =
    let at = slice_get_read c.args.attributes.now (length c.args.attributes.now) c.loop-a.a-index c.a-item.result refl c.loop-a-test.true c.a-item.is in
    rw c.as_slice.ensures (c.requires.short c.loop-a.a-index c.a-item.result at)

pub loop-a-init : goal.loop-a-init
loop-a-init c = none_yet (IsCalledBy c.args.pool.now.entries.now Code) c.args.attributes.now

pub loop-a-preserved : goal.loop-a-preserved
loop-a-preserved c =
    none_more (IsCalledBy c.args.pool.now.entries.now Code) c.args.attributes.now c.loop-a.a-index c.a-item.result c.loop-a-test.true c.a-item.is
    (is_not c.is_called.result _ c.is_called.ensures c.if-is_called.false) c.loop-a.invariant

pub returns-then-is_called : goal.returns-then-is_called
returns-then-is_called c =
    let at = slice_get_read c.args.attributes.now (length c.args.attributes.now) c.loop-a.a-index c.a-item.result refl c.loop-a-test.true c.a-item.is in
    code_found c.args.pool.now.entries.now c.args.attributes.now c.loop-a.a-index c.a-item.result c.as_slice.result.now c.code_of.result c.requires.one at
    (c.is_called.ensures.0 c.if-is_called.true) c.as_slice.ensures c.code_of.ensures.layout c.code_of.ensures.only

pub returns : goal.returns
returns c = no_code c.args.pool.now.entries.now c.args.attributes.now c.loop-a.a-index (omega arith) c.loop-a.invariant

-- The first is found, or there is none.
use Rattle.std.proofs.Common.{arith}
use Rattle.list_lemmas.proofs.AnswersTold.{not_so as is_not}
use Rattle.class_lemmas.proofs.SomeItem.{none_yet, none_more}
use Rattle.class_rules.specs.Attributes.{HasBadFieldAttributes}
use Rattle.class_rules.proofs.SomeItem.{is_first, is_nowhere}
use Rattle.class_rules.proofs.bad_attributes.first_field.Goals as goal

pub loop-i-init : goal.loop-i-init
loop-i-init c = none_yet (HasBadFieldAttributes c.args.pool.now.entries.now) c.args.fields.now

pub loop-i-preserved : goal.loop-i-preserved
loop-i-preserved c =
    none_more (HasBadFieldAttributes c.args.pool.now.entries.now) c.args.fields.now c.loop-i.i c.index-fields-i.result c.loop-i-test.true c.index-fields-i.is
    (is_not c.has_bad_field_attributes.result _ c.has_bad_field_attributes.ensures c.if-has_bad_field_attributes.false) c.loop-i.invariant

pub returns-then-has_bad_field_attributes : goal.returns-then-has_bad_field_attributes
returns-then-has_bad_field_attributes c = record {
  least = is_first (HasBadFieldAttributes c.args.pool.now.entries.now)
      c.args.fields.now c.loop-i.i c.index-fields-i.result c.loop-i-test.true c.index-fields-i.is
      (c.has_bad_field_attributes.ensures.0 c.if-has_bad_field_attributes.true) c.loop-i.invariant;
  within = c.loop-i-test.true;
}

pub returns : goal.returns
returns c = record {
  least = is_nowhere (HasBadFieldAttributes c.args.pool.now.entries.now) c.args.fields.now c.loop-i.i (omega arith) c.loop-i.invariant;
  within = tt;
}

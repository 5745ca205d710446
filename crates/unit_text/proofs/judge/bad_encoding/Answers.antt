-- The bytes are a text, or they stop being one where no encoding begins.
use Rattle.std.proofs.Common.{◌-◌, length}
use Rattle.unit_text.proofs.OneJudgment.{one_further, ends, stops, text_is_bad_nowhere, bad_is_no_text, bad_at_one_place}
use Rattle.unit_text.proofs.judge.bad_encoding.Goals as goal

pub loop-rest-preserved : goal.loop-rest-preserved
loop-rest-preserved c = one_further c.args.bytes.now c.loop-rest.rest.now c.in-Some.after.now c.in-Some.field-0-0 c.loop-rest.invariant c.in-Some.ensures

pub returns-in_default-clause-text : goal.returns-in_default-clause-text
returns-in_default-clause-text c =
    let bad =
    stops c.is_empty.result c.args.bytes.now c.loop-rest.rest.now c.loop-rest.invariant c.is_empty.ensures c.loop-rest-test.true c.in_default.ensures in
    bad_is_no_text c.args.bytes.now (length c.args.bytes.now - length c.loop-rest.rest.now) bad

pub returns-in_default-clause-bad : goal.returns-in_default-clause-bad
returns-in_default-clause-bad c =
    let bad =
    stops c.is_empty.result c.args.bytes.now c.loop-rest.rest.now c.loop-rest.invariant c.is_empty.ensures c.loop-rest-test.true c.in_default.ensures in
    bad_at_one_place c.args.bytes.now (length c.args.bytes.now - length c.loop-rest.rest.now) bad

pub returns-clause-bad : goal.returns-clause-bad
returns-clause-bad c =
    text_is_bad_nowhere c.args.bytes.now (ends c.is_empty.result c.args.bytes.now c.loop-rest.rest.now c.loop-rest.invariant c.is_empty.ensures
    c.loop-rest-test.false)

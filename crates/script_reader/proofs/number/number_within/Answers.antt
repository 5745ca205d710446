-- The capped value is within the bounds where the value is.
use Rattle.std.proofs.Common.{◌≡◌, ◌<◌, ◌^◌, true, inl, inr, arith}
use Rattle.jk_model.specs.ScriptGrammar as grammar
use Rattle.script_reader.proofs.CappedNumbers.{within, outside}
use Rattle.script_reader.proofs.number.number_within.Goals as goal
use Rattle.script_reader.proofs.number.number_within.Goals.{then-value-from-via-then-value-from, then-value-from-via-else-value-from+then-value-from-2}

pub returns-then-value-from : goal.returns-then-value-from
returns-then-value-from c =
    let small : c.args.high < 2 ^ 32 = omega (arith, c.ranges.high.fits) in
    outside c.args.low c.args.high c.capped_value-value.result c.args.word.now small c.capped_value-value.ensures
    (elim c.then-value-from.branch [
      | then-value-from-via-then-value-from w ↦ inl (omega (arith, w.if-value-from.true, c.from.ensures))
      | then-value-from-via-else-value-from+then-value-from-2 w ↦ inr (omega (arith, w.if-value-from-2.true, w.from-else-value-from.ensures))
    ])

pub returns : goal.returns
returns c =
    let small : c.args.high < 2 ^ 32 = omega (arith, c.ranges.high.fits) in
    let numeral : grammar.is_numeral c.args.word.now ≡ true = cc c.if-not-is_numeral.ensures in
    within c.args.low c.args.high c.capped_value-value.result c.args.word.now small numeral c.capped_value-value.ensures
    (omega (arith, c.if-value-from.false, c.from.ensures)) (omega (arith, c.if-value-from-2.false, c.from-else-value-from.ensures))

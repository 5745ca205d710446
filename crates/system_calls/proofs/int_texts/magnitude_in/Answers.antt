-- Digit by digit the same number is left to be read.
use Rattle.std.proofs.Common.{◌≡◌, ◌∙◌, ◌<◌, Some, None, length, sym, arith}
use Rattle.system_calls.proofs.NumbersRead.{all_read, capped_from, one_read, step_is_few}
use Rattle.system_calls.proofs.int_texts.magnitude_in.Goals as goal

pub returns-in_default-clause-read : goal.returns-in_default-clause-read
returns-in_default-clause-read g c = λ units live many.
    let some : c.args.from < length units = omega (arith, c.if-from-len.false, c.requires.within, many) in
    sym (c.loop-i.invariant.1 units live many
    ∙ one_read units c.loop-i.magnitude c.loop-i.i c.unit_at.result None (c.unit_at.ensures units live) c.in_default.ensures)
    ∙ capped_from units c.args.from some

pub loop-i-preserved : goal.loop-i-preserved
loop-i-preserved g c = (
  step_is_few c.loop-i.magnitude c.unit_at.result c.in-Some.more c.in-Some.ensures,
  λ units live many.
      c.loop-i.invariant.1 units live many
      ∙ one_read units c.loop-i.magnitude c.loop-i.i c.unit_at.result (Some c.in-Some.more) (c.unit_at.ensures units live) c.in-Some.ensures,
)

pub returns-clause-read : goal.returns-clause-read
returns-clause-read g c = λ units live many.
    let some : c.args.from < length units = omega (arith, c.if-from-len.false, c.requires.within, many) in
    let end : c.loop-i.i ≡ length units = omega (arith, c.loop-i-test.false, c.loop-i.auto.i-end, many) in
    sym (c.loop-i.invariant.1 units live many ∙ all_read units c.loop-i.magnitude c.loop-i.i end) ∙ capped_from units c.args.from some

-- What the text of the word reads as.
use Rattle.std.proofs.Common.{◌≡◌, rules}
use Rattle.asm_reader.proofs.NumbersAreWrittenOneWay.{needless, no_text, parsed}
use Rattle.asm_reader.proofs.numbers.decimal.Goals as goal

pub returns-then-not-has_no_needless : goal.returns-then-not-has_no_needless
returns-then-not-has_no_needless c = needless c.args.word.now c.if-not-has_no_needless.ensures

pub returns-in_err-text : goal.returns-in_err-text
returns-in_err-text c = rw c.from_residual.ensures (no_text c.args.word.now (search rules))

pub returns : goal.returns
returns c =
    let same : c.in_ok-text.text.now ≡ c.args.word.now = search rules in
    parsed c.args.word.now c.parse.result c.ok-2.result (rw (← same) c.parse.ensures.value.0) c.ok-2.ensures.value c.if-not-has_no_needless.ensures

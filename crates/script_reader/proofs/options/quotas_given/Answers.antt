-- Another option is read after those before it.
use Rattle.script_reader.proofs.OptionsInTurn.{after_option}
use Rattle.script_reader.proofs.options.quotas_given.Goals as goal

pub loop-word-preserved : goal.loop-word-preserved
loop-word-preserved c =
    let named = c.in_ok-option.ensures in
    rw c.put.ensures (after_option c.args.words.now c.loop-word.rest.now c.in-Some.word.now c.in-Some.after.now
    c.in_ok-word.word.now c.in_ok-word.after.now c.in_ok-option_number.field-0 c.in_ok-option.option c.loop-word.given
    c.loop-word.invariant c.in-Some.ensures.0 named.0 named.1 c.in_ok-word.ensures c.in_ok-option_number.ensures)

-- Before the first word none is taken.
use Rattle.script_reader.proofs.WordsInTurn.{before_all}
use Rattle.script_reader.proofs.commands.start_words.Goals as goal

pub loop-word-init : goal.loop-word-init
loop-word-init c = before_all c.args.rest.now c.new-taken.result c.new-taken.ensures

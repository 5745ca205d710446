-- The words that were taken are those before the rest, and the words get fewer.
use Rattle.std.proofs.Common.{length}
use Rattle.jk_model.specs.Script.{words}
use Rattle.script_reader.proofs.WordsInTurn.{AreTaken}
use Rattle.script_reader.proofs.commands.start_words.Given as goal

abbrev pub invariant-loop-word : goal.invariant-loop-word
invariant-loop-word l = AreTaken l.initial.rest l.rest l.taken

abbrev pub decreases-loop-word : goal.decreases-loop-word
decreases-loop-word l = length (words l.rest)

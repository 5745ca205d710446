-- The options that were read are those before the rest, and the words get fewer.
use Rattle.std.proofs.Common.{length}
use Rattle.jk_model.specs.Script.{words}
use Rattle.script_reader.proofs.OptionsInTurn.{AreRead}
use Rattle.script_reader.proofs.options.quotas_given.Given as goal

abbrev pub invariant-loop-word : goal.invariant-loop-word
invariant-loop-word l = AreRead l.words l.rest l.given

abbrev pub decreases-loop-word : goal.decreases-loop-word
decreases-loop-word l = length (words l.rest)

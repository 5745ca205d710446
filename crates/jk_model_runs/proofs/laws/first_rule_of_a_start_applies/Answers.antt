-- Rule by rule; the words that don't fit are the fifth.
use Rattle.std.proofs.Common.{[], ◌∷◌}
use Rattle.jk_model.specs.declared.output.Line.TheVariants.{StartRefused}
use Rattle.jk_model_runs.specs.Starts.{many_words}
use Rattle.jk_model_runs.proofs.OneStart.{one_line}
use Rattle.jk_model_runs.proofs.laws.first_rule_of_a_start_applies.Goals as goal

pub returns-clause-one_line : goal.returns-clause-one_line
returns-clause-one_line c = one_line

pub returns-clause-words_first : goal.returns-clause-words_first
returns-clause-words_first c = λ m start lines new h few lacks starts.
    one_line m start lines (StartRefused start.domain 5 ∷ []) new m starts (many_words h few lacks)

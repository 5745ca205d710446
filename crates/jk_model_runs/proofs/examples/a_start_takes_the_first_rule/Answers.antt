-- By the cases of the rules, with what each needs.
use Rattle.std.proofs.Common.{[], refl, arith}
use Rattle.jk_model_crossings.specs.Examples.{inside_with}
use Rattle.jk_model_crossings.proofs.ExampleSegments.{lacks_by}
use Rattle.jk_model_runs.specs.Examples.{four_words}
use Rattle.jk_model_runs.specs.Starts.{few_chunks, many_threads, many_words, no_class, no_domain}
use Rattle.jk_model_runs.proofs.ExampleStarts.{has_main, not_lacking}
use Rattle.jk_model_runs.proofs.examples.a_start_takes_the_first_rule.Goals as goal

pub returns-clause-domain : goal.returns-clause-domain
returns-clause-domain c = no_domain refl

pub returns-clause-class : goal.returns-clause-class
returns-clause-class c = no_class (record { domain = _; found = refl; inside = inside_with []; is_inside = refl }) refl

pub returns-clause-threads : goal.returns-clause-threads
returns-clause-threads c = many_threads (has_main 0 1 four_words) (omega arith)

pub returns-clause-words : goal.returns-clause-words
returns-clause-words c = many_words (has_main 1 1 four_words) (λ h. absurd (omega (arith, h))) (lacks_by _ _ 64 72 refl refl (omega arith))

pub returns-clause-chunks : goal.returns-clause-chunks
returns-clause-chunks c =
    few_chunks (has_main 1 1 []) (λ h. absurd (omega (arith, h))) (not_lacking _ _ 64 48 refl refl (omega arith)) (lacks_by _ _ 1 2 refl refl (omega arith))

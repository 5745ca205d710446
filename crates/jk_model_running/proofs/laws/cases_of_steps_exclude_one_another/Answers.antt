use Rattle.jk_model_running.proofs.StepsByCase.{one_case}
use Rattle.jk_model_running.proofs.laws.cases_of_steps_exclude_one_another.Goals as goal

pub returns : goal.returns
returns c = λ x t old new other went another a b. one_case x t old new other went another a b

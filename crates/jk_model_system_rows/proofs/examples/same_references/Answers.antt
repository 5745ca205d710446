use Rattle.jk_model_system_rows.proofs.examples.same_references.Goals as goal

pub returns-clause-text : goal.returns-clause-text
returns-clause-text c = λ done answers. answers

pub returns-clause-null : goal.returns-clause-null
returns-clause-null c = λ done answers. answers

pub returns-clause-same_capability : goal.returns-clause-same_capability
returns-clause-same_capability c = λ done answers. answers

pub returns-clause-other_capability : goal.returns-clause-other_capability
returns-clause-other_capability c = λ done answers. answers

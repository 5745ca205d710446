-- Rule by rule.
use Rattle.jk_model_crossings.proofs.OneRefusal.{refused_not_entered, refused_once}
use Rattle.jk_model_crossings.proofs.laws.remote_calls_are_refused_once.Goals as goal

pub returns-clause-once : goal.returns-clause-once
returns-clause-once c = λ m t call r s. refused_once m t call r s

pub returns-clause-not_entered : goal.returns-clause-not_entered
returns-clause-not_entered c = λ m t call r new. refused_not_entered m t call r new

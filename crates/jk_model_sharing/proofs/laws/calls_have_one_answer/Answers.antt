-- Case by case.
use Rattle.jk_model_sharing.proofs.OneAnswer.{binds_once, creates_once, revokes_once, unbinds_once}
use Rattle.jk_model_sharing.proofs.laws.calls_have_one_answer.Goals as goal

pub returns-clause-creates : goal.returns-clause-creates
returns-clause-creates c = creates_once

pub returns-clause-revokes : goal.returns-clause-revokes
returns-clause-revokes c = revokes_once

pub returns-clause-binds : goal.returns-clause-binds
returns-clause-binds c = binds_once

pub returns-clause-unbinds : goal.returns-clause-unbinds
returns-clause-unbinds c = unbinds_once

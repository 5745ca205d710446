-- By the frames in front of the one that catches.
use Rattle.row_laws.proofs.UnwindingAnswersKept.{caught_answers}
use Rattle.row_laws.proofs.unwinding.calls_stay_answered.Goals as goal

pub returns : goal.returns
returns c = caught_answers

-- By the frame with which the least typing of the method begins.
use Rattle.std.proofs.Common.{inl, inr}
use Rattle.row_laws.proofs.BegunMethods.{called_fits, given_fits, has_room}
use Rattle.row_laws.proofs.operands.called_frames_fit.Goals as goal

pub returns-clause-others : goal.returns-clause-others
returns-clause-others c = λ around x heap m method code given called known is body begins frame.
    called_fits around known.codes heap m method code is body given (given_fits around known.codes heap m method code is body given (inr begins))
    called frame

pub returns-clause-statics : goal.returns-clause-statics
returns-clause-statics c = λ around x heap m method code given called known is body static typed frame.
    called_fits around known.codes heap m method code is body given
    (given_fits around known.codes heap m method code is body given (inl (static, typed))) called frame

pub returns-clause-room : goal.returns-clause-room
returns-clause-room c = λ around x heap m method code given known is body begins.
    has_room around known.codes heap m method code is body given (given_fits around known.codes heap m method code is body given begins)

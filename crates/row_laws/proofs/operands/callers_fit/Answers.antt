-- By the shape of the call.
use Rattle.row_laws.proofs.CallersFit.{caller_fits}
use Rattle.row_laws.proofs.CallersResume.{resumes}
use Rattle.row_laws.proofs.operands.callers_fit.Goals as goal

pub returns-clause-left : goal.returns-clause-left
returns-clause-left c = λ around x w g found method given runs code call names many replaces.
    caller_fits around.classes runs.setting.codes w.inside.heap w.frame g runs.fits.0 runs.fits.1 code runs.no_need call found method names given
    many replaces

pub returns-clause-resumed : goal.returns-clause-resumed
returns-clause-resumed c = λ around x heap f result v known at awaits answer. resumes around known.codes heap f at result v awaits answer

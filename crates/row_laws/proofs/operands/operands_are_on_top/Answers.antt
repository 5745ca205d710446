-- By the shape of the instruction.
use Rattle.row_laws.proofs.OperandsOnTop.{pushed_fit, taken_meet}
use Rattle.row_laws.proofs.operands.operands_are_on_top.Goals as goal

pub returns-clause-taken : goal.returns-clause-taken
returns-clause-taken c = λ s heap place i f before after demands gives typed takes.
    taken_meet s heap place i f before after demands gives typed takes

pub returns-clause-pushed : goal.returns-clause-pushed
returns-clause-pushed c = λ s heap new place i f g before after demands gives taken pushed typed takes meet replaces grown fit.
    pushed_fit s heap place i f before after demands gives typed takes new g taken pushed meet replaces grown fit

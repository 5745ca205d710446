-- By the type of the array.
use Rattle.row_laws.proofs.ElementsOfArrays.{elements_fit, elements_found}
use Rattle.row_laws.proofs.operands.elements_are_found.Goals as goal

pub returns-clause-operands : goal.returns-clause-operands
returns-clause-operands c = λ s heap place i f before after sound typed loads. elements_found s heap place i f before after typed loads

pub returns-clause-items : goal.returns-clause-items
returns-clause-items c = λ s heap place i f g before after array item index sound read typed loads a held replaces.
    elements_fit s heap place i f g before after array item index sound read typed loads a held replaces

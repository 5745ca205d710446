-- The law is proved constructor by constructor.
use Rattle.number_laws.proofs.ResultsFit.{none_returned, returned_fits}
use Rattle.number_laws.proofs.laws.returned_values_fit.Goals as goal

pub returns-clause-value : goal.returns-clause-value
returns-clause-value c = λ s heap place i f g before after v ordered typed row.
    returned_fits s heap place i f g before after v ordered typed row

pub returns-clause-nothing : goal.returns-clause-nothing
returns-clause-nothing c = λ s heap place i f g before after typed row. none_returned s heap place i f g before after typed row

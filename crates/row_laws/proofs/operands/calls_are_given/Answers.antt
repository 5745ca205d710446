-- By the shape of the call.
use Rattle.row_laws.proofs.GivenToCalls.{given_to_call, given_to_static}
use Rattle.row_laws.proofs.operands.calls_are_given.Goals as goal

pub returns-clause-statics : goal.returns-clause-statics
returns-clause-statics c = λ around x w runs code op.
    let g = given_to_static around x w runs code op in
    (g.1, g.2, g.3, (g.0, g.4, g.5), g.6, g.7)

pub returns-clause-others : goal.returns-clause-others
returns-clause-others c = λ around x w runs code call other.
    let g = given_to_call around x w runs code call other in
    (g.found, g.method, g.receiver, g.given, (g.class, g.leads, g.is_method), g.on_top, g.of_types)

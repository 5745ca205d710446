-- There is no row.
use Rattle.type_rows.specs.CodeViews.{scope_of}
use Rattle.type_rows.proofs.StepsAreRows.{no_row, no_row_so}
use Rattle.type_rows.proofs.rows.step.Goals as goal

pub returns-in-Some-clause-fails : goal.returns-in-Some-clause-fails
returns-in-Some-clause-fails c =
    no_row_so (scope_of c.args.view.now) c.args.place c.args.i.now c.args.frame.now c.act.result c.in-Some.shape _ c.in-Some.ensures
    c.act.ensures

pub returns-in-None-clause-fails : goal.returns-in-None-clause-fails
returns-in-None-clause-fails c = λ _. no_row (scope_of c.args.view.now) c.args.place c.args.i.now c.args.frame.now c.in-None.ensures

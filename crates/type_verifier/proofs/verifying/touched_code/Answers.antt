-- The code is that of the view's scope.
use Rattle.type_rows.specs.CodeViews.{scope_of}
use Rattle.type_verifier.proofs.MethodsTypings.{narrowed-here}
use Rattle.type_verifier.proofs.verifying.touched_code.Goals as goal

pub returns : goal.returns
returns c = narrowed-here (scope_of c.args.view.now) c.narrow_code.result c.narrow_code.ensures

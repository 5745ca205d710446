-- The demand at a place is that of the type at this place.
use Rattle.type_rows.specs.CodeViews.{scope_of}
use Rattle.type_rows.proofs.AtPlaces.{argument-at}
use Rattle.type_rows.proofs.shapes.argument.Goals as goal

pub returns : goal.returns
returns c = argument-at (scope_of c.args.view.now) c.args.params.now c.args.k _ _ c.requires c.value_of.ensures

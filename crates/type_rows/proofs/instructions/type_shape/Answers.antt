-- The group is that of the use of a type.
use Rattle.std.proofs.Common.{sym, ap}
use Rattle.type_rows.specs.CodeViews.{scope_of}
use Rattle.type_rows.specs.OpcodeGroups.{type_view}
use Rattle.type_rows.proofs.OneShape.{at_group}
use Rattle.type_rows.proofs.instructions.type_shape.Goals as goal

pub returns-in-MakesObject : goal.returns-in-MakesObject
returns-in-MakesObject c = at_group (scope_of c.args.view.now) c.args.i.now _ _ _ (ap type_view (sym c.in-MakesObject.is)) c.makes_object.ensures

pub returns-in-MakesArray : goal.returns-in-MakesArray
returns-in-MakesArray c = at_group (scope_of c.args.view.now) c.args.i.now _ _ _ (ap type_view (sym c.in-MakesArray.is)) c.makes_array.ensures

pub returns-in-MakesArrays : goal.returns-in-MakesArrays
returns-in-MakesArrays c = at_group (scope_of c.args.view.now) c.args.i.now _ _ _ (ap type_view (sym c.in-MakesArrays.is)) c.makes_arrays.ensures

pub returns-in-Casts : goal.returns-in-Casts
returns-in-Casts c = at_group (scope_of c.args.view.now) c.args.i.now _ _ _ (ap type_view (sym c.in-Casts.is)) c.casts.ensures

pub returns-in-Tests : goal.returns-in-Tests
returns-in-Tests c = at_group (scope_of c.args.view.now) c.args.i.now _ _ _ (ap type_view (sym c.in-Tests.is)) c.tests.ensures

pub returns-in-MakesNumbers : goal.returns-in-MakesNumbers
returns-in-MakesNumbers c = at_group (scope_of c.args.view.now) c.args.i.now _ _ _ (ap type_view (sym c.in-MakesNumbers.is)) (c.makes_numbers.ensures (scope_of c.args.view.now))

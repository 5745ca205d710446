-- The group is that of the result.
use Rattle.std.proofs.Common.{sym, ap}
use Rattle.type_rows.specs.CodeViews.{scope_of}
use Rattle.type_rows.specs.OpcodeGroups.{returned_view}
use Rattle.type_rows.proofs.OneShape.{at_group}
use Rattle.type_rows.proofs.instructions.returned_shape.Goals as goal

pub returns-in-Int : goal.returns-in-Int
returns-in-Int c = λ i. at_group (scope_of c.args.view.now) i _ _ _ (ap returned_view (sym c.in-Int.is)) (c.returns_int.ensures i)

pub returns-in-Long : goal.returns-in-Long
returns-in-Long c = λ i. at_group (scope_of c.args.view.now) i _ _ _ (ap returned_view (sym c.in-Long.is)) (c.returns_long.ensures i)

pub returns-in-Reference : goal.returns-in-Reference
returns-in-Reference c = λ i. at_group (scope_of c.args.view.now) i _ _ _ (ap returned_view (sym c.in-Reference.is)) (c.returns_reference.ensures i)

pub returns-in-Nothing : goal.returns-in-Nothing
returns-in-Nothing c = λ i. at_group (scope_of c.args.view.now) i _ _ _ (ap returned_view (sym c.in-Nothing.is)) (c.returns_nothing.ensures i)

-- The shape is that of the group that the opcode has.
use Rattle.type_rows.specs.CodeViews.{scope_of}
use Rattle.type_rows.proofs.OneShape.{at_group, fixed_group}
use Rattle.type_rows.proofs.instructions.shape_of.Goals as goal

pub returns-in-Fixed : goal.returns-in-Fixed
returns-in-Fixed c =
    let s = scope_of c.args.view.now in
    fixed_group s c.args.i.now _ _ c.fixed_shape.result c.in-Fixed.ensures (c.fixed_shape.ensures s)

pub returns-in-LoadsConstant : goal.returns-in-LoadsConstant
returns-in-LoadsConstant c = at_group (scope_of c.args.view.now) c.args.i.now _ _ _ c.in-LoadsConstant.ensures c.loads_constant.ensures

pub returns-in-LoadsLong : goal.returns-in-LoadsLong
returns-in-LoadsLong c = at_group (scope_of c.args.view.now) c.args.i.now _ _ _ c.in-LoadsLong.ensures c.loads_long.ensures

pub returns-in-Returns : goal.returns-in-Returns
returns-in-Returns c = at_group (scope_of c.args.view.now) c.args.i.now _ _ _ c.in-Returns.ensures (c.returned_shape.ensures c.args.i.now)

pub returns-in-UsesField : goal.returns-in-UsesField
returns-in-UsesField c = at_group (scope_of c.args.view.now) c.args.i.now _ _ _ c.in-UsesField.ensures c.field_shape.ensures

pub returns-in-Calls : goal.returns-in-Calls
returns-in-Calls c = at_group (scope_of c.args.view.now) c.args.i.now _ _ _ c.in-Calls.ensures c.call_shape.ensures

pub returns-in-NamesType : goal.returns-in-NamesType
returns-in-NamesType c = at_group (scope_of c.args.view.now) c.args.i.now _ _ _ c.in-NamesType.ensures c.type_shape.ensures

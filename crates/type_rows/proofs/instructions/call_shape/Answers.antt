-- The group is that of the call.
use Rattle.std.proofs.Common.{sym, ap}
use Rattle.type_rows.specs.CodeViews.{scope_of}
use Rattle.type_rows.specs.OpcodeGroups.{call_view}
use Rattle.type_rows.proofs.OneShape.{at_group}
use Rattle.type_rows.proofs.instructions.call_shape.Goals as goal

pub returns-in-Virtual : goal.returns-in-Virtual
returns-in-Virtual c = at_group (scope_of c.args.view.now) c.args.i.now _ _ _ (ap call_view (sym c.in-Virtual.is)) c.calls_virtual.ensures

pub returns-in-Special : goal.returns-in-Special
returns-in-Special c = at_group (scope_of c.args.view.now) c.args.i.now _ _ _ (ap call_view (sym c.in-Special.is)) c.calls_special.ensures

pub returns-in-Static : goal.returns-in-Static
returns-in-Static c = at_group (scope_of c.args.view.now) c.args.i.now _ _ _ (ap call_view (sym c.in-Static.is)) c.calls_static.ensures

pub returns-in-Interface : goal.returns-in-Interface
returns-in-Interface c = at_group (scope_of c.args.view.now) c.args.i.now _ _ _ (ap call_view (sym c.in-Interface.is)) c.calls_interface.ensures

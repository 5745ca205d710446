-- The group is that of the use of a field.
use Rattle.std.proofs.Common.{sym, ap}
use Rattle.type_rows.specs.CodeViews.{scope_of}
use Rattle.type_rows.specs.OpcodeGroups.{field_view}
use Rattle.type_rows.proofs.OneShape.{at_group}
use Rattle.type_rows.proofs.instructions.field_shape.Goals as goal

pub returns-in-GetsStatic : goal.returns-in-GetsStatic
returns-in-GetsStatic c = at_group (scope_of c.args.view.now) c.args.i.now _ _ _ (ap field_view (sym c.in-GetsStatic.is)) c.gets_static.ensures

pub returns-in-PutsStatic : goal.returns-in-PutsStatic
returns-in-PutsStatic c = at_group (scope_of c.args.view.now) c.args.i.now _ _ _ (ap field_view (sym c.in-PutsStatic.is)) c.puts_static.ensures

pub returns-in-Gets : goal.returns-in-Gets
returns-in-Gets c = at_group (scope_of c.args.view.now) c.args.i.now _ _ _ (ap field_view (sym c.in-Gets.is)) c.gets_field.ensures

pub returns-in-Puts : goal.returns-in-Puts
returns-in-Puts c = at_group (scope_of c.args.view.now) c.args.i.now _ _ _ (ap field_view (sym c.in-Puts.is)) c.puts_field.ensures

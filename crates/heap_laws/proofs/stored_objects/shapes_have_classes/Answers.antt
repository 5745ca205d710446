-- By the closed table.
use Rattle.heap_laws.proofs.LaidOut.{shape_has_classes}
use Rattle.heap_laws.proofs.stored_objects.shapes_have_classes.Goals as goal

pub returns : goal.returns
returns c = shape_has_classes

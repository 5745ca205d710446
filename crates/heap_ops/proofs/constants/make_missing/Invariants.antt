-- The constant texts of the first fields have their objects.
use Rattle.std.proofs.Common.{take}
use Rattle.jk_model_heap_rows.specs.Constants.{new_texts}
use Rattle.heap_ops.proofs.MissingTextsMade.{Made}
use Rattle.heap_ops.proofs.TextsInTurn.{of_fields}
use Rattle.heap_ops.proofs.constants.make_missing.Given as goal

abbrev pub invariant-loop-field : goal.invariant-loop-field
invariant-loop-field g l =
    Made l.t l.d (g.H.ObjectStore.content l.fn.heap) l.fn.own (g.H.ObjectStore.content l.heap) l.own
    (new_texts l.fn.own.state (of_fields l.class (take l.field-index l.class.fields)))

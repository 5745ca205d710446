-- The shape tells an array from other objects.
use Rattle.std.proofs.Common.{Some, ap, ◌∙◌}
use Rattle.system_calls.proofs.CopiedArrays.{no_array_by, shown_array}
use Rattle.system_calls.proofs.array_copies.array_at.Goals as goal

pub returns-in-Array : goal.returns-in-Array
returns-in-Array g c =
    let name = c.requires c.in-Obj.name c.in-Obj.is in
    let found = shown_array name.0 c.in-Array.element c.in-Array.len (c.in-Array.ensures name.0 name.1) in
    (c.in-Obj.is, (found.0, name.1 ∙ ap Some found.1, found.2))

pub returns-in_default-shape : goal.returns-in_default-shape
returns-in_default-shape g c =
    let name = c.requires c.in-Obj.name c.in-Obj.is in
    no_array_by ((g.H.ObjectStore.content c.args.heap.now).heap c.args.d) c.args.v c.in-Obj.name name.0 c.in-Obj.is name.1
    (λ t n same. c.in_default-shape.not-Array t n (c.shape.ensures name.0 name.1 ∙ same))

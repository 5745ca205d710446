-- What is found is done.
use Rattle.std.proofs.Common.{[], ◌∷◌}
use Rattle.jk_model.specs.declared.values.Value.TheVariants as Held
use Rattle.jk_model_system_rows.specs.declared.meanings.SystemMeaning.TheVariants as Means
use Rattle.system_calls.specs.DoneRows.{answer_of}
use Rattle.system_calls.proofs.DoneAsGiven.{found_as}
use Rattle.system_calls.proofs.own_methods.buffer_answer.Goals as goal

pub returns-in-BufferLength : goal.returns-in-BufferLength
returns-in-BufferLength g c =
    found_as c.args.meaning Means.BufferLength c.args.given.now (Held.Obj c.object_alone-in-BufferLength.result ∷ []) c.in-BufferLength.is
    c.object_alone-in-BufferLength.ensures (g.H.ObjectStore.content c.args.heap.now) c.args.t.now c.args.d c.requires.ready
    (answer_of c.buffer_length.result) c.buffer_length.ensures

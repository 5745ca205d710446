-- What is found is done.
use Rattle.std.proofs.Common.{[], ◌∷◌}
use Rattle.jk_model.specs.declared.values.Value.TheVariants as Held
use Rattle.jk_model_system_rows.specs.declared.meanings.SystemMeaning.TheVariants as Means
use Rattle.system_calls.specs.DoneRows.{answer_of}
use Rattle.system_calls.proofs.DoneAsGiven.{found_as}
use Rattle.system_calls.proofs.own_methods.object_answer.Goals as goal

pub returns-in-ParsesInt : goal.returns-in-ParsesInt
returns-in-ParsesInt g c =
    found_as c.args.meaning Means.ParsesInt c.args.given.now (c.value_alone.result ∷ []) c.in-ParsesInt.is c.value_alone.ensures
    (g.H.ObjectStore.content c.args.heap.now) c.args.t.now c.args.d c.requires.ready (answer_of c.parse_int.result) c.parse_int.ensures

pub returns-in-GetsMessage : goal.returns-in-GetsMessage
returns-in-GetsMessage g c =
    found_as c.args.meaning Means.GetsMessage c.args.given.now (Held.Obj c.object_alone.result ∷ []) c.in-GetsMessage.is c.object_alone.ensures
    (g.H.ObjectStore.content c.args.heap.now) c.args.t.now c.args.d c.requires.ready (answer_of c.message.result) c.message.ensures

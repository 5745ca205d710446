-- What is found is done.
use Rattle.std.proofs.Common.{◌≡◌, ◌∙◌, [], ◌∷◌, to_z, of_z, w32, sym, ap, rules}
use Rattle.jk_model.specs.declared.values.Value.{Value}
use Rattle.jk_model.specs.declared.values.Value.TheVariants as Held
use Rattle.jk_model_system_rows.specs.declared.meanings.SystemMeaning.TheVariants as Means
use Rattle.system_calls.specs.DoneRows.{answer_of}
use Rattle.system_calls.proofs.DoneAsGiven.{found_as}
use Rattle.system_calls.proofs.own_methods.text_answer.Goals as goal

pub returns-in-TextLength : goal.returns-in-TextLength
returns-in-TextLength g c =
    found_as c.args.meaning Means.TextLength c.args.given.now (Held.Obj c.object_alone.result ∷ []) c.in-TextLength.is c.object_alone.ensures
    (g.H.ObjectStore.content c.args.heap.now) c.args.t.now c.args.d c.requires.ready (answer_of c.text_length.result) c.text_length.ensures

pub returns-in-CharAt : goal.returns-in-CharAt
returns-in-CharAt g c =
    let r = c.object_and_value-text.result in
    let n = c.int_of.result in
    let same : to_z w32 (of_z w32 n) ≡ n = search rules in
    found_as c.args.meaning Means.CharAt c.args.given.now (Held.Obj r.0 ∷ Held.Int (to_z w32 (of_z w32 n)) ∷ []) c.in-CharAt.is
    (c.object_and_value-text.ensures ∙ ap (λ (v : Value). Held.Obj r.0 ∷ v ∷ []) (c.int_of.ensures ∙ ap Held.Int (sym same)))
    (g.H.ObjectStore.content c.args.heap.now) c.args.t.now c.args.d c.requires.ready (answer_of c.char_at.result) c.char_at.ensures

pub returns-in-IsSameText : goal.returns-in-IsSameText
returns-in-IsSameText g c =
    let r = c.object_and_value-text-in-IsSameText.result in
    found_as c.args.meaning Means.IsSameText c.args.given.now (Held.Obj r.0 ∷ r.1 ∷ []) c.in-IsSameText.is
    c.object_and_value-text-in-IsSameText.ensures
    (g.H.ObjectStore.content c.args.heap.now) c.args.t.now c.args.d c.requires.ready (answer_of c.is_same_text.result) c.is_same_text.ensures

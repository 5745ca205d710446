-- What domains share answers.
use Rattle.std.proofs.Common.{None, Some, Ok, take, sym, ◌∙◌}
use Rattle.jk_model.specs.declared.values.Value.TheVariants as Held
use Rattle.jk_model_heaps.specs.Workings.{LooksUp}
use Rattle.jk_model_system_rows.specs.declared.meanings.SystemMeaning.TheVariants as Means
use Rattle.system_calls.proofs.NamesAsked.{name_asked, name_found, text_there}
use Rattle.system_calls.proofs.repository.look_up.Goals as goal

pub returns-in-Some : goal.returns-in-Some
returns-in-Some g c =
    let text = text_there ((g.H.ObjectStore.content c.args.heap.now).heap c.args.here.now.domain) c.args.name c.requires.given_for c.in-Obj.text c.in-Obj.is in
    name_asked (g.H.ObjectStore.content c.args.heap.now) c.args.shared.now c.args.here.now Means.LooksUpName LooksUp
    (λ x given inside done row. row) c.args.name c.requires c.requires.given_for c.in-Obj.text c.in-Obj.is c.args.shared.now (Ok (Some (Held.Cap c.in-Some.k)))
    (name_found (g.H.ObjectStore.content c.args.heap.now) c.args.shared.now c.args.here.now c.is_sound.ensures text.0
    (take c.read_name-count.result c.read_name-count.new.buffer) (c.read_name-count.ensures.read text.0 text.1) (Some c.in-Some.k)
    (sym c.in-Some.is ∙ c.lookup.ensures))

pub returns-in-None : goal.returns-in-None
returns-in-None g c =
    let text = text_there ((g.H.ObjectStore.content c.args.heap.now).heap c.args.here.now.domain) c.args.name c.requires.given_for c.in-Obj.text c.in-Obj.is in
    name_asked (g.H.ObjectStore.content c.args.heap.now) c.args.shared.now c.args.here.now Means.LooksUpName LooksUp
    (λ x given inside done row. row) c.args.name c.requires c.requires.given_for c.in-Obj.text c.in-Obj.is c.args.shared.now (Ok (Some Held.Null))
    (name_found (g.H.ObjectStore.content c.args.heap.now) c.args.shared.now c.args.here.now c.is_sound.ensures text.0
    (take c.read_name-count.result c.read_name-count.new.buffer) (c.read_name-count.ensures.read text.0 text.1) None (sym c.in-None.is ∙ c.lookup.ensures))

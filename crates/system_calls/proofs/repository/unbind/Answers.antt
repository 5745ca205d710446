-- What domains share answers.
use Rattle.std.proofs.Common.{None, Ok, Err, take}
use Rattle.jk_model_heaps.specs.Workings.{Unbinds}
use Rattle.jk_model_system_rows.specs.declared.meanings.SystemMeaning.TheVariants as Means
use Rattle.system_calls.proofs.NamesAsked.{name_asked, removed_as, text_there}
use Rattle.system_calls.proofs.repository.unbind.Goals as goal

pub returns-in-Ok : goal.returns-in-Ok
returns-in-Ok g c =
    let text = text_there ((g.H.ObjectStore.content c.args.heap.now).heap c.args.here.now.domain) c.args.name c.requires.given_for c.in-Obj.text c.in-Obj.is in
    name_asked (g.H.ObjectStore.content c.args.heap.now) c.args.shared.now c.args.here.now Means.UnbindsName Unbinds
    (λ x given inside done row. row) c.args.name c.requires c.requires.given_for c.in-Obj.text c.in-Obj.is c.unbind.new.self (Ok None)
    (removed_as (g.H.ObjectStore.content c.args.heap.now) c.args.shared.now c.args.here.now c.is_sound.ensures text.0
    (take c.read_name-count.result c.read_name-count.new.buffer) (c.read_name-count.ensures.read text.0 text.1) c.unbind.result
    (Ok c.in-Ok.field-0) c.unbind.new.self c.in-Ok.is c.unbind.ensures)

pub returns-in-Err : goal.returns-in-Err
returns-in-Err g c =
    let text = text_there ((g.H.ObjectStore.content c.args.heap.now).heap c.args.here.now.domain) c.args.name c.requires.given_for c.in-Obj.text c.in-Obj.is in
    name_asked (g.H.ObjectStore.content c.args.heap.now) c.args.shared.now c.args.here.now Means.UnbindsName Unbinds
    (λ x given inside done row. row) c.args.name c.requires c.requires.given_for c.in-Obj.text c.in-Obj.is c.unbind.new.self (Err c.in-Err.raise)
    (removed_as (g.H.ObjectStore.content c.args.heap.now) c.args.shared.now c.args.here.now c.is_sound.ensures text.0
    (take c.read_name-count.result c.read_name-count.new.buffer) (c.read_name-count.ensures.read text.0 text.1) c.unbind.result
    (Err c.in-Err.raise) c.unbind.new.self c.in-Err.is c.unbind.ensures)

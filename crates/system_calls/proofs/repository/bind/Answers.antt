-- What domains share binds the name, or denies it.
use Rattle.std.proofs.Common.{None, Ok, Err, take}
use Rattle.system_calls.proofs.NamesAsked.{bind_asked, bound_to, text_there}
use Rattle.system_calls.proofs.repository.bind.Goals as goal

pub returns-in-Ok : goal.returns-in-Ok
returns-in-Ok g c =
    let text = text_there ((g.H.ObjectStore.content c.args.heap.now).heap c.args.here.now.domain) c.args.name c.requires.given_for.0 c.in-Obj.text
    c.in-Obj.is in
    bind_asked (g.H.ObjectStore.content c.args.heap.now) c.args.shared.now c.args.here.now c.args.name c.args.v c.requires c.in-Obj.text c.in-Obj.is
    c.in-Cap.k c.in-Cap.is c.bind.new.self (Ok None)
    (bound_to (g.H.ObjectStore.content c.args.heap.now) c.args.shared.now c.args.here.now text.0
    (take c.read_name-count.result c.read_name-count.new.buffer) (c.read_name-count.ensures.read text.0 text.1) c.in-Cap.k c.bind.result
    (Ok c.in-Ok.field-0) c.bind.new.self c.in-Ok.is c.bind.ensures)

pub returns-in-Err : goal.returns-in-Err
returns-in-Err g c =
    let text = text_there ((g.H.ObjectStore.content c.args.heap.now).heap c.args.here.now.domain) c.args.name c.requires.given_for.0 c.in-Obj.text
    c.in-Obj.is in
    bind_asked (g.H.ObjectStore.content c.args.heap.now) c.args.shared.now c.args.here.now c.args.name c.args.v c.requires c.in-Obj.text c.in-Obj.is
    c.in-Cap.k c.in-Cap.is c.bind.new.self (Err c.in-Err.raise)
    (bound_to (g.H.ObjectStore.content c.args.heap.now) c.args.shared.now c.args.here.now text.0
    (take c.read_name-count.result c.read_name-count.new.buffer) (c.read_name-count.ensures.read text.0 text.1) c.in-Cap.k c.bind.result
    (Err c.in-Err.raise) c.bind.new.self c.in-Err.is c.bind.ensures)

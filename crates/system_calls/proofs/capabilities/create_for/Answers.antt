-- The object's shape tells its class, and what domains share grants or denies the capability.
use Rattle.std.proofs.Common.{◌∙◌, Ok, Err, sym}
use Rattle.system_calls.proofs.CapabilitiesAsked.{created_as, named_object, other_refused}
use Rattle.system_calls.proofs.capabilities.create_for.Goals as goal

pub returns-in-Ok : goal.returns-in-Ok
returns-in-Ok g c =
    created_as (g.H.ObjectStore.content c.args.heap.now) c.args.shared.now c.args.here.now c.args.target c.requires
    c.in-Plain.class c.create.result c.create.new.self c.create.ensures (Ok c.in-Ok.k) c.in-Ok.is
    (λ o live. sym c.in-Plain.is ∙ c.shape.ensures o live)

pub returns-in-Err : goal.returns-in-Err
returns-in-Err g c =
    created_as (g.H.ObjectStore.content c.args.heap.now) c.args.shared.now c.args.here.now c.args.target c.requires
    c.in-Plain.class c.create.result c.create.new.self c.create.ensures (Err c.in-Err.raise) c.in-Err.is
    (λ o live. sym c.in-Plain.is ∙ c.shape.ensures o live)

pub returns-in_default : goal.returns-in_default
returns-in_default g c =
    let object = named_object (g.H.ObjectStore.content c.args.heap.now) c.args.shared.now c.args.here.now c.args.target c.requires in
    other_refused (g.H.ObjectStore.content c.args.heap.now) c.args.shared.now c.args.here.now c.args.target c.requires object.0 object.1
    (λ class same. c.in_default.not-Plain class (c.shape.ensures object.0 object.1 ∙ sym same))

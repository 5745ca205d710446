-- What domains share grants or denies it.
use Rattle.std.proofs.Common.{Ok, Err}
use Rattle.system_calls.proofs.CapabilitiesAsked.{revoked_as}
use Rattle.system_calls.proofs.capabilities.revoke.Goals as goal

pub returns-in-Ok : goal.returns-in-Ok
returns-in-Ok g c =
    revoked_as (g.H.ObjectStore.content c.args.heap.now) c.args.shared.now c.revoke.new.self c.args.here.now c.args.k c.requires c.revoke.result
    (Ok c.in-Ok.field-0) c.in-Ok.is c.revoke.ensures

pub returns-in-Err : goal.returns-in-Err
returns-in-Err g c =
    revoked_as (g.H.ObjectStore.content c.args.heap.now) c.args.shared.now c.revoke.new.self c.args.here.now c.args.k c.requires c.revoke.result
    (Err c.in-Err.raise) c.in-Err.is c.revoke.ensures

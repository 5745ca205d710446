-- All four pairs of tables agree.
use Rattle.copy_check.proofs.ReadyStill.{ready_world}
use Rattle.copy_check.proofs.worlds.check_world.Goals as goal

pub returns : goal.returns
returns g c =
    ready_world c.args.w.now c.names_of-a.result.now c.names_of-b.result.now c.names_of-a.ensures.has c.names_of-b.ensures.has
    c.names_of-a.ensures.table c.names_of-b.ensures.table c.check_names.ensures c.check_names-2.ensures c.check_names-3.ensures c.check_names-4.ensures

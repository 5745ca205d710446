-- A live domain has the name where one is found.
use Rattle.folder_loader.proofs.LiveNames.{is_live_found}
use Rattle.folder_loader.proofs.loading.is_live.Goals as goal

pub returns : goal.returns
returns c =
    is_live_found c.args.world.now c.as_bytes.result.now c.args.name.now c.live_named.result c.is_some.result c.live_named.ensures c.as_bytes.ensures.value
    c.is_some.ensures

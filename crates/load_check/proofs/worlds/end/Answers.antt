-- A world in which a domain ended is one in which folders may be loaded.
use Rattle.load_check.proofs.WorldsAfterLoads.{may_load_ended}
use Rattle.load_check.proofs.worlds.end.Goals as goal

pub returns : goal.returns
returns c =
    may_load_ended c.args.world.now c.end_domain.new.self c.args.domain c.requires.may c.end_domain.ensures c.holds.ensures.numbered
    c.holds.ensures.names_differ

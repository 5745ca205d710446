-- Whatever was answered, the next folder may be loaded.
use Rattle.jk_model.specs.Outside.{◌/-◌}
use Rattle.load_check.proofs.WorldsAfterLoads.{may_load_after}
use Rattle.load_check.proofs.worlds.answer.Goals as goal

pub returns-clause-may : goal.returns-clause-may
returns-clause-may g c =
    may_load_after c.args.world.now c.load-answered.new.world (g.F.Files.tree c.args.files.now) (c.args.root.now /- c.args.name.now) c.args.name.now
    c.load-answered.result c.requires c.load-answered.ensures.ok c.load-answered.ensures.err c.holds.ensures.ordered
    c.expect_few.ensures.classes

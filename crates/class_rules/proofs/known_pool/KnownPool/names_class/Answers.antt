-- The first unit of a class's name says whether it is an array.
use Rattle.class_rules.proofs.KnownEntries.{named_by_first, never_named}
use Rattle.class_rules.proofs.known_pool.KnownPool.names_class.Goals as goal

pub returns-in-Some : goal.returns-in-Some
returns-in-Some c = named_by_first c.args.self.now.entries.now c.args.i c.from.result c.in-Some.name c.from.ensures c.in-Some.ensures

pub returns-in-None : goal.returns-in-None
returns-in-None c = never_named c.args.self.now.entries.now c.args.i c.from.result c.from.ensures c.in-None.ensures

-- What is known of a class is known at its index.
use Rattle.class_rules.proofs.KnownEntries.{name_known, no_name_known}
use Rattle.class_rules.proofs.known_pool.KnownPool.class_name_at.Goals as goal

pub returns-in-Some : goal.returns-in-Some
returns-in-Some c =
    name_known c.args.self.now.entries.now c.args.i c.in-Some.entry.now c.class_name.result c.in-Some.ensures c.class_name.ensures

pub returns-in-None : goal.returns-in-None
returns-in-None c = no_name_known c.args.self.now.entries.now c.args.i c.in-None.ensures

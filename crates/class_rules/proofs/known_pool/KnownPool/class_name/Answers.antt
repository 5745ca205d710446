-- What is known of a class is known of its name.
use Rattle.class_rules.proofs.KnownEntries.{class_known}
use Rattle.class_rules.proofs.known_pool.KnownPool.class_name.Goals as goal

pub returns-in-Class : goal.returns-in-Class
returns-in-Class c = rw c.in-Class.is (class_known c.args.self.now.entries.now c.in-Class.name c.text.result c.text.ensures)

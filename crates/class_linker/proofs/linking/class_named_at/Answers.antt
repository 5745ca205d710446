-- The name of the entry means the class that its text says.
use Rattle.class_linker.proofs.TextsAreSaid.{class_by_name}
use Rattle.class_linker.proofs.linking.class_named_at.Goals as goal

pub returns-in-Some : goal.returns-in-Some
returns-in-Some c =
    class_by_name c.args.l.now.names.now c.args.l.now.pool.now c.args.i c.in-Some.name c.class_at.result c.in-Some.ensures c.class_at.ensures

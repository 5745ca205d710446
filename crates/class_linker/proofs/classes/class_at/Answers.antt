-- The text at the index names the class, or there is none.
use Rattle.class_linker.proofs.TextsAreSaid.{class_at}
use Rattle.class_linker.proofs.classes.class_at.Goals as goal

pub returns-in-Some : goal.returns-in-Some
returns-in-Some c =
    class_at c.args.names.now c.args.c.now.pool c.args.i c.in-Some.name.now c.resolve_text.result
    ((c.requires.each c.args.i c.in-Some.name.now).1 c.in-Some.ensures)
    c.resolve_text.ensures

pub returns-in-None : goal.returns-in-None
returns-in-None c = λ k (us, at, p). c.in-None.ensures us ((c.requires.each c.args.i us).0 at)

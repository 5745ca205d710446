-- The text is there, or it isn't.
use Rattle.class_linker.proofs.linking.method_by.Goals as goal

pub returns-in-Some-method_at : goal.returns-in-Some-method_at
returns-in-Some-method_at c = (
  (c.requires.texts.each c.args.n c.in-Some.name.now).1 c.in-Some.ensures,
  c.in-Some-method_at.ensures,
)

pub returns-in-None : goal.returns-in-None
returns-in-None c = λ name kind at says. c.in-None.ensures name ((c.requires.texts.each c.args.n name).0 at)

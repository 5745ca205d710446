-- The text is there, or it isn't.
use Rattle.class_linker.proofs.linking.field_by.Goals as goal

pub returns-in-Some-field_at : goal.returns-in-Some-field_at
returns-in-Some-field_at c = (
  (c.requires.texts.each c.args.n c.in-Some.name.now).1 c.in-Some.ensures,
  c.in-Some-field_at.ensures,
)

pub returns-in-None : goal.returns-in-None
returns-in-None c = λ name kind at says. c.in-None.ensures name ((c.requires.texts.each c.args.n name).0 at)

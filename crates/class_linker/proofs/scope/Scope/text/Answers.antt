-- A text that can't but be there is there.
use Rattle.class_linker.proofs.scope.Scope.text.Goals as goal

pub unreachable-requires : goal.unreachable-requires
unreachable-requires c = c.requires.there (λ units at. c.in-None.ensures units ((c.requires.scope.texts.each c.args.i units).0 at))

pub returns : goal.returns
returns c = (c.requires.scope.texts.each c.args.i c.in-Some.text.now).1 c.in-Some.ensures

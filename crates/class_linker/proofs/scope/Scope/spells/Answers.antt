-- A text is a given one where its units are those of the given one.
use Rattle.class_linker.proofs.TextsSpelt.{text_tells, no_text_tells}
use Rattle.class_linker.proofs.scope.Scope.spells.Goals as goal

pub returns-in-Some : goal.returns-in-Some
returns-in-Some c =
    text_tells c.args.self.now.file.now.pool c.args.self.now.texts.now c.args.i c.in-Some.units.now c.as_slice.result.now c.args.text.now c.is_text.result
    c.requires.texts c.in-Some.ensures c.as_slice.ensures c.is_text.ensures

pub returns-in-None : goal.returns-in-None
returns-in-None c =
    no_text_tells c.args.self.now.file.now.pool c.args.self.now.texts.now c.args.i c.args.text.now c.requires.texts c.in-None.ensures

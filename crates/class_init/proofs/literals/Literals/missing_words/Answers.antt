-- The marks are set, and what they mark is counted; then they are taken away.
use Rattle.std.proofs.Common.{◌≡◌, map}
use Rattle.class_init.specs.Literals.{literal_of}
use Rattle.class_init.proofs.MissingFound.{cost_of_marked, marked_are_missing}
use Rattle.class_init.proofs.literals.Literals.missing_words.Goals as goal

pub returns-clause-words : goal.returns-clause-words
returns-clause-words c = λ own is.
    let texts = c.self.inside.texts in
    let names = c.self.inside.names.entries in
    let fields = c.args.fields.now in
    let marks = c.mark_missing-words.new.marks in
    let literals : own.literals ≡ map (literal_of texts) names = rw (← c.self.view_is) at is in
    let known = rw (← c.self.view_is) at c.requires in
    cost_of_marked own texts names fields marks c.mark_missing-words.result
    (marked_are_missing own texts names fields marks c.self.invariant.texts_differ c.self.invariant.within literals known
    c.mark_missing-words.ensures.marks) c.mark_missing-words.ensures.words

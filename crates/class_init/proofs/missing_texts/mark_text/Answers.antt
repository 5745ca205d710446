-- A text that has no mark adds what its object costs.
use Rattle.std.proofs.Common.{◌≡◌, ◌+◌, ◌∙◌, Some, ap, false, slice_get, sum_by, sym}
use Rattle.std.proofs.lemmas.Option.{slice_get-get_or}
use Rattle.class_init.specs.MissingTexts.{marked, text_words}
use Rattle.class_init.proofs.MarkedTexts.{one_mark_more}
use Rattle.class_init.proofs.missing_texts.mark_text.Goals as goal

pub returns-clause-words : goal.returns-clause-words
returns-clause-words c =
    let texts = c.args.texts.now in
    let marks = c.args.marks.now in
    let off : slice_get marks c.args.place ≡ Some false =
    slice_get-get_or marks c.args.place false (rw c.requires.size c.requires.within) ∙ ap Some c.if-marks-place.false in
    one_mark_more text_words texts marks c.args.place c.at.result.now c.at.ensures off
    ∙ ap (λ n. sum_by text_words (marked texts marks) + n) (sym c.words_of.ensures)

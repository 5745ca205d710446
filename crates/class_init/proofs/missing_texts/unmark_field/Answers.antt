-- The place that is missing is that of a text, and its mark goes.
use Rattle.std.proofs.Common.{refl}
use Rattle.std.proofs.lemmas.Option.{slice_get_within}
use Rattle.class_init.proofs.MarkedTexts.{unmarked_then}
use Rattle.class_init.proofs.missing_texts.unmark_field.Goals as goal

pub bounds-marks-place : goal.bounds-marks-place
bounds-marks-place c =
    let m = (c.in-Some.ensures c.in-Some.place).1 refl in
    rw c.requires (slice_get_within c.args.texts.now c.in-Some.place m.text m.there)

pub returns-in-Some-clause-marks : goal.returns-in-Some-clause-marks
returns-in-Some-clause-marks c = λ place on.
    let s = unmarked_then c.args.marks.now c.in-Some.place place on in (s.0, λ m. s.1 ((c.in-Some.ensures place).0 m))

-- The place that is missing is that of a text, and gets a mark.
use Rattle.std.proofs.Common.{◌<◌, inl, inr, length, refl}
use Rattle.std.proofs.lemmas.Option.{slice_get_within}
use Rattle.class_init.proofs.MissingFound.{marked_by_place}
use Rattle.class_init.proofs.missing_texts.mark_field.Goals as goal

pub mark_text-requires-clause-within : goal.mark_text-requires-clause-within
mark_text-requires-clause-within c =
    let m = (c.in-Some.ensures c.in-Some.place).1 refl in slice_get_within c.args.texts.now c.in-Some.place m.text m.there

pub returns-in-Some-clause-marks : goal.returns-in-Some-clause-marks
returns-in-Some-clause-marks c =
    let m = (c.in-Some.ensures c.in-Some.place).1 refl in
    let low : c.in-Some.place < length c.args.marks.now = rw c.requires (slice_get_within c.args.texts.now c.in-Some.place m.text m.there) in
    marked_by_place c.args.texts.now c.args.names.now.entries c.args.field.now c.args.marks.now c.mark_text.new.marks c.in-Some.place low
    c.mark_text.ensures.marks (λ k. c.in-Some.ensures k)

pub returns-in-None-clause-marks : goal.returns-in-None-clause-marks
returns-in-None-clause-marks c = λ place. (
  λ on. inl on,
  λ h. elim h [
    | inl on ↦ on
    | inr m ↦ absurd (c.in-None.ensures place m)
  ],
)

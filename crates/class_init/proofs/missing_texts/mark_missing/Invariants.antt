-- The missing texts of the first fields are marked, and what they cost is counted.
use Rattle.std.proofs.Common.{◌≡◌, ◌-◌, ◌^◌, length, min, sum_by, take}
use Rattle.class_init.specs.MissingTexts.{marked, text_words}
use Rattle.class_init.proofs.MissingFound.{AreOf}
use Rattle.class_init.proofs.missing_texts.mark_missing.Given as goal

abbrev pub invariant-loop-field : goal.invariant-loop-field
invariant-loop-field l =
    record {
      marks : AreOf l.texts l.names.entries (take l.field-index l.fields) l.marks;
      size : length l.marks ≡ length l.texts;
      words : l.words ≡ min (sum_by text_words (marked l.texts l.marks)) (2 ^ 64 - 1);
    }

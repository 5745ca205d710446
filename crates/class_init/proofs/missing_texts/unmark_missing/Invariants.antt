-- The marks that are left are of missing texts of the fields that are left.
use Rattle.std.proofs.Common.{◌≡◌, drop, length}
use Rattle.class_init.proofs.MissingFound.{AreAmong}
use Rattle.class_init.proofs.missing_texts.unmark_missing.Given as goal

abbrev pub invariant-loop-field : goal.invariant-loop-field
invariant-loop-field l =
    record {
      marks : AreAmong l.texts l.names.entries (drop l.field-index l.fields) l.marks;
      size : length l.marks ≡ length l.texts;
    }

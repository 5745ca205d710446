-- The missing text of one field after the other is marked.
use Rattle.std.proofs.Common.{◌-◌, ◌^◌, ◌∙◌, false, length, refl, sum_by, take}
use Rattle.std.proofs.lemmas.List.{length-replicate, take_all, take_more}
use Rattle.class_init.specs.MissingTexts.{marked, text_words}
use Rattle.class_init.proofs.MarkedTexts.{none_marked}
use Rattle.class_init.proofs.MissingFound.{of_no_fields, of_one_more, sum_more}
use Rattle.class_init.proofs.missing_texts.mark_missing.Goals as goal

pub loop-field-init : goal.loop-field-init
loop-field-init c =
    let texts = c.args.texts.now in
    record {
      marks = rw c.requires (of_no_fields texts c.args.names.now.entries (length texts));
      size = rw c.requires (length-replicate (length texts) false);
      words = rw (c.requires, none_marked texts (length texts)) refl;
    }

pub mark_field-requires : goal.mark_field-requires
mark_field-requires c = c.loop-field.invariant.size

pub loop-field-preserved : goal.loop-field-preserved
loop-field-preserved c =
    let texts = c.args.texts.now in
    let names = c.args.names.now.entries in
    let fields = c.args.fields.now in
    let i = c.loop-field.field-index in
    let field = c.field-item.result in
    record {
      marks =
          rw (take_more fields i field c.loop-field-test.true, ← (c.field-item.is))
          (of_one_more texts names (take i fields) field c.loop-field.marks c.mark_field.new.marks c.loop-field.invariant.marks c.mark_field.ensures.marks);
      size = c.mark_field.ensures.size;
      words =
          c.saturating_add-words.ensures
          ∙ sum_more c.loop-field.words c.mark_field.result (sum_by text_words (marked texts c.loop-field.marks))
          (sum_by text_words (marked texts c.mark_field.new.marks)) (2 ^ 64 - 1) c.loop-field.invariant.words c.mark_field.ensures.words;
    }

pub returns-clause-marks : goal.returns-clause-marks
returns-clause-marks c = rw (take_all c.loop-field.field-index c.args.fields.now c.loop-field-test.false) at c.loop-field.invariant.marks

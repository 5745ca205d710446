-- The mark of one field's missing text after the other goes.
use Rattle.std.proofs.Common.{◌≡◌, [], add-one, drop, length, suc}
use Rattle.std.proofs.lemmas.List.{drop_all}
use Rattle.list_lemmas.proofs.ItemsByPlace.{drop_next, item_read}
use Rattle.list_lemmas.proofs.ItemsOfLists.{none_in}
use Rattle.class_init.proofs.MarkedTexts.{no_mark_left}
use Rattle.class_init.proofs.MissingFound.{among_one_less}
use Rattle.class_init.proofs.missing_texts.unmark_missing.Goals as goal

pub loop-field-init : goal.loop-field-init
loop-field-init c = record { marks = c.requires.marks; size = c.requires.size }

pub unmark_field-requires : goal.unmark_field-requires
unmark_field-requires c = c.loop-field.invariant.size

pub loop-field-preserved : goal.loop-field-preserved
loop-field-preserved c =
    let fields = c.args.fields.now in
    let i = c.loop-field.field-index in
    let field = c.field-item.result in
    let next = drop_next fields i field (item_read fields i field c.loop-field-test.true c.field-item.is) in
    record {
      marks =
          rw add-one
          (among_one_less c.args.texts.now c.args.names.now.entries (drop (suc i) fields) field c.loop-field.marks c.unmark_field.new.marks
          (rw next at c.loop-field.invariant.marks) c.unmark_field.ensures.marks);
      size = c.unmark_field.ensures.size;
    }

pub returns : goal.returns
returns c =
    let texts = c.args.texts.now in
    let fields = c.args.fields.now in
    let i = c.loop-field.field-index in
    let none : drop i fields ≡ [] = drop_all i fields c.loop-field-test.false in
    no_mark_left (length texts) c.loop-field.marks c.loop-field.invariant.size
    (λ place on. let h = c.loop-field.invariant.marks place on in none_in h.0 (drop i fields) none h.1)

-- The texts of the class have rooms, and keep them.
use Rattle.std.proofs.Common.{◌≡◌, Some, slice_get}
use Rattle.list_lemmas.proofs.ItemsByPlace.{item_lent}
use Rattle.jk_model_classes.specs.declared.records.Link.TheVariants as To
use Rattle.loaded_class_check.proofs.FirstStatics.{constant_has_room, link_has_room}
use Rattle.loaded_class_check.proofs.class_init_tests.missing.Goals as goal

pub set_literal-requires-clause-known : goal.set_literal-requires-clause-known
set_literal-requires-clause-known c =
    let r = c.in-Some.class.now in
    let here = item_lent r.links 1 c.in-Some-Text.field-0 c.in-Some-Text.ensures in
    let at : slice_get r.links 1 ≡ Some (To.Text c.in-Some-Text.hi) = cc (here, c.in-Some-Text.field-0-is) in
    rw c.missing_words-before.ensures.same
    (link_has_room c.args.t.now c.args.names.now c.in_ok-own.own _ r 1 c.in-Some-Text.hi c.in_ok-own.ensures.rooms c.in-Some.ensures at)

pub missing_words-before-requires : goal.missing_words-before-requires
missing_words-before-requires c = λ f text has constant.
    constant_has_room c.args.t.now c.args.names.now c.in_ok-own.own _ c.in-Some.class.now c.in_ok-own.ensures.rooms c.in-Some.ensures f text
    (rw c.as_slice.ensures at has) constant

pub missing_words-after-requires : goal.missing_words-after-requires
missing_words-after-requires c = λ f text has constant.
    rw (c.set_literal.ensures, c.missing_words-before.ensures.same)
    (constant_has_room c.args.t.now c.args.names.now c.in_ok-own.own _ c.in-Some.class.now c.in_ok-own.ensures.rooms c.in-Some.ensures f text
    (rw c.as_slice-2.ensures at has) constant)

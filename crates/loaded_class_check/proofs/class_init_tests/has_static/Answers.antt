-- The field that was read is a static one of a class with a part.
use Rattle.std.proofs.Common.{◌≡◌, Some, slice_get}
use Rattle.std.specs.Prelude.{IsTrue}
use Rattle.list_lemmas.proofs.ItemsByPlace.{item_lent}
use Rattle.jk_model.specs.Flags.{STATIC, has}
use Rattle.loaded_class_check.proofs.FirstStatics.{has_first_static}
use Rattle.loaded_class_check.proofs.class_init_tests.has_static.Goals as goal

pub returns-in-Some-get : goal.returns-in-Some-get
returns-in-Some-get c = λ yes own first.
    let r = c.in-Some.class.now in
    let f = c.in-Some-get.field.now in
    let here = item_lent r.fields _ c.in-Some-get.field c.in-Some-get.ensures in
    let at : slice_get r.fields c.args.m.index ≡ Some f = cc (here, c.from.ensures) in
    let is : IsTrue (has f.flags STATIC) = cc (yes, c.has.ensures) in
    has_first_static c.args.t.now c.args.names.now own c.args.m.class r c.args.m.index f first c.in-Some.ensures at is

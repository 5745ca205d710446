-- The first ConstantValue names a constant.
use Rattle.std.proofs.Common.{◌≡◌, ℕ, List, arith, refl, subst, sym, Some, length, slice_get}
use Rattle.std.proofs.lemmas.Option.{slice_get_read}
use Rattle.jk_model_classes.specs.MemberAttributes.{IsConstantValue}
use Rattle.class_linker.specs.KnownConstants.{NamesConstant}
use Rattle.class_linker.proofs.ItemByItem.{item_contained, none_more}
use Rattle.class_linker.proofs.constants.constant_entry.Goals as goal

pub named_entry-requires : goal.named_entry-requires
named_entry-requires c =
    let attributes = c.args.attributes.now in
    let at : slice_get attributes c.loop-a.a-index ≡ Some c.a-item.result =
    slice_get_read attributes (length attributes) c.loop-a.a-index c.a-item.result refl (omega arith) c.a-item.is in
    subst (λ (b : List ℕ). NamesConstant c.args.scope.now.file.now.pool b) (sym c.as_slice.ensures)
    (c.requires.good c.loop-a.a-index c.a-item.result at (c.spells.ensures.0 c.if-spells.true))

pub loop-a-preserved : goal.loop-a-preserved
loop-a-preserved c =
    let attributes = c.args.attributes.now in
    let at : slice_get attributes c.loop-a.a-index ≡ Some c.a-item.result =
    slice_get_read attributes (length attributes) c.loop-a.a-index c.a-item.result refl (omega arith) c.a-item.is in
    none_more (IsConstantValue c.args.scope.now.file.now.pool) attributes c.loop-a.a-index c.a-item.result at
    (λ called. let told = c.spells.ensures.1 called in let off = c.if-spells.false in absurd cc) c.loop-a.invariant

pub returns : goal.returns
returns c = λ entry (a, index, there, called, bytes, at).
    let attributes = c.args.attributes.now in
    c.loop-a.invariant there.0 a (omega (arith, there.1, c.loop-a-test.false)) (item_contained attributes a there) called

-- The first Code has a body, and there can't but be one.
use Rattle.std.proofs.Common.{◌≡◌, ℕ, List, arith, refl, subst, sym, Some, length, slice_get}
use Rattle.std.proofs.lemmas.Option.{slice_get_read, slice_get_within}
use Rattle.list_lemmas.proofs.AnswersTold.{ok_map}
use Rattle.jk_model.specs.declared.class_file.Attribute.{Attribute}
use Rattle.jk_model.specs.ClassFile.{CodeLayout}
use Rattle.jk_model_classes.specs.Items.{HasItem}
use Rattle.jk_model_classes.specs.MemberAttributes.{IsCodeAttribute}
use Rattle.class_linker.specs.KnownMembers.{IsKnownBody}
use Rattle.class_linker.proofs.ItemByItem.{none_more}
use Rattle.class_linker.proofs.members.method_code.Goals as goal

pub code_of-requires : goal.code_of-requires
code_of-requires c =
    let attributes = c.args.attributes.now in
    let at : slice_get attributes c.loop-a.a-index ≡ Some c.a-item.result =
    slice_get_read attributes (length attributes) c.loop-a.a-index c.a-item.result refl (omega arith) c.a-item.is in
    subst (λ (b : List ℕ). IsKnownBody b) (sym c.as_slice.ensures)
    (c.requires.bodies c.loop-a.a-index c.a-item.result at (c.spells.ensures.0 c.if-spells.true))

pub returns-then-spells : goal.returns-then-spells
returns-then-spells c =
    let attributes = c.args.attributes.now in
    let pool = c.args.scope.now.file.now.pool in
    let at : slice_get attributes c.loop-a.a-index ≡ Some c.a-item.result =
    slice_get_read attributes (length attributes) c.loop-a.a-index c.a-item.result refl (omega arith) c.a-item.is in
    ok_map (λ code. CodeLayout c.as_slice.result.now code) (λ code. HasItem (λ (a : Attribute). IsCodeAttribute pool a × CodeLayout a.body code) attributes)
    c.code_of.result
    (λ code layout. (
      c.loop-a.a-index,
      c.a-item.result,
      at,
      (
        c.spells.ensures.0 c.if-spells.true,
        subst (λ (b : List ℕ). CodeLayout b code) c.as_slice.ensures layout,
      ),
    )) c.code_of.ensures

pub loop-a-preserved : goal.loop-a-preserved
loop-a-preserved c =
    let attributes = c.args.attributes.now in
    let at : slice_get attributes c.loop-a.a-index ≡ Some c.a-item.result =
    slice_get_read attributes (length attributes) c.loop-a.a-index c.a-item.result refl (omega arith) c.a-item.is in
    none_more (IsCodeAttribute c.args.scope.now.file.now.pool) attributes c.loop-a.a-index c.a-item.result at
    (λ called. let told = c.spells.ensures.1 called in let off = c.if-spells.false in absurd cc) c.loop-a.invariant

pub unreachable-requires : goal.unreachable-requires
unreachable-requires c =
    c.requires.some (λ (j, a, at, called).
    c.loop-a.invariant j a (omega (arith, slice_get_within c.args.attributes.now j a at, c.loop-a-test.false)) at called)

-- A method that isn't abstract runs the code of its Code.
use Rattle.std.proofs.Common.{◌≡◌, List, ap, inr, refl, subst, sym, ◌∙◌, false}
use Rattle.std.specs.Prelude.{not}
use Rattle.list_lemmas.proofs.ItemsOfLists.{Contains-at}
use Rattle.jk_model.specs.declared.class_file.Attribute.{Attribute}
use Rattle.jk_model.specs.ClassFile.{CodeLayout}
use Rattle.jk_model.specs.Flags.{ABSTRACT, has}
use Rattle.jk_model_classes.specs.Items.{HasItem}
use Rattle.jk_model_classes.specs.MemberAttributes.{IsCodeAttribute}
use Rattle.class_linker.specs.KnownMembers.{HasBodies, HasSomeBody}
use Rattle.class_linker.proofs.members.method_body.Goals as goal

pub method_code-requires-clause-some : goal.method_code-requires-clause-some
method_code-requires-clause-some c =
    let off : has c.args.flags ABSTRACT ≡ false = sym c.has.ensures ∙ c.if-has.false in
    subst (λ (list : List Attribute). HasSomeBody c.args.scope.now.file.now.pool list) (sym c.as_slice.ensures)
    (c.requires.good.code c.args.flags c.requires.flags (ap not off)).some

pub method_code-requires-clause-bodies : goal.method_code-requires-clause-bodies
method_code-requires-clause-bodies c =
    subst (λ (list : List Attribute). HasBodies c.args.scope.now.file.now.pool list) (sym c.as_slice.ensures) c.requires.good.bodies

pub linked_code-requires-clause-good : goal.linked_code-requires-clause-good
linked_code-requires-clause-good c =
    let off : has c.args.flags ABSTRACT ≡ false = sym c.has.ensures ∙ c.if-has.false in
    let code = c.in_ok-code.code in
    (c.requires.good.code c.args.flags c.requires.flags (ap not off)).code code
    (subst (λ (list : List Attribute). HasItem (λ (a : Attribute). IsCodeAttribute c.args.scope.now.file.now.pool a × CodeLayout a.body code) list)
    c.as_slice.ensures c.in_ok-code.ensures)

pub returns : goal.returns
returns c = λ s names.
    let off : has c.args.flags ABSTRACT ≡ false = sym c.has.ensures ∙ c.if-has.false in
    let code = c.in_ok-code.code in
    let pool = c.args.scope.now.file.now.pool in
    let item : HasItem (λ (a : Attribute). IsCodeAttribute pool a × CodeLayout a.body code) c.args.method.now.attributes =
    subst (λ (list : List Attribute). HasItem (λ
    (a : Attribute). IsCodeAttribute pool a × CodeLayout a.body code) list) c.as_slice.ensures c.in_ok-code.ensures in
    inr (
      ap not off,
      (
        item.1,
        code,
        c.in_ok-linked.linked,
        Contains-at c.args.method.now.attributes item.0 item.1 item.2,
        item.3.0,
        item.3.1,
        c.in_ok-linked.ensures s names,
        refl,
      ),
    )

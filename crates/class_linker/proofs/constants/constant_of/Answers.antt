-- A static field has the constant that its ConstantValue names.
use Rattle.std.proofs.Common.{List, inl, inr, refl, subst, sym}
use Rattle.std.specs.Prelude.{IsTrue}
use Rattle.list_lemmas.proofs.AnswersTold.{ok_map}
use Rattle.jk_model.specs.Flags.{STATIC, has}
use Rattle.jk_model.specs.declared.class_file.Attribute.{Attribute}
use Rattle.jk_model_folders.specs.LinkedClasses.{HasConstantEntry, IsConstantFrom, IsConstantOfField}
use Rattle.class_linker.specs.KnownConstants.{HasNoBadConstant}
use Rattle.class_linker.proofs.GoodConstants.{no_bad_constant, text_of_entry}
use Rattle.class_linker.proofs.constants.constant_of.Goals as goal

pub constant_entry-requires-clause-good : goal.constant_entry-requires-clause-good
constant_entry-requires-clause-good c =
    let pool = c.args.scope.now.file.now.pool in
    let static : IsTrue (has c.args.field.now.flags STATIC) = let value = c.has.ensures in let on = c.if-not-has.false in cc in
    subst (λ (list : List Attribute). HasNoBadConstant pool list) (sym c.as_slice.ensures) (no_bad_constant pool c.args.field.now c.requires.good static)

pub constant_from-requires-clause-text : goal.constant_from-requires-clause-text
constant_from-requires-clause-text c =
    let named : HasConstantEntry c.args.scope.now.file.now.pool c.as_slice.result.now c.in-Some.entry.now = c.in-Some.ensures.0 in
    text_of_entry c.args.scope.now.file.now c.args.scope.now.names.now c.requires.scope.linkable named.1 c.in-Some.entry.now named.5

pub returns-in-Some : goal.returns-in-Some
returns-in-Some c =
    let pool = c.args.scope.now.file.now.pool in
    let entry = c.in-Some.entry.now in
    let static : IsTrue (has c.args.field.now.flags STATIC) = let value = c.has.ensures in let on = c.if-not-has.false in cc in
    let named : HasConstantEntry pool c.args.field.now.attributes entry =
    subst (λ (list : List Attribute). HasConstantEntry pool list entry) c.as_slice.ensures c.in-Some.ensures.0 in
    ok_map (IsConstantFrom pool c.args.kind entry) (IsConstantOfField pool c.args.field.now c.args.kind) c.constant_from.result
    (λ l from. inl (static, (entry, named, from))) c.constant_from.ensures

pub returns-in-None : goal.returns-in-None
returns-in-None c =
    let pool = c.args.scope.now.file.now.pool in
    inr (
      (λ static entry named. c.in-None.ensures entry (subst (λ (list : List Attribute). HasConstantEntry pool list entry)
          (sym c.as_slice.ensures) named)),
      refl,
    )

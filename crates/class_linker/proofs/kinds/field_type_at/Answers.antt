-- One more type is known.
use Rattle.std.proofs.Common.{ℕ, List, Option, arith, subst, sym}
use Rattle.jk_model_classes.specs.declared.records.TypeRef.{TypeRef}
use Rattle.jk_model_classes.specs.Worlds.{class_named}
use Rattle.class_linker.specs.KnownDescriptors.{AreTypesKnown, IsTypeAt}
use Rattle.class_linker.specs.KnownTypes.{IsFieldOf, IsTypeOf}
use Rattle.class_linker.proofs.KnownOnce.{text_within, types_more}
use Rattle.class_linker.proofs.kinds.field_type_at.Goals as goal

pub type_of_field-requires : goal.type_of_field-requires
type_of_field-requires c =
    subst (λ (units : List ℕ). IsFieldOf (class_named c.args.scope.now.names.now) units) (sym c.as_slice-2.ensures)
    (c.requires.field.is c.text.result.now c.text.ensures)

pub replace-requires : goal.replace-requires
replace-requires c =
    omega (arith, c.from.ensures, c.requires.known.long, text_within c.args.scope.now.file.now.pool c.args.i c.text.result.now c.text.ensures)

pub returns-clause-known : goal.returns-clause-known
returns-clause-known c =
    let m = class_named c.args.scope.now.names.now in
    let pool = c.args.scope.now.file.now.pool in
    let t = c.in_ok-t.t in
    let is : IsTypeAt m pool c.args.i t =
    (c.text.result.now, c.text.ensures, subst (λ (units : List ℕ). IsTypeOf m units t) c.as_slice-2.ensures c.in_ok-t.ensures) in
    subst (λ (list : List (Option TypeRef)). AreTypesKnown m pool list) (sym c.replace.ensures.new)
    (types_more m pool c.args.known.now c.from.result c.args.i t c.from.ensures c.requires.known is)
